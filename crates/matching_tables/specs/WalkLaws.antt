-- What a walk asks, from a sort to its parts and along a list; lists of different lengths.
use Rattle.std.specs.Prelude.{ℕ, suc, ◌+◌, ◌-◌, ◌<◌, ◌≡◌, true, false, ◌&&◌, List, ◌∷◌, eqb}
use Rattle.std.proofs.Common.{sym, ap, subst, ◌∙◌, arith}
use Rattle.std.proofs.lemmas.Bool.{eqb-false}
use Rattle.record.specs.Kinds.{sort_number}
use Rattle.record.specs.Cases.{by_test}
use Rattle.record.specs.Number.{u16_at, numbers_at}
use Rattle.record.specs.Sort.{count, size, sizes}
use Rattle.record.specs.Sizes.{count-sorts}
use Rattle.record.specs.Decode.{store_of, sort_at}
use Rattle.record.specs.declared.SortRecord.{SortRecord}
use Rattle.record.specs.Codec.{length-numbers_at, number_at}
use Rattle.store.specs.Entry.{EntryHas}
use Rattle.matching_tables.specs.Usable.{Refs, AllBelow, sorts_at, same_head, OneAsks, ListAsks, PairAsks, PairsAsk, ListsAsk}
use Rattle.matching_tables.specs.Entered.{refs-first, refs-rest, entry-refs, entry-size, entry-body, head-same}

---------------------------------------------------------------- one sort, one list
pub parts-ask : {b p : List ℕ} {n k : ℕ} (r : SortRecord) → OneAsks b p n k → EntryHas b p k r → ListAsks b p n b r.parts.at r.parts.count
parts-ask {b} {p} {n} {k} r a e = record { usable = a.usable; refs = entry-refs b p n k a.usable a.known r e }

module _ {b p : List ℕ} {n : ℕ} {s : List ℕ} {x m : ℕ} (a : ListAsks b p n s x m) (some : 0 < m) where
  pub first-asks : OneAsks b p n (u16_at s x)
  first-asks = record { usable = a.usable; known = refs-first s x m n some a.refs }

  pub rest-asks : ListAsks b p n s (x + 2) (m - 1)
  rest-asks = record { usable = a.usable; refs = refs-rest s x m n some a.refs }

---------------------------------------------------------------- two sorts, two lists
module _ {b p : List ℕ} {n k j : ℕ} (a : PairAsks b p n k j) where
  pub left_body : (r : SortRecord) → EntryHas b p k r → sort_number r.kind ≡ 12 → PairAsks b p n (u16_at b r.parts.at) j
  left_body r e h = record { usable = a.usable; left = (entry-body b p n k a.usable a.left r e h).0; right = a.right }

  pub right-body : (q : SortRecord) → EntryHas b p j q → sort_number q.kind ≡ 12 → PairAsks b p n k (u16_at b q.parts.at)
  right-body q e h = record { usable = a.usable; left = a.left; right = (entry-body b p n j a.usable a.right q e h).0 }

  pub both-parts : (r q : SortRecord) → EntryHas b p k r → EntryHas b p j q → same_head r q ≡ true → PairsAsk b p n b r.parts.at b q.parts.at r.parts.count
  both-parts r q e f h =
      record {
        usable = a.usable;
        left = entry-refs b p n k a.usable a.left r e;
        right = subst (λ (i : ℕ). Refs b q.parts.at i n) (sym (head-same r q h).3) (entry-refs b p n j a.usable a.right q f);
      }

  -- Both sizes fall, the right list as long as the left.
  pub both-fall : (r q : SortRecord) → EntryHas b p k r → EntryHas b p j q → same_head r q ≡ true
      → sizes (sorts_at b p n b r.parts.at r.parts.count) + sizes (sorts_at b p n b q.parts.at r.parts.count) + 2 ≡ size (sort_at b p n k) + size (sort_at b p n j)
  both-fall r q e f h =
      omega (
        arith,
        entry-size b p n k a.usable a.left r e,
        entry-size b p n j a.usable a.right q f,
        ap (λ (i : ℕ). sizes (sorts_at b p n b q.parts.at i)) (head-same r q h).3,
      )

module _ {b p : List ℕ} {n : ℕ} {s : List ℕ} {x : ℕ} {t : List ℕ} {y m : ℕ} (a : PairsAsk b p n s x t y m) (some : 0 < m) where
  pub pair-first : PairAsks b p n (u16_at s x) (u16_at t y)
  pair-first = record { usable = a.usable; left = refs-first s x m n some a.left; right = refs-first t y m n some a.right }

  pub pair-rest : PairsAsk b p n s (x + 2) t (y + 2) (m - 1)
  pair-rest = record { usable = a.usable; left = refs-rest s x m n some a.left; right = refs-rest t y m n some a.right }

---------------------------------------------------------------- lists of different lengths
pub count_at : (b p : List ℕ) (n : ℕ) (s : List ℕ) (x m : ℕ) → count (sorts_at b p n s x m) ≡ m
count_at b p n s x m = count-sorts (store_of b p n) (numbers_at s x m) ∙ length-numbers_at s x m

-- Heads that differ: in a field, or in the length of their lists.
pub head-differs : {C : Type 0} (b p : List ℕ) (n : ℕ) (r q : SortRecord) → same_head r q ≡ false
    → (eqb (sort_number r.kind) (sort_number q.kind) && eqb r.name q.name && eqb r.number q.number ≡ false → C)
    → ((count (sorts_at b p n b r.parts.at r.parts.count) ≡ count (sorts_at b p n b q.parts.at q.parts.count) → ⊥) → C) → C
unfolding same_head
head-differs b p n r q h f g =
    by_test (eqb (sort_number r.kind) (sort_number q.kind) && eqb r.name q.name && eqb r.number q.number)
    (λ e. let z : eqb r.parts.count q.parts.count ≡ false = rw e at h in
    g (λ w. eqb-false r.parts.count q.parts.count z (sym (count_at b p n b r.parts.at r.parts.count) ∙ w ∙ count_at b p n b q.parts.at q.parts.count)))
    (λ e. f e)

---------------------------------------------------------------- lists of numbers
-- The numbers of a list of a store are numbers of the store.
pub refs-below : (s : List ℕ) (x m n : ℕ) → Refs s x m n → AllBelow (numbers_at s x m) n
refs-below s x m n r i h =
    let l : i < m = omega (arith, length-numbers_at s x m) in
    omega (arith, number_at s x m i l, r.below i l)

pub lists-ask : {b p : List ℕ} {n : ℕ} {s : List ℕ} {x : ℕ} {t : List ℕ} {y m : ℕ} → PairsAsk b p n s x t y m → ListsAsk b p n (numbers_at s x m) (numbers_at t y m)
lists-ask {n = n} {s = s} {x = x} {t = t} {y = y} {m = m} a =
    record {
      usable = a.usable;
      left = refs-below s x m n a.left;
      right = refs-below t y m n a.right;
      even = length-numbers_at t y m ∙ sym (length-numbers_at s x m);
    }

-- The first of a list of numbers, and the others.
pub below-first : (k : ℕ) (ks : List ℕ) (n : ℕ) → AllBelow (k ∷ ks) n → k < n
below-first k ks n h = h 0 (omega arith)

pub below-rest : (k : ℕ) (ks : List ℕ) (n : ℕ) → AllBelow (k ∷ ks) n → AllBelow ks n
below-rest k ks n h i l = h (suc i) (omega arith)
