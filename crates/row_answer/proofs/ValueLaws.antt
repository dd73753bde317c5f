-- Whether sorts of a list are values, by the kind of each: whatever the count of the store's sorts is.
use Prim.Native.Nat.{ℕ, zero, suc, ◌+◌, ◌*◌, ◌<◌}
use Rattle.std.specs.Prelude.{MatchBool}
use Rattle.std.specs.List.{AllWithin, HoldsAt}
use mathlib.Core.Path.{◌≡◌, refl, sym, ap, ap₂, ◌∙◌}
use mathlib.Core.Bool.{Bool, true, false, ◌&&◌}
use mathlib.Core.List.{List, [], ◌∷◌}
use native.Mathlib.Nat.{not-suc-le-zero}
use native.Mathlib.Omega.{arith}
use lib.ListN.{length, get_or}
use Rattle.record.specs.Number.{u16_at, numbers_at}
use Rattle.record.specs.Codec.{length-numbers_at, number_at}
use Rattle.record.specs.Record.{sorts_of}
use Rattle.record.specs.Decode.{store_of, sort_at, Stored}
use Rattle.record.specs.Cases.{by_test}
use Rattle.store.specs.Entry.{EntryAsks, KindHas}
use Rattle.store.specs.Walk.{entry-asks}
use Rattle.matching_tables.specs.Usable.{Refs}
use Rattle.check_rules.specs.Checked.{value, values}
use Rattle.row_answer.specs.Values.{ValuesAsk, ValuesHave, Valued, value-kind, stored-value}

-- The number in each place of a list is one of a store's.
pub refs-all : (s : List ℕ) (x m n : ℕ) → Refs s x m n → (j : ℕ) → j < length (numbers_at s x m) → get_or (numbers_at s x m) j 0 < n
refs-all s x m n r j l =
    let o : j < m = omega (arith, length-numbers_at s x m) in
    omega (arith, number_at s x m j o, r.below j o)

pub value-asks : {b p s : List ℕ} {x m : ℕ} → ValuesAsk b p s x m → (j : ℕ) {k : ℕ} → j < m → k ≡ u16_at s (x + 2 * j) → EntryAsks b p k
value-asks {b} {p} h j {k} l e = entry-asks b p h.many k h.stored (omega (arith, h.refs.below j l, e))

-- A kind decides.
pub valued-by : {b p : List ℕ} {k q : ℕ} → KindHas b p k q → (t : Bool) → (t ≡ true → q ≡ 12 → ⊥) → (t ≡ false → q ≡ 12) → Valued b p t k
valued-by {b} {p} {k} h true d e n s l = value-kind (sort_at b p n k) (λ z. d refl (h n s l ∙ z))
valued-by {b} {p} {k} h false d e n s l = stored-value b p n k s l (sym (h n s l) ∙ e refl)

module _ (b p : List ℕ) (n : ℕ) (stored : Stored b p n) where
  all-values : (is : List ℕ) → ((j : ℕ) → j < length is → get_or is j 0 < n) → ((j : ℕ) → j < length is → Valued b p true (get_or is j 0)) → values (sorts_of (store_of b p n) is) ≡ true
  unfolding values sorts_of sort_at
  all-values [] l h = refl
  all-values (i ∷ is) l h =
      ap₂ ◌&&◌ (h 0 (omega arith) n stored (l 0 (omega arith))) (all-values is (λ j o. l (suc j) (omega arith)) (λ j o. h (suc j) (omega arith)))

  one_none : (is : List ℕ) → ((j : ℕ) → j < length is → get_or is j 0 < n) → (j : ℕ) → j < length is → Valued b p false (get_or is j 0) → values (sorts_of (store_of b p n) is) ≡ false
  unfolding values sorts_of sort_at
  one_none [] l j o h = absurd (not-suc-le-zero o)
  one_none (i ∷ is) l zero o h = ap (◌&& values (sorts_of (store_of b p n) is)) (h n stored (l 0 o))
  one_none (i ∷ is) l (suc j) o h =
      let z = one_none is (λ k o. l (suc k) (omega arith)) j (omega arith) h in
      by_test (value (sort_at b p n i)) (λ q. rw (q, z) refl) (λ q. rw q refl)

pub values-by : {b p s : List ℕ} {x m : ℕ} (r : Bool)
    → MatchBool r (AllWithin (Valued b p true) (numbers_at s x m) 0 (length (numbers_at s x m))) ((k : ℕ) × (k < length (numbers_at s x m)) × HoldsAt (Valued b p false) (numbers_at s x m) k)
    → ValuesHave b p s x m r
values-by {b} {p} {s} {x} {m} true h n st rf = sym (all-values b p n st (numbers_at s x m) (refs-all s x m n rf) (λ j o. h j 0 (omega arith) o))
values-by {b} {p} {s} {x} {m} false h n st rf = sym (one_none b p n st (numbers_at s x m) (refs-all s x m n rf) h.0 h.1 (h.2 0))
