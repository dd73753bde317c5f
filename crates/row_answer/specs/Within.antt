-- The limits of an answer: every sort of a store keeps them, so does a record's sort unless its tree is too large, and which
-- sorts do not.
use Prim.Native.Nat.{ℕ, zero, suc, ◌≤◌, ◌<◌}
use Rattle.std.specs.Prelude.{◌≡◌, Bool, false, length, get_or, leb}
use Rattle.std.proofs.Math.Path.{refl, ap, ap₂}
use Rattle.std.proofs.Common.{◌∙◌, arith, not-suc-le-zero, le-leb}
use Rattle.std.proofs.Math.Bool.{true, ◌&&◌}
use mathlib.Core.List.{List, [], ◌∷◌}
use Rattle.std.proofs.lemmas.Bool.{lt-leb}
use Rattle.record.specs.Cases.{false-first, false-second}
use Rattle.record.specs.Sort.{Sort, Sorts, node, set, count, size}
use Rattle.record.specs.Record.{Fields, leaf, sorts_of, sort_of}
use Rattle.record.specs.Decode.{fields_at, Shape, Below, Fresh, store_of, sort_at, Stored}
use Rattle.record.specs.Forms.{Which, is_var, is_par, is_node, which, sort-var, sort-par, sort-other, par-one}
use Rattle.record.specs.StoreLaws.{sort-node}
use Rattle.record.specs.Sizes.{count-sorts, most-few}
use Rattle.store.specs.Good.{Good}
use Rattle.row_rules.specs.Outcome.{shallow, shallow_all, within}

-- The sorts with these numbers, where each sort below m is shallow.
module _ (st : List Sort) (m : ℕ) (each : (i : ℕ) → i < m → shallow (get_or st i leaf) ≡ true) where
  shallow-sorts : (rs : List ℕ) → ((j : ℕ) → j < length rs → get_or rs j 0 < m) → shallow_all (sorts_of st rs) ≡ true
  unfolding shallow sorts_of
  shallow-sorts [] h = refl
  shallow-sorts (r ∷ rs) h = ap₂ ◌&&◌ (each r (h 0 (omega arith))) (shallow-sorts rs (λ j l. h (suc j) (omega arith)))

  -- A record over them stands for a shallow sort.
  shallow-sort : (f : Fields) → Shape f → Below f m → shallow (sort_of st f) ≡ true
  unfolding shallow
  shallow-sort f s h = go (which f.kind)
    where
      go : Which f.kind → shallow (sort_of st f) ≡ true
      go (is_var e) = ap shallow (sort-var st f e)
      go (is_par e) =
          ap shallow (sort-par st f e)
          ∙ ap₂ ◌&&◌ (le-leb (length f.names) 64 s.few) (each (get_or f.list 0 0) (h 0 (omega (arith, par-one f s e))))
      go (is_node p q) =
          ap shallow (sort-other st f p q)
          ∙ ap₂ ◌&&◌ (le-leb f.number 65535 (omega (arith, s.number)))
          (ap₂ ◌&&◌
          (le-leb (count (sorts_of st f.list)) 64 (omega (arith, count-sorts st f.list, s.most, most-few f.kind s.known)))
          (shallow-sorts f.list h))

-- EVERY SORT OF A STORE keeps the limits: a record's parts stand before it.
module _ (b p : List ℕ) (n : ℕ) (stored : Stored b p n) where
  shallow-below : (j k : ℕ) → k < j → k < n → shallow (sort_at b p n k) ≡ true
  unfolding sort_at
  shallow-below zero k h l = absurd (not-suc-le-zero h)
  shallow-below (suc j) k h l =
      ap shallow (sort-node b p n k stored l)
      ∙ shallow-sort (store_of b p n) k (λ i o. shallow-below j i (omega arith) (omega arith)) (fields_at b (get_or p k 0))
      (stored.each k l).shape (stored.each k l).below

  pub shallow-at : (k : ℕ) → k < n → shallow (sort_at b p n k) ≡ true
  shallow-at k l = shallow-below (suc k) k (omega arith) l

  shallow-fresh : (r : List ℕ) → Fresh r n → shallow (sort_of (store_of b p n) (fields_at r 0)) ≡ true
  unfolding sort_at
  shallow-fresh r fresh = shallow-sort (store_of b p n) n (λ i l. shallow-at i l) (fields_at r 0) fresh.shape fresh.below

  -- A RECORD'S SORT of a tree size within the limit.
  pub within-fresh : (r : List ℕ) → Fresh r n → size (sort_of (store_of b p n) (fields_at r 0)) ≤ 4096 → within (sort_of (store_of b p n) (fields_at r 0)) ≡ true
  unfolding within
  within-fresh r fresh small = ap₂ ◌&&◌ (shallow-fresh r fresh) (le-leb (size (sort_of (store_of b p n) (fields_at r 0))) 4096 small)

  -- And the Set of it.
  pub within-set : (r : List ℕ) → Fresh r n → size (sort_of (store_of b p n) (fields_at r 0)) ≤ 4095 → within (set (sort_of (store_of b p n) (fields_at r 0))) ≡ true
  unfolding within shallow count size
  within-set r fresh small =
      let t = sort_of (store_of b p n) (fields_at r 0) in
      ap₂ ◌&&◌ (ap (λ (x : Bool). x && true) (shallow-fresh r fresh)) (le-leb (size (set t)) 4096 (omega arith))

pub within-at : (b p ix : List ℕ) (n u : ℕ) → Good b p ix n u → (k : ℕ) → k < n → within (sort_at b p n k) ≡ true
unfolding within
within-at b p ix n u g k l = ap₂ ◌&&◌ (shallow-at b p n g.stored k l) (le-leb (size (sort_at b p n k)) 4096 (g.sized.small k l))

-- TOO LARGE a tree, too wide a vector, too long a list.
pub over-size : (s : Sort) → 4096 < size s → within s ≡ false
unfolding within
over-size s h = false-second (shallow s) (leb (size s) 4096) (lt-leb (size s) 4096 h)

pub over-set : (s : Sort) → 4095 < size s → within (set s) ≡ false
unfolding size
over-set s h = over-size (set s) (omega arith)

pub over-width : (k a w : ℕ) (ss : Sorts) → 65535 < w → within (node k a w ss) ≡ false
unfolding within shallow
over-width k a w ss h =
    false-first (leb w 65535 && (leb (count ss) 64 && shallow_all ss)) (leb (size (node k a w ss)) 4096)
    (false-first (leb w 65535) (leb (count ss) 64 && shallow_all ss) (lt-leb w 65535 h))

shallow-long : (k a w : ℕ) (ss : Sorts) → 64 < count ss → shallow (node k a w ss) ≡ false
unfolding shallow
shallow-long k a w ss h =
    false-second (leb w 65535) (leb (count ss) 64 && shallow_all ss) (false-first (leb (count ss) 64) (shallow_all ss) (lt-leb (count ss) 64 h))

pub over-list : (k a w : ℕ) (ss : Sorts) → 64 < count ss → within (node k a w ss) ≡ false
unfolding within
over-list k a w ss h = false-first (shallow (node k a w ss)) (leb (size (node k a w ss)) 4096) (shallow-long k a w ss h)

pub over-inner : (k a w : ℕ) (ss : Sorts) → 64 < count ss → within (set (node k a w ss)) ≡ false
unfolding within shallow
over-inner k a w ss h =
    let s = node k a w ss in
    false-first (shallow (set s)) (leb (size (set s)) 4096) (false-first (shallow s) true (shallow-long k a w ss h))
