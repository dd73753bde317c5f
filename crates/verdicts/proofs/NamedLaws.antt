-- The scan of a store for a Par, and what its answer tells of a sheet without questions.
use Rattle.std.proofs.Common.{MatchBool, length}
use Rattle.std.specs.List.{HoldsAt, AllWithin, range_with_len}
use Rattle.std.proofs.lemmas.List.FromFn.{length-range_with_len, get_or-range_with_len}
use Prim.Native.Nat.{ℕ, zero, suc, ◌<◌}
use mathlib.Core.Path.{◌≡◌, refl, sym, ap, subst, ◌∙◌}
use mathlib.Core.Bool.{Bool, true, false}
use mathlib.Core.List.{List}
use native.Mathlib.Omega.{arith}
use lib.ListN.{length, get_or}
use Rattle.std.specs.List.{HoldsAt, AllWithin, range_with_len}
use Rattle.std.proofs.lemmas.List.FromFn.{length-range_with_len, get_or-range_with_len}
use Rattle.record.specs.Sort.{Sort, kind_of}
use Rattle.record.specs.Record.{Fields, sort_of}
use Rattle.record.specs.Forms.{Which, is_var, is_par, is_node, which, sort-var, sort-par, sort-other}
use Rattle.record.specs.Decode.{fields_at, store_of, sort_at}
use Rattle.record.specs.StoreLaws.{sort-made}
use Rattle.substitution.specs.Premises.{parless}
use Rattle.row_rules.specs.Parless.{parless_each}
use Rattle.row_rules.proofs.ParlessLaws.{parless-sorts, parless-append}
use Rattle.verdicts.specs.Named.{ParIn, UsesNames}

abbrev pub IsPar : List ℕ → List ℕ → ℕ → ℕ → Type 0
IsPar b p n k = kind_of (sort_at b p n k) ≡ 12

pub par-in : (b p : List ℕ) (n : ℕ) (r : Bool) → MatchBool r ((k : ℕ) × (k < n) × (k < n → IsPar b p n k)) ((k : ℕ) → k < n → k < n → IsPar b p n k → ⊥) → ParIn b p n r
par-in b p n true h = (h.0, h.1, h.2 h.1)
par-in b p n false h = λ k l. h k l l

-- What `any` over the numbers below n tells of each of them.
pub below-any : (Yes No : ℕ → Type 0) (n : ℕ) (r : Bool)
    → MatchBool r ((k : ℕ) × (k < length (range_with_len 0 n)) × HoldsAt Yes (range_with_len 0 n) k) (AllWithin No (range_with_len 0 n) 0 (length (range_with_len 0 n)))
    → MatchBool r ((k : ℕ) × (k < n) × Yes k) ((k : ℕ) → k < n → No k)
below-any Yes No n true (k, l, y) =
    let o : k < n = omega (arith, length-range_with_len 0 n) in
    (k, o, subst Yes (omega (arith, get_or-range_with_len 0 n k 0 o)) (y 0))
below-any Yes No n false h = λ k o. subst No (omega (arith, get_or-range_with_len 0 n k 0 o)) (h k 0 (omega arith) (omega (arith, length-range_with_len 0 n)))

---------------------------------------------------------------- with the questions
pub none-asked : (b p : List ℕ) (n q : ℕ) {t : Bool} → UsesNames b p n q t → t ≡ false → q ≡ 0
none-asked b p n q {t} w e = (subst (UsesNames b p n q) e w).0

---------------------------------------------------------------- no Par in a store
-- A sort over sorts without a Par has none, unless it is one.
sort-parless : (st : List Sort) (f : Fields) → parless_each st ≡ true → (kind_of (sort_of st f) ≡ 12 → ⊥) → parless (sort_of st f) ≡ true
unfolding parless
sort-parless st f h d = go (which f.kind)
  where
    go : Which f.kind → parless (sort_of st f) ≡ true
    go (is_var e) = ap parless (sort-var st f e)
    go (is_par e) = absurd (d (ap kind_of (sort-par st f e)))
    go (is_node x y) = ap parless (sort-other st f x y) ∙ parless-sorts st f.list h

-- Where no sort of a store is a Par, none has one in it: its parts are sorts of the store.
store-parless : (b p : List ℕ) (n : ℕ) → ParIn b p n false → parless_each (store_of b p n) ≡ true
unfolding store_of parless_each
store-parless b p zero d = refl
store-parless b p (suc n) d =
    let earlier : ParIn b p n false = λ k l e. d k (omega arith) (ap kind_of (sort-made b p k (suc n) (omega arith) ∙ sym (sort-made b p k n l)) ∙ e) in
    let before = store-parless b p n earlier in
    let f = fields_at b (get_or p n 0) in
    parless-append (store_of b p n) (sort_of (store_of b p n) f) before
    (sort-parless (store_of b p n) f before (λ e. d n (omega arith) (ap kind_of (sort-made b p n (suc n) (omega arith)) ∙ e)))

pub none-parless : (b p : List ℕ) (n q : ℕ) {t : Bool} → UsesNames b p n q t → t ≡ false → parless_each (store_of b p n) ≡ true
none-parless b p n q {t} w e = store-parless b p n (subst (UsesNames b p n q) e w).1
