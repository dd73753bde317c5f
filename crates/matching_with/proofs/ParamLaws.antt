-- param_eq by the numbers and kinds of two sorts, and a parameter met by match_with.
use Prim.Native.Nat.{ℕ, suc, ◌-◌}
use mathlib.Core.Path.{◌≡◌, refl, sym, subst, ◌∙◌}
use mathlib.Core.Bool.{Bool, true, false, ◌&&◌, ◌||◌}
use mathlib.Core.List.{List}
use native.Mathlib.Omega.{arith}
use lib.ListN.{get_or}
use lib.Dec.{eqb}
use borrow.Author.Tests.{ne_eqb}
use Rattle.record.specs.Cases.{by_test}
use Rattle.record.specs.Sort.{Sort, kind_of, same}
use Rattle.record.specs.Decode.{store_of, sort_at}
use Rattle.store.specs.Entry.{KindHas}
use Rattle.substitution.specs.MatchWith.{param_eq}
use Rattle.substitution.proofs.MatchWithLaws.{param-kind, vector-kind}
use Rattle.matching_tables.specs.Matched.{Fits, Misfits, found}
use Rattle.matching_tables.specs.Usable.{PairAsks}
use Rattle.matching_tables.specs.Contract.{BindIs}
use Rattle.matching_with.specs.Contract.{MeetWithAsks, MeetWithIs}
use Rattle.matching_tables.specs.Entered.{same_number, other-number}
use Rattle.matching_tables.specs.MapLaws.{found-fits, found-misfits, answered-fits, answered-misfits, answered-bound, find-some, find_none}

---------------------------------------------------------------- param_eq
abbrev vectors : Bool → ℕ → ℕ → Bool
vectors c k l = c || eqb k 10 && (eqb l 9 || eqb l 10) || eqb l 10 && (eqb k 9 || eqb k 10)

param-by : (s t : Sort) (c : Bool) {k l : ℕ} → same s t ≡ c → k ≡ kind_of s → l ≡ kind_of t → vectors c k l ≡ param_eq s t
unfolding param_eq
param-by s t c {k} {l} e ek el = rw (e, ek, el, param-kind s, param-kind t, vector-kind s, vector-kind t) refl

module _ {b p : List ℕ} {n i j : ℕ} (a : PairAsks b p n i j) where
  pub param-same : i ≡ j → true ≡ param_eq (sort_at b p n i) (sort_at b p n j)
  param-same e =
      param-by (sort_at b p n i) (sort_at b p n j) true
      (same_number b p n a.usable i j a.left a.right e) refl refl

  module _ (d : i ≡ j → ⊥) {k l : ℕ} (hk : KindHas b p i k) (hl : KindHas b p j l) where
    other : vectors false k l ≡ param_eq (sort_at b p n i) (sort_at b p n j)
    other =
        param-by (sort_at b p n i) (sort_at b p n j) false (other-number b p n a.usable i j a.left a.right d)
        (hk n a.usable.stored a.left) (hl n a.usable.stored a.right)

    pub param-vector : k ≡ 10 → l ≡ 9 → true ≡ param_eq (sort_at b p n i) (sort_at b p n j)
    param-vector e f = sym (rw (e, f) refl) ∙ other

    pub param-both : k ≡ 10 → (l ≡ 9 → ⊥) → eqb l 10 ≡ param_eq (sort_at b p n i) (sort_at b p n j)
    param-both e f = sym (rw (e, ne_eqb l 9 f) (by_test (eqb l 10) (λ q. rw q refl) (λ q. rw q refl))) ∙ other

    pub param-bits : k ≡ 9 → eqb l 10 ≡ param_eq (sort_at b p n i) (sort_at b p n j)
    param-bits e = sym (rw e (by_test (eqb l 10) (λ q. rw q refl) (λ q. rw q refl))) ∙ other

    pub param-plain : (k ≡ 10 → ⊥) → (k ≡ 9 → ⊥) → false ≡ param_eq (sort_at b p n i) (sort_at b p n j)
    param-plain e f = sym (rw (ne_eqb k 10 e, ne_eqb k 9 f) (by_test (eqb l 10) (λ q. rw q refl) (λ q. rw q refl))) ∙ other

---------------------------------------------------------------- a parameter met by match_with
module _ {b p : List ℕ} {n : ℕ} {imgs bnd : List ℕ} {m v j : ℕ} (a : MeetWithAsks b p n imgs bnd m v j) where
  pub with-free : get_or imgs v 0 ≡ 0 → {imgs' bnd' : List ℕ} {q : ℕ} → BindIs imgs bnd m v j imgs' bnd' q → MeetWithIs b p n imgs bnd m v j imgs' bnd' (Fits q)
  with-free e {imgs'} {bnd'} {q} s =
      rw (find_none (store_of b p n) v a.mapped.tabled e)
      (answered-bound v j a.usable a.mapped a.target (λ w. a.own) a.name e s)

  module _ (d : get_or imgs v 0 ≡ 0 → ⊥) where
    pub with_pair : PairAsks b p n (get_or imgs v 0 - 1) j
    with_pair = record { usable = a.usable; left = omega (arith, a.mapped.below v); right = a.target }

    with-fits : true ≡ param_eq (sort_at b p n (get_or imgs v 0 - 1)) (sort_at b p n j) → MeetWithIs b p n imgs bnd m v j imgs bnd (Fits m)
    unfolding sort_at
    with-fits e = rw (find-some (store_of b p n) v a.mapped.tabled d, ← e) (answered-fits a.mapped)

    with-misfits : false ≡ param_eq (sort_at b p n (get_or imgs v 0 - 1)) (sort_at b p n j) → MeetWithIs b p n imgs bnd m v j imgs bnd (Misfits m)
    unfolding sort_at
    with-misfits e = rw (find-some (store_of b p n) v a.mapped.tabled d, ← e) (answered-misfits a.mapped)

  -- A name bound to the sort i.
  module _ {i : ℕ} (e : get_or imgs v 0 ≡ suc i) where
    image : get_or imgs v 0 - 1 ≡ i
    image = omega (arith, e)

    bound : get_or imgs v 0 ≡ 0 → ⊥
    bound z = omega (arith, e)

    pub with-pair : PairAsks b p n i j
    with-pair = rw (← image) (with_pair bound)

    pub with-image : {q : Bool} → q ≡ param_eq (sort_at b p n i) (sort_at b p n j) → MeetWithIs b p n imgs bnd m v j imgs bnd (found m q)
    with-image {q} g =
        let h : q ≡ param_eq (sort_at b p n (get_or imgs v 0 - 1)) (sort_at b p n j) = rw image g in
        by_test q
        (λ z. subst (MeetWithIs b p n imgs bnd m v j imgs bnd) (sym (found-fits m z)) (with-fits bound (sym z ∙ h)))
        (λ z. subst (MeetWithIs b p n imgs bnd m v j imgs bnd) (sym (found-misfits m z)) (with-misfits bound (sym z ∙ h)))
