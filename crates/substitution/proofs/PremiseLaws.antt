-- Matching's premise read off a sort: one without Par and ParamBitVec is without Par, and an unlisted one is one in which no listed name
-- stands.
use Rattle.std.specs.Prelude.{ℕ, ◌≡◌, refl, true, false, not, ◌||◌, List, [], ◌∷◌, eqb}
use Rattle.std.proofs.Common.{eqb-true}
use Rattle.record.specs.Sort.{Sort, Sorts, var, par, node, end, ◌then◌}
use Rattle.record.specs.Cases.{and_left, and_right, and-true, or_left, or_right, not-true, eqb-self, by_test, clash}
use Rattle.record.specs.Names.{member}
use Rattle.substitution.specs.Substitution.{occurs, occurs_any}
use Rattle.substitution.specs.Premises.{parless, parless_all}
use Rattle.substitution.specs.Matching.{known, known_all, apart, unlisted, unlisted_all}

-- A sort without Par and ParamBitVec is without Par.
mutual
  unfolding known parless

  pub known-parless : (s : Sort) → known s ≡ true → parless s ≡ true
  known-parless (var v) e = refl
  known-parless (par ns b) e = e
  known-parless (node k a w ss) e = known_all-parless ss (and_right (not (eqb k 10)) (known_all ss) e)

  pub known_all-parless : (ss : Sorts) → known_all ss ≡ true → parless_all ss ≡ true
  known_all-parless end e = refl
  known_all-parless (s then ss) e =
      and-true (parless s) (parless_all ss) (known-parless s (and_left (known s) (known_all ss) e)) (known_all-parless ss (and_right (known s) (known_all ss) e))

-- A name of the first list is none of a list apart from it.
pub apart-free : (ns us : List ℕ) (v : ℕ) → apart ns us ≡ true → member v ns ≡ true → member v us ≡ false
unfolding apart member
apart-free ns [] v e i = refl
apart-free ns (u ∷ us) v e i =
    by_test (eqb u v)
    (λ q. let z : member u ns ≡ true = rw (eqb-true u v q) i in clash z (not-true (member u ns) (and_left (not (member u ns)) (apart ns us) e)))
    (λ q. rw q (apart-free ns us v (and_right (not (member u ns)) (apart ns us) e) i))

-- No listed name stands in an unlisted sort.
mutual
  unfolding unlisted occurs

  pub unlisted-free : (ns : List ℕ) (t : Sort) (v : ℕ) → unlisted ns t ≡ true → member v ns ≡ true → occurs v t ≡ false
  unlisted-free ns (var u) v e i =
      by_test (eqb u v)
      (λ q. let z : member u ns ≡ true = rw (eqb-true u v q) i in clash z (not-true (member u ns) e))
      (λ q. q)
  unlisted-free ns (par us b) v e i =
      rw (apart-free ns us v (and_left (apart ns us) (unlisted ns b) e) i)
      (unlisted-free ns b v (and_right (apart ns us) (unlisted ns b) e) i)
  unlisted-free ns (node k a w ts) v e i = unlisted_all-free ns ts v e i

  pub unlisted_all-free : (ns : List ℕ) (ts : Sorts) (v : ℕ) → unlisted_all ns ts ≡ true → member v ns ≡ true → occurs_any v ts ≡ false
  unlisted_all-free ns end v e i = refl
  unlisted_all-free ns (t then ts) v e i =
      rw (unlisted-free ns t v (and_left (unlisted ns t) (unlisted_all ns ts) e) i)
      (unlisted_all-free ns ts v (and_right (unlisted ns t) (unlisted_all ns ts) e) i)

-- And a sort in which none stands is unlisted.
pub free-apart : (ns us : List ℕ) → ((v : ℕ) → member v ns ≡ true → member v us ≡ false) → apart ns us ≡ true
unfolding apart member
free-apart ns [] h = refl
free-apart ns (u ∷ us) h =
    by_test (member u ns)
    (λ q. let z : (eqb u u || member u us) ≡ false = h u q in clash (eqb-self u) (or_left (eqb u u) (member u us) z))
    (λ q. rw q (free-apart ns us (λ v i. or_right (eqb u v) (member v us) (h v i))))

mutual
  unfolding unlisted occurs

  pub free-unlisted : (ns : List ℕ) (t : Sort) → ((v : ℕ) → member v ns ≡ true → occurs v t ≡ false) → unlisted ns t ≡ true
  free-unlisted ns (var u) h = by_test (member u ns) (λ q. clash (eqb-self u) (h u q)) (λ q. rw q refl)
  free-unlisted ns (par us b) h =
      and-true (apart ns us) (unlisted ns b)
      (free-apart ns us (λ v i. or_left (member v us) (occurs v b) (h v i)))
      (free-unlisted ns b (λ v i. or_right (member v us) (occurs v b) (h v i)))
  free-unlisted ns (node k a w ts) h = free-unlisted_all ns ts h

  pub free-unlisted_all : (ns : List ℕ) (ts : Sorts) → ((v : ℕ) → member v ns ≡ true → occurs_any v ts ≡ false) → unlisted_all ns ts ≡ true
  free-unlisted_all ns end h = refl
  free-unlisted_all ns (t then ts) h =
      and-true (unlisted ns t) (unlisted_all ns ts)
      (free-unlisted ns t (λ v i. or_left (occurs v t) (occurs_any v ts) (h v i)))
      (free-unlisted_all ns ts (λ v i. or_right (occurs v t) (occurs_any v ts) (h v i)))
