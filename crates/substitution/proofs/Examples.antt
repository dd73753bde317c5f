-- Worked examples, each by computation: K11 of document 01, and cases that tell readings of substitution, match_with and is_compatible apart.
use Rattle.std.specs.Prelude.{◌≡◌, refl, true, false, [], ◌∷◌, eqb}
use Rattle.std.proofs.Common.{eqb-true}
use Rattle.std.proofs.Math.Option.{none, some}
use Rattle.record.specs.Cases.{by_test, clash}
use Rattle.record.specs.Sort.{var, par, end, ◌then◌, function, atom, bool, int, real, array, bitvec, param_bit_vec, datatype, set}
use Rattle.record.specs.Names.{member}
use Rattle.substitution.specs.Substitution.{empty, bind, find, apply}
use Rattle.substitution.specs.Matching.{matches, matches_all, Alike, listed_in, premise}
use Rattle.substitution.specs.Orders.{pairs_of, matches_pairs}
use Rattle.substitution.specs.MatchWith.{match_with, match_all_with}
use Rattle.substitution.specs.Compatible.{compatible}

---------------------------------------------------------------- substitution
-- K11: n1 to Int in (par (n1 n2) (-> 'n1 'n2)) gives (par (n2) (-> Int 'n2)).
pub k11 : apply (bind 1 int empty) (par (1 ∷ 2 ∷ []) (function (var 1 then var 2 then end))) ≡ par (2 ∷ []) (function (int then var 2 then end))
unfolding apply
k11 = refl

-- Par loses every name of the map, also one whose image is itself, and one that does not stand inside; with none left the wrapper goes.
pub par-loses : (apply (bind 1 (var 1) empty) (par (1 ∷ []) (var 1)) ≡ var 1) × (apply (bind 2 bool empty) (par (1 ∷ 2 ∷ []) int) ≡ par (1 ∷ []) int)
unfolding apply
par-loses = (refl, refl)

-- Par is no binder: an image's variable may be one of its names.
pub captured : apply (bind 1 (var 2) empty) (par (2 ∷ []) (var 1)) ≡ par (2 ∷ []) (var 2)
unfolding apply
captured = refl

-- Images are not replaced again: two names, each in the other's image.
pub simultaneous : apply (bind 1 (var 2) (bind 2 (set (var 1)) empty)) (array (var 1) (var 2)) ≡ array (var 2) (set (var 1))
unfolding apply
simultaneous = refl

---------------------------------------------------------------- matching by the definition
-- K8's arguments: a parameter is compared at its second meeting.
pub second-meeting : (matches_all (listed_in (1 ∷ [])) (var 1 then var 1 then end) (int then real then end) empty ≡ none)
    × (matches_all (listed_in (1 ∷ [])) (var 1 then var 1 then end) (int then int then end) empty ≡ some (bind 1 int empty))
unfolding matches member
second-meeting = (refl, refl)

-- From a map: a given name is compared at its first meeting, another is found; a given name that the pattern lacks stays.
pub from-given : (matches (listed_in (1 ∷ 2 ∷ [])) (array (var 1) (var 2)) (array int real) (bind 1 int empty) ≡ some (bind 2 real (bind 1 int empty)))
    × (matches (listed_in (1 ∷ 2 ∷ [])) (array (var 1) (var 2)) (array int real) (bind 1 bool empty) ≡ none)
    × (matches (listed_in (1 ∷ 2 ∷ [])) (var 2) real (bind 1 int empty) ≡ some (bind 2 real (bind 1 int empty)))
unfolding matches member
from-given = (refl, refl, refl)

-- In another order the pairs are bound in another order, so the maps are other lists; name by name they agree. Where a name meets two
-- sorts there is none in either order.
pub other-order : (matches_pairs (listed_in (1 ∷ 2 ∷ [])) (pairs_of (var 1 then var 2 then end) (int then real then end)) empty ≡ some (bind 2 real (bind 1 int empty)))
    × (matches_pairs (listed_in (1 ∷ 2 ∷ [])) (pairs_of (var 2 then var 1 then end) (real then int then end)) empty ≡ some (bind 1 int (bind 2 real empty)))
    × Alike (some (bind 2 real (bind 1 int empty))) (some (bind 1 int (bind 2 real empty)))
    × (matches_pairs (listed_in (1 ∷ [])) (pairs_of (var 1 then set (var 1) then end) (int then set real then end)) empty ≡ none)
    × (matches_pairs (listed_in (1 ∷ [])) (pairs_of (set (var 1) then var 1 then end) (set real then int then end)) empty ≡ none)
unfolding matches_pairs pairs_of matches member find
other-order = (
  refl,
  refl,
  λ v. by_test (eqb 1 v) (λ q. by_test (eqb 2 v) (λ r. clash q (rw (← eqb-true 2 v r) refl)) (λ r. rw (q, r) refl)) (λ q. rw q refl),
  refl,
  refl,
)

-- A variable that is not listed stands for itself; a listed one in the target is outside the premise.
pub unlisted-variable : (matches (listed_in []) (var 1) int empty ≡ none) × (matches (listed_in []) (var 1) (var 1) empty ≡ some empty)
    × (premise (1 ∷ []) int (set (var 1)) ≡ false)
unfolding matches premise member
unlisted-variable = (refl, refl, refl)

---------------------------------------------------------------- match_with
-- Equality is tested before anything is bound: at 'n1, Int and at Int, 'n1 the parameter n1 is Int.
pub equal-first : (match_all_with (1 ∷ []) (var 1 then var 1 then end) (var 1 then int then end) empty ≡ some (bind 1 int empty))
    × (match_all_with (1 ∷ []) (var 1 then var 1 then end) (int then var 1 then end) empty ≡ some (bind 1 int empty))
unfolding match_with
equal-first = (refl, refl)

-- The second meeting is by param_eq, outermost only, and the first image stays.
pub width-first : (match_all_with (1 ∷ []) (var 1 then var 1 then var 1 then end) (param_bit_vec then bitvec 8 then bitvec 9 then end) empty ≡ some (bind 1 param_bit_vec empty))
    × (match_all_with (1 ∷ []) (var 1 then var 1 then end) (bitvec 8 then param_bit_vec then end) empty ≡ some (bind 1 (bitvec 8) empty))
    × (match_all_with (1 ∷ []) (var 1 then var 1 then end) (set (bitvec 8) then set param_bit_vec then end) empty ≡ none)
unfolding match_with
width-first = (refl, refl, refl)

-- At the leaves of a pattern param_eq decides as well.
pub width-leaf : (match_with [] (set (bitvec 8)) (set param_bit_vec) empty ≡ some empty) × (match_with [] (bitvec 8) (bitvec 9) empty ≡ none)
unfolding match_with
width-leaf = (refl, refl)

-- The names of a Par in the pattern are parameters only inside it, but what it bound stays in the map.
pub par-pattern : (match_all_with (1 ∷ []) (par (2 ∷ []) (var 2) then var 2 then end) (int then int then end) empty ≡ none)
    × (match_all_with (1 ∷ []) (par (2 ∷ []) (var 2) then var 2 then end) (int then var 2 then end) empty ≡ some (bind 2 int empty))
unfolding match_with
par-pattern = (refl, refl)

-- A Par in the target is opened only if all its names are parameters there; a variable, also one below a Par of the pattern, takes it whole.
pub par-target : (match_with (1 ∷ []) (set (var 1)) (par (2 ∷ []) (set (var 2))) empty ≡ none)
    × (match_with (1 ∷ 2 ∷ []) (set (var 1)) (par (2 ∷ []) (set (var 2))) empty ≡ some (bind 1 (var 2) empty))
    × (match_with (1 ∷ []) (var 1) (par (2 ∷ []) (set (var 2))) empty ≡ some (bind 1 (par (2 ∷ []) (set (var 2))) empty))
    × (match_with [] (par (1 ∷ []) (var 1)) (par (2 ∷ []) int) empty ≡ some (bind 1 (par (2 ∷ []) int) empty))
unfolding match_with
par-target = (refl, refl, refl, refl)

---------------------------------------------------------------- is_compatible
-- Par is opened on both sides, and an unknown width fits every vector at any depth; two known widths are compared, and so are names and kinds.
pub fits : (compatible (par (1 ∷ []) (array (var 1) (bitvec 8))) (par (2 ∷ []) (array int param_bit_vec)) ≡ true)
    × (compatible (array int (bitvec 8)) (array int (bitvec 9)) ≡ false)
    × (compatible (datatype 1 (int then end)) (datatype 1 (var 7 then end)) ≡ true)
    × (compatible (atom 1 end) (datatype 1 end) ≡ false) × (compatible (atom 1 end) (atom 2 end) ≡ false)
unfolding compatible
fits = (refl, refl, refl, refl, refl)
