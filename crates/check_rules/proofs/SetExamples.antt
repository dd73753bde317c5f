-- Examples of A.2 of document 02, as tables: the terms beside their verdicts, each table proved by computation. One accepted, one 25 and one 26
-- for each operator; those that tell readings apart; 22; and the two routes for a relation.
use Rattle.std.specs.Prelude.{ℕ, ◌*◌, ◌≡◌, refl, List, [], ◌∷◌}
use Rattle.record.specs.Sort.{Sort, Sorts, var, end, ◌then◌, function, bool, int, real, reglan, bitvec, type, set, tuple}
use Rattle.substitution.specs.Substitution.{empty, bind, apply}
use Rattle.substitution.specs.Premises.{proper_map}
use Rattle.row_rules.specs.declared.Cause.TheVariants.{NoRank, Count, Misfit, Barred, Limit}
use Rattle.row_rules.specs.Verdict.{sort, refused, number_of}
use Rattle.row_rules.specs.Outcome.{outcome}
use Rattle.row_rules.specs.Term.{Term}
use Rattle.check_rules.specs.Ranks.{smt_lib, one, two}
use Rattle.check_rules.specs.Checked.{check}
use Rattle.check_rules.specs.Routes.{replace, clear_term}
use Rattle.check_rules.proofs.RouteLaws.{routes-smt_lib}
use Rattle.check_rules.proofs.Widths.{copies}
use Rattle.check_rules.specs.CheckedExamples.{op, as_op, each, verdicts, test}

-- A relation with these columns.
abbrev pub relating : Sorts → Sort
relating cs = set (tuple cs)

---------------------------------------------------------------- one of each: 118 to 134, AsOp 1 and 2
pub accepted_each :
    verdicts (
    op 118 (two (set int)) ∷ op 119 (two (set real)) ∷ op 120 (two (set (var 1))) ∷ op 121 (int then set int then end) ∷ op 122 (two (set real))
    ∷ op 123 (one bool) ∷ op 124 (one (set int)) ∷ op 125 (one (set int)) ∷ op 126 (one (set (set int)))
    ∷ op 127 (int then int then set int then end) ∷ op 128 (one (set (var 1))) ∷ op 129 (int then real then end) ∷ op 130 end
    ∷ op 131 (one (relating (int then real then bool then end))) ∷ op 132 (one (relating (two int)))
    ∷ op 133 (relating (int then real then end) then relating (real then bool then end) then end)
    ∷ op 134 (relating (one int) then relating (real then bool then end) then end)
    ∷ as_op 1 (set int) end ∷ as_op 2 (set (var 1)) end ∷ [])
    ≡ sort (set int) ∷ sort (set real) ∷ sort (set (var 1)) ∷ sort bool ∷ sort bool
    ∷ sort (set bool) ∷ sort bool ∷ sort bool ∷ sort int
    ∷ sort (set int) ∷ sort (set (var 1)) ∷ sort (tuple (int then real then end)) ∷ sort (tuple end)
    ∷ sort (relating (bool then real then int then end)) ∷ sort (relating (two int))
    ∷ sort (relating (int then bool then end))
    ∷ sort (relating (int then real then bool then end))
    ∷ sort (set int) ∷ sort (set (var 1)) ∷ []
unfolding verdicts
accepted_each = refl

pub miscounted_each :
    verdicts (
    op 118 (set int then two (set int)) ∷ op 119 (one (set int)) ∷ op 120 end ∷ op 121 (int then int then set int then end) ∷ op 122 (one (set int))
    ∷ op 123 (two int) ∷ op 124 end ∷ op 125 (two (set int)) ∷ op 126 end
    ∷ op 127 (one (set int)) ∷ op 128 (two (set int)) ∷ op 129 end ∷ op 130 (one int)
    ∷ op 131 (two (relating (one int))) ∷ op 132 end
    ∷ op 133 (one (relating (one int)))
    ∷ op 134 (relating end then two (relating (one int)))
    ∷ as_op 1 (set int) (one int) ∷ as_op 2 (set int) (one (set int)) ∷ [])
    ≡ refused Count ∷ refused Count ∷ refused Count ∷ refused Count ∷ refused Count
    ∷ refused Count ∷ refused Count ∷ refused Count ∷ refused Count
    ∷ refused Count ∷ refused Count ∷ refused Count ∷ refused Count
    ∷ refused Count ∷ refused Count
    ∷ refused Count
    ∷ refused Count
    ∷ refused Count ∷ refused Count ∷ []
unfolding verdicts
miscounted_each = refl

-- 130 TupleUnit has no argument that could misfit.
pub misfit_each :
    verdicts (
    op 118 (set int then set real then end) ∷ op 119 (two int) ∷ op 120 (set int then int then end) ∷ op 121 (set int then int then end) ∷ op 122 (two (tuple end))
    ∷ op 123 (one test) ∷ op 124 (one int) ∷ op 125 (one int) ∷ op 126 (one (tuple end))
    ∷ op 127 (int then real then set int then end) ∷ op 128 (one int) ∷ op 129 (int then test then end)
    ∷ op 131 (one (set int)) ∷ op 132 (one (relating (int then real then end)))
    ∷ op 133 (relating (one int) then relating (one real) then end)
    ∷ op 134 (set int then relating end then end)
    ∷ as_op 1 int end ∷ as_op 2 (tuple end) end ∷ [])
    ≡ refused Misfit ∷ refused Misfit ∷ refused Misfit ∷ refused Misfit ∷ refused Misfit
    ∷ refused Misfit ∷ refused Misfit ∷ refused Misfit ∷ refused Misfit
    ∷ refused Misfit ∷ refused Misfit ∷ refused Misfit
    ∷ refused Misfit ∷ refused Misfit
    ∷ refused Misfit
    ∷ refused Misfit
    ∷ refused Misfit ∷ refused Misfit ∷ []
unfolding verdicts
misfit_each = refl

---------------------------------------------------------------- readings
-- Two unary relations have a join, without columns. "Two" is exactly two, Tuple takes one or more, Insert two or more; the last one is the set. "Equal
-- sets" are no two equal sorts of any kind. An operator before these has no rank.
pub sets :
    verdicts (
    op 133 (two (relating (one int))) ∷ op 118 (set int then two (set int)) ∷ op 129 end ∷ op 129 (one int) ∷ op 127 (one (set int))
    ∷ op 127 (int then set int then end) ∷ op 127 (two int) ∷ op 127 (two (set int)) ∷ op 118 (two int) ∷ op 118 (two (tuple end)) ∷ op 117 (one (set int)) ∷ [])
    ≡ sort (relating end) ∷ refused Count ∷ refused Count ∷ sort (tuple (one int)) ∷ refused Count
    ∷ sort (set int) ∷ refused Misfit ∷ refused Misfit ∷ refused Misfit ∷ refused Misfit ∷ refused NoRank ∷ []
unfolding verdicts
sets = refl

-- The two tests are of one set, of relations too. A singleton's element may be a Function, RegLan, a variable or a set, but no Par.
pub elements :
    verdicts (
    op 124 (one int) ∷ op 125 (one (relating end)) ∷ op 126 (one (relating end)) ∷ op 123 (one (function (int then bool then end)))
    ∷ op 123 (one reglan) ∷ op 123 (one (var 1)) ∷ op 123 (one (set int)) ∷ op 123 (one test) ∷ [])
    ≡ refused Misfit ∷ sort bool ∷ sort int ∷ sort (set (function (int then bool then end)))
    ∷ sort (set reglan) ∷ sort (set (var 1)) ∷ sort (set (set int)) ∷ refused Misfit ∷ []
unfolding verdicts
elements = refl

-- A set of tuples has any number of columns, none too, but a tuple is no set. Pairs of one sort are two equal columns. Only Join asks for
-- columns, on both sides.
pub relations :
    verdicts (
    op 131 (one (relating end)) ∷ op 131 (one (tuple end)) ∷ op 134 (relating end then relating (one int) then end)
    ∷ op 134 (relating (one int) then relating end then end) ∷ op 134 (two (relating end))
    ∷ op 132 (one (relating (one int))) ∷ op 132 (one (relating (int then two int)))
    ∷ op 133 (relating end then relating (one int) then end) ∷ op 133 (relating (one int) then relating end then end) ∷ [])
    ≡ sort (relating end) ∷ refused Misfit ∷ sort (relating (one int))
    ∷ sort (relating (one int)) ∷ sort (relating end)
    ∷ refused Misfit ∷ refused Misfit
    ∷ refused Misfit ∷ refused Misfit ∷ []
unfolding verdicts
relations = refl

-- SetEmpty and SetUniverse: 28, then 25, then 26.
pub wholes :
    verdicts (
    as_op 1 (set type) (one int) ∷ as_op 2 (set (bitvec 0)) end ∷ as_op 1 test end ∷ as_op 1 int (one int) ∷ as_op 1 int end ∷ as_op 2 int end ∷ [])
    ≡ refused Barred ∷ refused Barred ∷ refused Barred ∷ refused Count ∷ refused Misfit ∷ refused Misfit ∷ []
unfolding verdicts
wholes = refl

---------------------------------------------------------------- 22
-- The code of a term over an empty store with room, and a relation of k columns.
unfoldable pub codes : List Term → List ℕ
unfolding check smt_lib each copies outcome
codes [] = []
codes (t ∷ ts) = (outcome (record { records = 65536; places = 4096; rows = 0; answers = 0 }) [] (check smt_lib t)).code ∷ codes ts

abbrev pub wide : ℕ → Sort
wide k = relating (copies k int)

-- The product of 40 and 40 columns; the joins that leave 65 and 64; tuples of 65 and 64.
pub limited :
    codes (
    op 134 (wide 40 then wide 40 then end) ∷ op 134 (wide 40 then wide 24 then end) ∷ op 133 (wide 34 then wide 33 then end)
    ∷ op 133 (wide 33 then wide 33 then end) ∷ op 129 (copies 65 int) ∷ op 129 (copies 64 int) ∷ [])
    ≡ number_of Limit * 65536 ∷ 2 ∷ number_of Limit * 65536
    ∷ 2 ∷ number_of Limit * 65536 ∷ 1 ∷ []
unfolding codes
limited = refl

-- A tuple of k tuples of 64 Int and one of j: its tree is 65 k + j + 2.
abbrev pub large : ℕ → ℕ → Sort
large k j = tuple (tuple (copies j int) then copies k (tuple (copies 64 int)))

-- The singletons of a tree of 4,096 and of 4,095; the tuples of one of 4,095 and an Int, and of it alone.
pub limited_trees :
    codes (
    op 123 (one (large 62 64)) ∷ op 123 (one (large 62 63))
    ∷ op 129 (large 62 63 then int then end) ∷ op 129 (one (large 62 63)) ∷ [])
    ≡ number_of Limit * 65536 ∷ 4
    ∷ number_of Limit * 65536 ∷ 4 ∷ []
unfolding codes
limited_trees = refl

---------------------------------------------------------------- the two routes
-- n1 to (Set Int): the join of two relations over 'n1, by the law.
abbrev pub joined : Term
joined = op 133 (relating (bool then var 1 then end) then relating (var 1 then var 1 then end) then end)

pub routes-join : check smt_lib (replace (bind 1 (set int) empty) joined) ≡ sort (relating (bool then set int then end))
unfolding check smt_lib each apply proper_map clear_term
routes-join = routes-smt_lib (bind 1 (set int) empty) joined (relating (bool then var 1 then end)) refl refl refl
