-- Examples of A.1 of document 02 that tell readings apart, as a table: the terms beside their verdicts, proved by computation; and the
-- two routes for a mixed term.
use Rattle.std.specs.Prelude.{◌≡◌, refl, [], ◌∷◌}
use Rattle.record.specs.Sort.{var, end, ◌then◌, bool, int, real, string}
use Rattle.substitution.specs.Substitution.{empty, bind, apply}
use Rattle.substitution.specs.Premises.{proper_map}
use Rattle.row_rules.specs.declared.Cause.TheVariants.{Count, Misfit}
use Rattle.row_rules.specs.Verdict.{sort, refused}
use Rattle.row_rules.specs.Term.{Term, term, stop, ◌also◌}
use Rattle.check_rules.specs.Ranks.{smt_lib, document01}
use Rattle.check_rules.specs.Checked.{check}
use Rattle.check_rules.specs.Routes.{replace, clear_term}
use Rattle.check_rules.proofs.RouteLaws.{routes-smt_lib}
use Rattle.check_rules.proofs.More.{keeps-sort}
use Rattle.check_rules.specs.CheckedExamples.{of, op, each, verdicts, test}

-- Sums: all Int stays Int, all Real Real, mixed Real, in any order. RealDiv gives Real, all Int too. Orders give Bool. Counts as before,
-- 25 before 26. What is not named stays: Equals, Ite, IntDiv, Mod, ToReal.
pub mixtures :
    verdicts (
    op 10 (int then int then end) ∷ op 10 (int then real then end) ∷ op 10 (real then int then int then end) ∷ op 12 (real then real then end)
    ∷ op 11 (int then end) ∷ op 11 (real then end) ∷ op 11 (int then real then end) ∷ op 10 (int then end) ∷ op 10 (int then real then bool then end)
    ∷ op 14 (int then int then end) ∷ op 14 (int then real then end) ∷ op 14 (real then end) ∷ op 14 (int then string then end)
    ∷ op 17 (int then real then end) ∷ op 20 (real then int then real then end) ∷ op 17 (real then end)
    ∷ op 7 (int then real then end) ∷ op 9 (bool then int then real then end) ∷ op 13 (int then real then end) ∷ op 15 (int then real then end)
    ∷ op 21 (real then end) ∷ op 10 (int then var 1 then end) ∷ op 10 (real then test then end) ∷ [])
    ≡ sort int ∷ sort real ∷ sort real ∷ sort real
    ∷ sort int ∷ sort real ∷ sort real ∷ refused Count ∷ refused Misfit
    ∷ sort real ∷ sort real ∷ refused Count ∷ refused Misfit
    ∷ sort bool ∷ sort bool ∷ refused Count
    ∷ refused Misfit ∷ refused Misfit ∷ refused Misfit ∷ refused Misfit
    ∷ refused Misfit ∷ refused Misfit ∷ refused Misfit ∷ []
unfolding verdicts
mixtures = refl

-- A term that had a sort keeps it, by the law: Add of two Int over the ranks of document 01.
pub kept-sum : check smt_lib (op 10 (int then int then end)) ≡ sort int
unfolding check document01 each
kept-sum = keeps-sort (op 10 (int then int then end)) int refl

-- The two routes, by the law: an order of a mixed sum and a Real, under a choice between two 'n1, with n1 to Bool.
abbrev pub sum : Term
sum = term 7 0 9 bool (term 7 0 17 bool (op 10 (int then real then end) also of real also stop) [] [] stop also of (var 1) also of (var 1) also stop) [] [] stop

pub routes-sum : check smt_lib (replace (bind 1 bool empty) sum) ≡ sort bool
unfolding check smt_lib each apply proper_map clear_term
routes-sum = routes-smt_lib (bind 1 bool empty) sum (var 1) refl refl refl
