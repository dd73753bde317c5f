-- A CHECKED SORT IS THE INFERRED ONE, and both premises of that are needed: a refused checked verdict says nothing of the inferred one, and a head that
-- no Var may carry can have two answers.
use Rattle.std.specs.Prelude.{◌≡◌, refl, []}
use Rattle.std.proofs.Common.{arith}
use Rattle.record.specs.Sort.{Sort, par, end, ◌then◌, function, bool, int}
use Rattle.row_rules.specs.declared.Cause.TheVariants.{Misfit}
use Rattle.row_rules.specs.Verdict.{sort, refused}
use Rattle.row_rules.specs.Term.{Term}
use Rattle.infer_rules.specs.Inferred.{inferred_app, inferred, infer}
use Rattle.check_rules.specs.Ranks.{smt_lib}
use Rattle.check_rules.specs.CheckedExamples.{each, op}
use Rattle.check_rules.specs.Checked.{checked_app, checked, check}
use Rattle.judge_rules.specs.Given.{checked_row}
use Rattle.judge_rules.proofs.KeptExample.{lent, sums, sums_sheet, sums_sorts, rows_now, sums-now}
use Rattle.judge_rules.proofs.SameRows.{inferred_row, same-number}

-- 2 Not of a Var of sort Int.
abbrev pub not_int : Term
not_int = op 2 (int then end)

-- Its inferred sort is Bool, and it has no checked one.
pub not-inferred : infer not_int ≡ sort bool
unfolding infer inferred each
not-inferred = refl

pub not-checked : check smt_lib not_int ≡ refused Misfit
unfolding check checked each smt_lib
not-checked = refl

-- A function from Int to a Par without names, which no sheet has: what is left of it is checked with the map of its arguments put through it, and
-- inferred as it stands.
abbrev pub nameless : Sort
nameless = function (int then par [] bool then end)

pub nameless-inferred : inferred_app (nameless then int then end) ≡ sort (par [] bool)
unfolding inferred
nameless-inferred = refl

pub nameless-checked : checked_app (nameless then int then end) ≡ sort bool
unfolding checked_app
nameless-checked = refl

-- The law of rows on the sheet of KeptExample, whose last term is an order of Int and Real: both rows are 2. So its premises can be met at once.
pub order-same : inferred_row rows_now 4 ≡ checked_row rows_now 4
order-same = same-number sums lent sums_sheet sums_sorts rows_now [] sums-now 4 (omega arith) (omega arith)
