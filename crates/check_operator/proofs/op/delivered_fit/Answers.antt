-- The answer of a fit.
use Rattle.std.proofs.Common.{ap, subst, refl}
use Rattle.record.specs.Decode.{store_of, sort_at}
use Rattle.check_operator.specs.Contract.{fit_verdict, FitOk}
use Rattle.row_answer.specs.Words.{args_in}
use Rattle.check_operator.proofs.RowLaws.{known_row}
use Rattle.check_operator.proofs.op.delivered_fit.Goals as goal

pub returns-in-Known-clause-answer : goal.returns-in-Known-clause-answer
unfolding sort_at
returns-in-Known-clause-answer c =
    let s = c.args.store.now in
    known_row s c.in-Known.k (ap (fit_verdict (store_of s.records.now s.places.now s.count) (args_in s c.args.args.now)) c.in-Known.is)
    (subst (FitOk s.count) c.in-Known.is c.requires.ok) refl
