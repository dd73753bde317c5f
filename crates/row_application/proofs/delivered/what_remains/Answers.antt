-- The cause of a call that fails, or what remains with the images put in.
use mathlib.Core.Path.{ap}
use Rattle.std.proofs.lemmas.Result.{err_from_is_err_and}
use Rattle.row_application.specs.Words.{call_in}
use Rattle.row_application.proofs.DeliveredLaws.{rest-asked, rest-answer, fails-answer}
use Rattle.row_application.proofs.delivered.what_remains.Goals as goal

pub rest-requires : goal.rest-requires
rest-requires c = rest-asked c.requires c.skip.ensures.at c.skip.ensures.count

pub returns-clause-answer : goal.returns-clause-answer
returns-clause-answer c =
    let m = c.args.names.now.many in
    rest-answer c.requires c.skip.ensures.at c.skip.ensures.count m (ap (call_in m) c.in_ok-call.was) c.rest.ensures.answer

pub returns-in_err-call-clause-answer : goal.returns-in_err-call-clause-answer
returns-in_err-call-clause-answer c =
    let m = c.args.names.now.many in
    let p = err_from_is_err_and c.from_residual.result c.from_residual.ensures.1 in
    rw (p.1, p.2) (fails-answer c.requires c.in_err-call.field-0.0 m (ap (call_in m) c.in_err-call.was))
