-- The first argument; or none.
use Rattle.infer_rules.specs.Inferred.{rare_of}
use Rattle.row_answer.specs.AnswerLaws.{judged-as}
use Rattle.infer_operator.proofs.AnswerWays.{answer-sort, first-known, first-then, first-missing}
use Rattle.infer_operator.proofs.single.rare_list.Goals as goal

pub returns-in-Ok-clause-answer : goal.returns-in-Ok-clause-answer
returns-in-Ok-clause-answer c =
    let e = c.argument.ensures.value in
    answer-sort c.args.store.now c.in-Ok.k (first-known c.args.store.now c.args.args.now e c.in-Ok.is c.requires) (first-then c.args.store.now c.args.args.now e c.in-Ok.is rare_of)

pub returns-in-Err-clause-answer : goal.returns-in-Err-clause-answer
returns-in-Err-clause-answer c = judged-as (first-missing c.args.store.now c.args.args.now c.argument.ensures.value c.in-Err.is rare_of) c.variable.ensures.answer
