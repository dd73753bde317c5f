-- The first argument, whose Set is made; or none.
use Rattle.std.proofs.Common.{refl, rules}
use Rattle.infer_rules.specs.Inferred.{singleton_of}
use Rattle.row_answer.specs.AnswerLaws.{judged-as}
use Rattle.infer_operator.proofs.AnswerWays.{first-known, first-then, first-panics}
use Rattle.infer_operator.proofs.single.singleton.Goals as goal

pub returns-in_err-k-clause-answer : goal.returns-in_err-k-clause-answer
returns-in_err-k-clause-answer c = first-panics c.args.store.now c.args.args.now c.argument.ensures.value c.in_err-k.was singleton_of refl (search rules)

pub set_of-requires : goal.set_of-requires
set_of-requires c = first-known c.args.store.now c.args.args.now c.argument.ensures.value c.in_ok-k.was c.requires

pub returns-clause-answer : goal.returns-clause-answer
returns-clause-answer c = judged-as (first-then c.args.store.now c.args.args.now c.argument.ensures.value c.in_ok-k.was singleton_of) c.set_of.ensures.answer
