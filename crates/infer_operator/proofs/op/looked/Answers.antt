-- The answer of each family of the group; what the last arm passes on is of the families that make sets, tuples and relations.
use Rattle.row_answer.specs.AnswerLaws.{judged-as}
use Rattle.infer_rules.specs.Inferred.{operated_by}
use Rattle.infer_operator.specs.Asks.{arguments}
use Rattle.infer_operator.specs.Single.{ElementHas, nth-first, nth-second, last-all}
use Rattle.infer_operator.specs.Operators.{no_constants}
use Rattle.infer_operator.proofs.AnswerWays.{back}
use Rattle.infer_operator.proofs.OperatorLaws.{family-answer}
use Rattle.infer_operator.proofs.op.looked.Goals as goal

pub returns-in-Element-clause-answer : goal.returns-in-Element-clause-answer
unfolding operated_by
returns-in-Element-clause-answer c =
    let s = c.args.store.now in
    let a = c.args.args.now in
    let has = back c.entries.result s c.entries.ensures.records c.entries.ensures.places (λ b p. ElementHas b p a.bytes.now a.count c.element.result) c.element.ensures in
    family-answer (arguments s a) no_constants c.in-Element.is (has s.index.now s.count s.used c.requires.args)

pub returns-in-First-clause-answer : goal.returns-in-First-clause-answer
unfolding operated_by
returns-in-First-clause-answer c = family-answer _ _ c.in-First.is (judged-as (nth-first _) (c.argument.ensures.answer _ _ _ _ _ c.requires.args))

pub returns-in-Second-clause-answer : goal.returns-in-Second-clause-answer
unfolding operated_by
returns-in-Second-clause-answer c = family-answer _ _ c.in-Second.is (judged-as (nth-second _) (c.argument-in-Second.ensures.answer _ _ _ _ _ c.requires.args))

pub returns-in-Last-clause-answer : goal.returns-in-Last-clause-answer
unfolding operated_by
returns-in-Last-clause-answer c = family-answer _ _ c.in-Last.is (judged-as (last-all _) (c.last_of.ensures _ _ _ _ _ c.requires.args))
