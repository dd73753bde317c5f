-- The answer to the join: what is left of both sides, side by side. Without a column on the right side the Rust panics.
use Rattle.record.specs.Cases.{positive}
use Rattle.row_answer.specs.AnswerLaws.{judged-as}
use Rattle.infer_operator.proofs.AnswerWays.{answer-panics}
use Rattle.infer_operator.proofs.RelationLaws.{join-panics, join-sides}
use Rattle.infer_operator.proofs.relations.join_columns.Goals as goal

pub returns-then-right-eq0-clause-answer : goal.returns-then-right-eq0-clause-answer
returns-then-right-eq0-clause-answer c = answer-panics c.args.store.now (join-panics c.requires c.if-right-eq0.true)

pub side_by_side-requires : goal.side_by_side-requires
side_by_side-requires c =
    (join-sides c.requires (positive c.args.right.count c.if-right-eq0.false) c.saturating_sub.ensures c.skip.ensures.at c.skip.ensures.count).0

pub returns-clause-answer : goal.returns-clause-answer
returns-clause-answer c =
    judged-as (join-sides c.requires (positive c.args.right.count c.if-right-eq0.false) c.saturating_sub.ensures c.skip.ensures.at c.skip.ensures.count).1 c.side_by_side.ensures.answer
