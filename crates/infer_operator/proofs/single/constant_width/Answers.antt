-- The width by the second argument.
use Rattle.std.proofs.Common.{arith}
use Rattle.row_answer.specs.AnswerLaws.{judged-as}
use Rattle.row_answer.specs.Arguments.{index-asks}
use Rattle.infer_operator.proofs.AnswerWays.{answer-panics}
use Rattle.infer_operator.proofs.SingleLaws.{written_none, width-second}
use Rattle.infer_operator.proofs.single.constant_width.Goals as goal

pub returns-then-list-lt2-clause-answer : goal.returns-then-list-lt2-clause-answer
returns-then-list-lt2-clause-answer c =
    let z = c.args.sheet.now in
    answer-panics c.args.store.now (written_none _ _ _ _ c.if-list-lt2.true)

pub index_at-requires : goal.index_at-requires
index_at-requires c =
    let z = c.args.sheet.now in
    index-asks z.bytes.now z.starts.now c.args.list.at c.args.list.count c.requires.terms 1 (omega (arith, c.if-list-lt2.false))

pub returns-clause-answer : goal.returns-clause-answer
returns-clause-answer c =
    let z = c.args.sheet.now in
    judged-as (width-second _ _ _ _ c.if-list-lt2.false c.index_at.ensures) c.vector.ensures.answer
