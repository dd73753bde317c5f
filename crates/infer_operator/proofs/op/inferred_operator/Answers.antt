-- The answer of each family, told by the operator's number; what the last arm passes on looks at no constants.
use Rattle.std.proofs.Common.{sym, ◌∙◌}
use Rattle.record.specs.Number.{numbers_at}
use Rattle.record.specs.Decode.{store_of}
use Rattle.record.specs.Codec.{length-numbers_at}
use Rattle.record.specs.Sizes.{count-sorts}
use Rattle.row_answer.specs.AnswerLaws.{judged-as}
use Rattle.infer_operator.proofs.OperatorLaws.{family-answer}
use Rattle.infer_operator.proofs.op.inferred_operator.Goals as goal

pub returns-in-Width-clause-answer : goal.returns-in-Width-clause-answer
returns-in-Width-clause-answer c =
    let s = c.args.store.now in
    let a = c.args.args.now in
    family-answer _ _ (sym c.family_of-family.ensures)
    (judged-as (c.in-Width.ensures _ _ (count-sorts (store_of s.records.now s.places.now s.count) (numbers_at a.bytes.now 3 a.count) ∙ length-numbers_at a.bytes.now 3 a.count)) c.bit_vector.ensures.answer)
