-- The answer of each operator that looks at its first index; the last arm is left to IntToBv.
use Rattle.std.proofs.Common.{◌+◌, ◌*◌, rules}
use Rattle.row_answer.specs.AnswerLaws.{judged-as}
use Rattle.infer_row.proofs.IndexedLaws.{given-extend, given-repeat}
use Rattle.infer_row.proofs.indexed.by_index.Goals as goal

pub returns-in-ZeroExtend-clause-answer : goal.returns-in-ZeroExtend-clause-answer
returns-in-ZeroExtend-clause-answer c =
    judged-as (given-extend c.args.op _ _ _ c.in-ZeroExtend.is)
    (c.resized.ensures.answer (λ w. c.args.i + w) (λ w r h. search rules))

pub returns-in-Repeat-clause-answer : goal.returns-in-Repeat-clause-answer
returns-in-Repeat-clause-answer c =
    judged-as (given-repeat c.args.op _ _ _ c.in-Repeat.is)
    (c.resized-in-Repeat.ensures.answer (λ w. c.args.i * w) (λ w r h. search rules))
