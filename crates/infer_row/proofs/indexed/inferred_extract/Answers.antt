-- The answer to an extract, by its second index: what the sheet names there is no integer, over the first index, or gives the width.
use Rattle.std.proofs.Common.{◌≡◌, ◌∷◌, arith, ◌∙◌}
use Rattle.std.proofs.Math.Option.{some}
use Rattle.infer_rules.specs.Inferred.{extracted}
use Rattle.infer_row.specs.Indexed.{others}
use Rattle.row_answer.specs.AnswerLaws.{judged-as}
use Rattle.row_answer.specs.Arguments.{integer_of, index-asks}
use Rattle.infer_operator.proofs.AnswerWays.{answer-panics}
use Rattle.infer_row.proofs.IndexedLaws.{extract_by, extract-none, extract-second, extract-over, extract-fits}
use Rattle.infer_row.proofs.indexed.inferred_extract.Goals as goal
use Rattle.infer_row.proofs.indexed.inferred_extract.Goals.{After-index_at}

second : (c : After-index_at) → extracted (some c.args.i ∷ others c.args.sheet.now c.args.second) ≡ extract_by c.args.i (integer_of c.index_at.result)
second c = let z = c.args.sheet.now in extract-second z.bytes.now z.starts.now c.args.second.at c.args.second.count c.args.i c.if-second-lt2.false c.index_at.ensures

pub returns-then-second-lt2-clause-answer : goal.returns-then-second-lt2-clause-answer
returns-then-second-lt2-clause-answer c =
    let z = c.args.sheet.now in
    answer-panics c.args.store.now (extract-none z.bytes.now z.starts.now c.args.second.at c.args.second.count c.args.i c.if-second-lt2.true)

pub index_at-requires : goal.index_at-requires
index_at-requires c =
    let z = c.args.sheet.now in
    index-asks z.bytes.now z.starts.now c.args.second.at c.args.second.count c.requires.terms 1 (omega (arith, c.if-second-lt2.false))

pub returns-in-Some-clause-answer : goal.returns-in-Some-clause-answer
returns-in-Some-clause-answer c =
    let e = rw c.in-Some.is at (second (goal.at.returns-in-Some-clause-answer c).After-index_at) in
    answer-panics c.args.store.now (e ∙ extract-over c.args.i c.in-Some.j c.if-i-j.true)

pub returns-in-Some-2-clause-answer : goal.returns-in-Some-2-clause-answer
returns-in-Some-2-clause-answer c =
    let e = rw c.in-Some.is at (second (goal.at.returns-in-Some-2-clause-answer c).After-index_at) in
    judged-as (e ∙ extract-fits c.args.i c.in-Some.j c.if-i-j.false) c.bit_vector.ensures.answer

pub returns-in-None-clause-answer : goal.returns-in-None-clause-answer
returns-in-None-clause-answer c = judged-as (rw c.in-None.is at (second (goal.at.returns-in-None-clause-answer c).After-index_at)) c.leaf.ensures.answer
