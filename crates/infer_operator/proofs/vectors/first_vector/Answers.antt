-- The first vector that was found, a sort of the store; or none.
use Rattle.std.proofs.Common.{◌≡◌, Err, rules}
use Rattle.row_answer.specs.AnswerLaws.{judged-as}
use Rattle.infer_operator.specs.Asks.{arguments}
use Rattle.infer_operator.specs.Vectors.{ScanIs}
use Rattle.infer_operator.proofs.AnswerWays.{answer-passed, answer-sort, lent-known, numbers-are}
use Rattle.infer_operator.proofs.vectors.first_vector.Goals as goal
use Rattle.infer_operator.proofs.vectors.first_vector.Goals.{After-scan_vectors}

scanned : (c : After-scan_vectors) → let s = c.args.store.now in ScanIs s.records.now s.places.now s.count (arguments s c.args.args.now) c.scan_vectors.result
scanned c =
    let z = c.entries in
    numbers-are z.result c.args.store.now z.ensures.records z.ensures.places c.args.args.now c.requires c.numbers.ensures (λ b p n ss. ScanIs b p n ss c.scan_vectors.result) c.scan_vectors.ensures

pub scan_vectors-requires : goal.scan_vectors-requires
scan_vectors-requires c = lent-known c.entries.result c.args.store.now c.entries.ensures.records c.entries.ensures.places c.args.args.now c.requires c.numbers.ensures

pub returns-in_err-k-clause-answer : goal.returns-in_err-k-clause-answer
returns-in_err-k-clause-answer c =
    let e : c.from_residual.result ≡ Err c.in_err-k.field-0.0 = search rules in
    answer-passed c.args.store.now e (rw c.in_err-k.was at (scanned (goal.at.returns-in_err-k-clause-answer c).After-scan_vectors))

pub returns-in-Some-clause-answer : goal.returns-in-Some-clause-answer
returns-in-Some-clause-answer c =
    let is = rw (c.in_ok-k.was, c.in-Some.is) at (scanned (goal.at.returns-in-Some-clause-answer c).After-scan_vectors) in
    answer-sort c.args.store.now c.in-Some.k is.0 is.1

pub returns-in-None-clause-answer : goal.returns-in-None-clause-answer
returns-in-None-clause-answer c = judged-as (rw (c.in_ok-k.was, c.in-None.is) at (scanned (goal.at.returns-in-None-clause-answer c).After-scan_vectors)) c.leaf.ensures.answer
