-- The answer by the first index: there is none, it is no integer constant, or it is a number of four bytes.
use Rattle.std.proofs.Common.{◌≡◌, ap, ◌∙◌, ◌∷◌}
use Rattle.record.specs.Cases.{positive}
use Rattle.record.specs.Kinds.{param_number}
use Rattle.row_answer.specs.AnswerLaws.{judged-as}
use Rattle.row_answer.specs.Arguments.{integer_of}
use Rattle.infer_rules.specs.Inferred.{indexed}
use Rattle.infer_operator.specs.Asks.{arguments}
use Rattle.infer_operator.proofs.AnswerWays.{answer-panics}
use Rattle.infer_row.specs.Indexed.{indices, others}
use Rattle.infer_row.proofs.IndexedLaws.{constants-none, looks-none, looks-unknown, looks-first}
use Rattle.infer_row.proofs.indexed.first_index.Goals as goal
use Rattle.infer_row.proofs.indexed.first_index.Goals.{After-index_at}

-- The answer by the first index.
first : (c : After-index_at)
    → let ss = arguments c.args.store.now c.args.args.now in
    let z = c.args.sheet.now in
    indexed (param_number c.args.op) (indices z c.args.second) ss ≡ indexed (param_number c.args.op) (integer_of c.index_at.result ∷ others z c.args.second) ss
first c =
    looks-first c.args.second.at c.args.second.count (positive c.args.second.count c.if-second-eq0.false) c.index_at.ensures (param_number c.args.op) (arguments c.args.store.now c.args.args.now)

pub returns-then-second-eq0-clause-answer : goal.returns-then-second-eq0-clause-answer
returns-then-second-eq0-clause-answer c =
    let z = c.args.sheet.now in
    let ss = arguments c.args.store.now c.args.args.now in
    answer-panics c.args.store.now
    (ap (λ is. indexed (param_number c.args.op) is ss) (constants-none z.bytes.now z.starts.now c.args.second.at c.args.second.count c.if-second-eq0.true) ∙ looks-none ss c.requires.looks)

pub returns-in-Some-clause-answer : goal.returns-in-Some-clause-answer
returns-in-Some-clause-answer c = judged-as (rw c.in-Some.is at (first (goal.at.returns-in-Some-clause-answer c).After-index_at)) c.by_index.ensures.answer

pub returns-in-None-clause-answer : goal.returns-in-None-clause-answer
returns-in-None-clause-answer c =
    let e = rw c.in-None.is at (first (goal.at.returns-in-None-clause-answer c).After-index_at) in
    judged-as (e ∙ looks-unknown _ _ c.requires.looks) c.leaf.ensures.answer
