-- Real where one of the arguments is Real.
use Rattle.std.proofs.Common.{◌≡◌, ap, ◌∙◌}
use Rattle.row_answer.specs.AnswerLaws.{judged-as}
use Rattle.infer_rules.specs.Inferred.{some_real, sum_of}
use Rattle.infer_operator.specs.Asks.{arguments}
use Rattle.infer_operator.proofs.AnswerWays.{lent-known, numbers-are}
use Rattle.infer_operator.proofs.single.sum.Goals as goal
use Rattle.infer_operator.proofs.single.sum.Goals.{After-some_real}

real : (c : After-some_real) → some_real (arguments c.args.store.now c.args.args.now) ≡ c.some_real.result
real c =
    let z = c.entries in
    numbers-are z.result c.args.store.now z.ensures.records z.ensures.places c.args.args.now c.requires c.numbers.ensures (λ b p n ss. some_real ss ≡ c.some_real.result) c.some_real.ensures

pub some_real-requires : goal.some_real-requires
some_real-requires c = lent-known c.entries.result c.args.store.now c.entries.ensures.records c.entries.ensures.places c.args.args.now c.requires c.numbers.ensures

pub returns-then-some_real-clause-answer : goal.returns-then-some_real-clause-answer
returns-then-some_real-clause-answer c = judged-as (ap sum_of (real (goal.at.returns-then-some_real-clause-answer c).After-some_real ∙ c.if-some_real.true)) c.leaf.ensures.answer

pub returns-else-some_real-clause-answer : goal.returns-else-some_real-clause-answer
returns-else-some_real-clause-answer c =
    judged-as (ap sum_of (real (goal.at.returns-else-some_real-clause-answer c).After-some_real ∙ c.if-some_real.false)) c.leaf-else-some_real.ensures.answer
