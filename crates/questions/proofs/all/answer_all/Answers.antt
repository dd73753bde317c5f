use Rattle.std.proofs.Common.{arith, refl, ◌∙◌}
use Rattle.questions.specs.All.{answering-start, next-asks, answering-step, answering-end}
use Rattle.questions.proofs.all.answer_all.Goals as goal

pub loop-q-init : goal.loop-q-init
loop-q-init c = ((refl, refl, refl), (refl, refl, refl), answering-start c.requires)

pub answer_at-requires : goal.answer_at-requires
answer_at-requires c = next-asks c.requires c.loop-q.invariant.2 c.loop-q-test.true c.from.ensures

pub loop-q-preserved : goal.loop-q-preserved
loop-q-preserved c =
    let i = c.loop-q.invariant in
    let a = c.answer_at.ensures in (
      (a.same.0 ∙ i.0.0, a.same.1 ∙ i.0.1, a.same.2 ∙ i.0.2),
      (a.names.0 ∙ i.1.0, a.names.1 ∙ i.1.1, a.names.2 ∙ i.1.2),
      answering-step c.requires i.2 c.loop-q-test.true c.from.ensures a.answer,
    )

pub returns-clause-answers : goal.returns-clause-answers
returns-clause-answers c = answering-end c.requires c.loop-q.invariant.2 (omega (arith, c.loop-q.auto.q-end, c.loop-q-test.false))
