use Rattle.std.proofs.Common.{refl, ◌∙◌}
use Rattle.questions.proofs.GivenLaws.{giving-start, giving-step}
use Rattle.questions.proofs.given.give.Goals as goal

pub loop-i-init : goal.loop-i-init
loop-i-init c = (refl, (refl, refl, refl), giving-start c.requires)

pub loop-i-preserved : goal.loop-i-preserved
loop-i-preserved c =
    let i = c.loop-i.invariant in
    let b = c.bind.ensures in (
      b.params ∙ i.0,
      (b.same.0 ∙ i.1.0, b.same.1 ∙ i.1.1, b.same.2 ∙ i.1.2),
      giving-step i.2 c.requires.given c.loop-i-test.true c.u16_at.ensures.value c.u16_at.ensures.upper_bound c.sort_at-image.ensures b.bound,
    )
