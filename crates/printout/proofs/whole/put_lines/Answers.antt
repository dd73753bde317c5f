-- Each turn writes one line more, or the next one does not fit.
-- At the end all lines are written.
use Rattle.std.proofs.Common.{refl, ◌∙◌}
use Rattle.printout.specs.WholeLaws.{showing-start, showing-step}
use Rattle.printout.proofs.whole.put_lines.Goals as goal

pub loop-k-init : goal.loop-k-init
loop-k-init c = (rw c.requires.empty (showing-start _ _ _ _ _ _ _ _ c.requires.asks c.args.out.now.bytes.now), refl)

pub loop-k-preserved : goal.loop-k-preserved
loop-k-preserved c = (
  showing-step _ _ _ _ _ _ _ _ c.requires.asks _ _ _ _ c.loop-k.invariant.0 _ c.line.new.out.end c.loop-k-test.true c.in_default.ensures.line,
  c.line.ensures.same ∙ c.loop-k.invariant.1,
)
