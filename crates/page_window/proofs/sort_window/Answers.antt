use Rattle.std.proofs.Common.{refl, subst}
use Rattle.page_window.specs.Walk.{Going}
use Rattle.page_window.specs.WalkLaws.{start_was, step_less, walk_ends}
use Rattle.page_window.proofs.sort_window.Goals as goal

pub loop-entries-init : goal.loop-entries-init
loop-entries-init c = (refl, refl, start_was c.requires c.args.skip c.start-walk.ensures)

pub loop-entries-smaller : goal.loop-entries-smaller
loop-entries-smaller c = step_less c.loop-entries.invariant.2 c.step-walk.ensures

pub returns : goal.returns
returns c = walk_ends c.loop-entries.invariant.2 (subst (Going c.loop-entries.walk c.args.want) c.loop-entries-test.false c.is_going.ensures)
