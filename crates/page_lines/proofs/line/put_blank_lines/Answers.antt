use Rattle.std.proofs.Common.{arith, refl, ◌∙◌}
use Rattle.printout_sort.specs.Wrote.{wrote-long}
use Rattle.page_lines.specs.LineRoomLaws.{blank-lines-long, blank-lines-none, blank-lines-more}
use Rattle.page_lines.proofs.line.put_blank_lines.Goals as goal

pub loop-i-init : goal.loop-i-init
loop-i-init c = (refl, blank-lines-none _ _ (omega (arith, c.requires)))

pub put_blank_line-requires : goal.put_blank_line-requires
put_blank_line-requires c =
    let w = c.loop-i.invariant.1 in
    omega (arith, c.requires, w.next, wrote-long w, blank-lines-long 0 c.loop-i._i, c.loop-i-test.true)

pub loop-i-preserved : goal.loop-i-preserved
loop-i-preserved c =
    (c.put_blank_line.ensures.same ∙ c.loop-i.invariant.0, blank-lines-more c.loop-i._i c.loop-i.invariant.1 c.put_blank_line.ensures.put)
