-- Each turn writes the next of the names that are left.
-- So at the end nothing is left, and the whole stands there.
use Rattle.std.proofs.Common.{arith, ◌∙◌}
use Rattle.printout_sort.specs.NameLaws.{put-next, next-room, put-end}
use Rattle.printout_sort.specs.Wrote.{wrote-more, wrote-long, left_step}
use Rattle.printout_sort.proofs.buffer.TextBuffer.put_names.Goals as goal

pub put_byte-requires : goal.put_byte-requires
put_byte-requires c =
    let e = c.in-Some.ensures.steps in
    omega (arith, next-room _ _ (put-next c.loop-name.invariant.0 e))

pub put_name-requires : goal.put_name-requires
put_name-requires c =
    let e = c.in-Some.ensures.steps in
    omega (arith, next-room _ _ (put-next c.loop-name.invariant.0 e), c.put_byte.ensures.put.next, wrote-long c.put_byte.ensures.put)

pub loop-name-preserved : goal.loop-name-preserved
loop-name-preserved c =
    let e = c.in-Some.ensures.steps in (
      left_step _ (put-next c.loop-name.invariant.0 e) (wrote-more c.put_byte.ensures.put c.put_name.ensures.put),
      c.put_name.ensures.same ∙ c.put_byte.ensures.same ∙ c.loop-name.invariant.1,
    )

pub returns-clause-put : goal.returns-clause-put
returns-clause-put c = put-end c.loop-name.invariant.0 c.in-None.ensures.steps.0
