use Rattle.std.proofs.Common.{arith, refl, ◌∙◌}
use Rattle.printout_sort.specs.Wrote.{wrote-long}
use Rattle.page_lines.specs.RowLaws.{pieces-on, pieces-start, window-lines-none, window-lines-more, window-lines-long}
use Rattle.page_lines.proofs.rows.window_lines.Goals as goal

pub loop-done-init : goal.loop-done-init
loop-done-init c = (refl, window-lines-none _ _ _ (omega (arith, c.requires.fits)), pieces-start _, pieces-start _)

pub put_line-requires : goal.put_line-requires
put_line-requires c =
    let a = c.args in
    let w = c.loop-done.invariant.1 in
    record {
      few = c.requires.few;
      fits = omega (arith, w.next, wrote-long w, c.requires.fits, c.loop-done-test.true, window-lines-long a.from.row a.from.line a.first.now a.second.now c.loop-done.done c.requires.few);
    }

pub loop-done-preserved : goal.loop-done-preserved
loop-done-preserved c =
    let a = c.args in
    let l = c.loop-done in
    let i = l.invariant in (
      c.put_line.ensures.same ∙ i.0,
      window-lines-more a.from.row a.from.line a.first.now a.second.now l.done i.2 i.3 i.1 c.put_line.ensures.put,
      pieces-on a.first.now l.done i.2 (omega arith) (omega arith) (λ h. omega arith),
      pieces-on a.second.now l.done i.3 (omega arith) (omega arith) (λ h. omega arith),
    )
