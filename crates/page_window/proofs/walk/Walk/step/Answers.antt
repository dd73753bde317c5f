-- A bracket is written, a part is passed over by its size in the table, or it is entered.
-- Each is a law of the walk; the rest is that the top frame is on the stack, and its parts in the table.
use Rattle.std.proofs.Common.{arith, sym, ap, ◌∙◌}
use Rattle.printout_sort.specs.Pieces.{close_text}
use Rattle.printout_sort.specs.Wrote.{wrote_as}
use Rattle.page_window.specs.StepLaws.{top-deep, close-fits, close-is, next_fits, part-known, skip_is, part-enters, part-is}
use Rattle.page_window.proofs.walk.Walk.step.Goals as goal

pub offset_bounds-stack-top : goal.offset_bounds-stack-top
offset_bounds-stack-top c = omega (arith, top-deep c.requires)

pub bounds-stack-top : goal.bounds-stack-top
bounds-stack-top c = top-deep c.requires

pub closed-requires : goal.closed-requires
closed-requires c = rw c.form.ensures (c.requires.some, close-fits c.requires)

pub returns-then-left-eq0 : goal.returns-then-left-eq0
returns-then-left-eq0 c =
    close-is c.requires (sym c.left.ensures ∙ c.if-left-eq0.true) (wrote_as (ap close_text c.form.ensures) c.closed.ensures.wrote) c.closed.ensures.settled

pub next-requires : goal.next-requires
next-requires c = next_fits c.requires c.left.ensures c.if-left-eq0.false c.place.ensures

pub offset_bounds-stack-top-2 : goal.offset_bounds-stack-top-2
offset_bounds-stack-top-2 c = omega (arith, top-deep c.requires)

pub bounds-stack-top-2 : goal.bounds-stack-top-2
bounds-stack-top-2 c = top-deep c.requires

pub returns-then-size-self : goal.returns-then-size-self
returns-then-size-self c =
    let known = part-known c.requires c.left.ensures c.if-left-eq0.false c.place.ensures c.number-k.ensures.value in
    rw c.next.ensures (skip_is c.requires c.left.ensures c.if-left-eq0.false c.place.ensures c.number-k.ensures.value _ (known.each _ (omega arith)) c.if-self-eq0.true c.if-size-self.true)

pub entered-requires : goal.entered-requires
entered-requires c =
    rw c.next.ensures (part-enters c.requires c.left.ensures c.if-left-eq0.false c.place.ensures c.number-k.ensures.value)

pub returns : goal.returns
returns c =
    part-is c.requires c.left.ensures c.if-left-eq0.false c.place.ensures c.number-k.ensures.value (rw c.next.ensures at c.entered.ensures)
