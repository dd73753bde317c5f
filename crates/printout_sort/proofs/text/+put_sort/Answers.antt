-- Room for the text is room for its pieces, one after the other.
-- What the loop has written of the parts is their text at its end.
use Rattle.std.proofs.Common.{arith, refl, ap, ◌∙◌}
use Rattle.record.specs.Numbers.{numbers_left}
use Rattle.printout_sort.specs.Text.{text}
use Rattle.printout_sort.specs.Trees.{tree_at}
use Rattle.printout_sort.specs.TreeLaws.{entry-room, entry-wrote, entry-text-size, inner-asks, list-asks, parts-left, parts-next, text-next, text-next-room, text-end}
use Rattle.printout_sort.specs.Wrote.{wrote_as, wrote-more, wrote-long, room-now, room-then, left-start, left_step}
use Rattle.printout_sort.proofs.text.+put_sort.Goals as goal

pub put-requires : goal.put-requires
put-requires t c =
    let e = c.entry-a.ensures _ c.requires.asks.stored (omega arith) in
    rw c.word.ensures (room-now (entry-room c.requires.asks e c.form_of-form.ensures _ _ c.requires.room))

pub put_inner-requires-clause-asks : goal.put_inner-requires-clause-asks
put_inner-requires-clause-asks t c = inner-asks c.requires.asks (c.entry-a.ensures _ c.requires.asks.stored (omega arith)) c.form_of-form.ensures

pub put_inner-requires-clause-room : goal.put_inner-requires-clause-room
put_inner-requires-clause-room t c =
    let e = c.entry-a.ensures _ c.requires.asks.stored (omega arith) in
    room-now (room-then (entry-room c.requires.asks e c.form_of-form.ensures _ _ c.requires.room) (wrote_as c.word.ensures c.put.ensures.put))

pub loop-part-init : goal.loop-part-init
loop-part-init t c =
    let e = c.entry-a.ensures _ c.requires.asks.stored (omega arith) in
    let q = ap numbers_left c.into_iter-part-iterator.ensures.into_iter_gives ∙ c.numbers-part-items.ensures in
    let r = room-then (entry-room c.requires.asks e c.form_of-form.ensures _ _ c.requires.room) (wrote_as c.word.ensures c.put.ensures.put) in
    rw q (parts-left (list-asks c.requires.asks e c.form_of-form.ensures), left-start _ _ _ (room-now (room-then r c.put_inner.ensures.put)), refl)

pub put_byte-requires : goal.put_byte-requires
put_byte-requires t c =
    let e = c.args.entries in
    omega (arith, text-next-room (text (tree_at e.records.now e.places.now c.in-Some.part)) _ (text-next _ _ c.loop-part.invariant.1 c.in-Some.ensures.steps))

pub put_sort-requires : goal.put_sort-requires
put_sort-requires t c =
    let e = c.entry-a.ensures _ c.requires.asks.stored (omega arith) in
    let s = c.args.entries in
    let q = ap numbers_left c.into_iter-part-iterator.ensures.into_iter_gives ∙ c.numbers-part-items.ensures in
    let n = parts-next c.loop-part.invariant.0 c.in-Some.ensures.steps in
    let r = text-next-room (text (tree_at s.records.now s.places.now c.in-Some.part)) _ (text-next _ _ c.loop-part.invariant.1 c.in-Some.ensures.steps) in (
      omega (arith, c.decreases, n.2, rw (← q) at (entry-text-size c.requires.asks e c.form_of-form.ensures)),
      (n.0, omega (arith, r, c.put_byte.ensures.put.next, wrote-long c.put_byte.ensures.put)),
    )

pub loop-part-preserved : goal.loop-part-preserved
loop-part-preserved t c = (
  (parts-next c.loop-part.invariant.0 c.in-Some.ensures.steps).1,
  left_step _ (text-next _ _ c.loop-part.invariant.1 c.in-Some.ensures.steps) (wrote-more c.put_byte.ensures.put c.put_sort.ensures.put),
  c.put_sort.ensures.same ∙ c.put_byte.ensures.same ∙ c.loop-part.invariant.2,
)

pub put_close-requires : goal.put_close-requires
put_close-requires t c =
    let e = c.entry-a.ensures _ c.requires.asks.stored (omega arith) in
    let q = ap numbers_left c.into_iter-part-iterator.ensures.into_iter_gives ∙ c.numbers-part-items.ensures in
    let w = rw q at (text-end _ _ c.loop-part.invariant.1 c.in-None.ensures.steps.0) in
    let r = room-then (entry-room c.requires.asks e c.form_of-form.ensures _ _ c.requires.room) (wrote_as c.word.ensures c.put.ensures.put) in
    room-now (room-then (room-then r c.put_inner.ensures.put) w)

pub returns-clause-put : goal.returns-clause-put
returns-clause-put t c =
    let e = c.entry-a.ensures _ c.requires.asks.stored (omega arith) in
    let q = ap numbers_left c.into_iter-part-iterator.ensures.into_iter_gives ∙ c.numbers-part-items.ensures in
    let w = rw q at (text-end _ _ c.loop-part.invariant.1 c.in-None.ensures.steps.0) in
    entry-wrote c.requires.asks e c.form_of-form.ensures (wrote-more (wrote_as c.word.ensures c.put.ensures.put) (wrote-more c.put_inner.ensures.put (wrote-more w c.put_close.ensures.put)))
