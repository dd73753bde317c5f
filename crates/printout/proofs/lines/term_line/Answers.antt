-- The line is measured first, and written only where it fits, piece by piece.
-- What is written leaves room for the pieces behind it.
use Rattle.printout_sort.specs.Wrote.{wrote-more, room-now, room-then}
use Rattle.printout.specs.LineLaws.{term-full, term-room, term-wrote}
use Rattle.printout.proofs.lines.term_line.Goals as goal

pub returns-then-room-digits-clause-line : goal.returns-then-room-digits-clause-line
returns-then-room-digits-clause-line c = term-full _ _ _ _ _ c.args.out.now.fits c.digits.ensures.0 c.row_size-one.ensures.0 c.row_size-two.ensures.0 c.room.ensures c.if-room-digits.true

pub put_label-requires : goal.put_label-requires
put_label-requires c = room-now (term-room _ _ _ _ _ c.args.out.now.fits c.digits.ensures.0 c.row_size-one.ensures.0 c.row_size-two.ensures.0 c.room.ensures c.if-room-digits.false)

pub put_row-requires-clause-room : goal.put_row-requires-clause-room
put_row-requires-clause-room c = room-now (room-then (term-room _ _ _ _ _ c.args.out.now.fits c.digits.ensures.0 c.row_size-one.ensures.0 c.row_size-two.ensures.0 c.room.ensures c.if-room-digits.false) c.put_label.ensures.put)

pub put_byte-requires : goal.put_byte-requires
put_byte-requires c =
    room-now (room-then (room-then (term-room _ _ _ _ _ c.args.out.now.fits c.digits.ensures.0 c.row_size-one.ensures.0 c.row_size-two.ensures.0 c.room.ensures c.if-room-digits.false) c.put_label.ensures.put) c.put_row.ensures.put)

pub put_row-requires-2-clause-room : goal.put_row-requires-2-clause-room
put_row-requires-2-clause-room c =
    let first = term-room _ _ _ _ _ c.args.out.now.fits c.digits.ensures.0 c.row_size-one.ensures.0 c.row_size-two.ensures.0 c.room.ensures c.if-room-digits.false in
    let r = room-then (room-then first c.put_label.ensures.put) c.put_row.ensures.put in
    room-now (room-then r c.put_byte.ensures.put)

pub put_byte-requires-2 : goal.put_byte-requires-2
put_byte-requires-2 c =
    let first = term-room _ _ _ _ _ c.args.out.now.fits c.digits.ensures.0 c.row_size-one.ensures.0 c.row_size-two.ensures.0 c.room.ensures c.if-room-digits.false in
    let r = room-then (room-then first c.put_label.ensures.put) c.put_row.ensures.put in
    room-now (room-then (room-then r c.put_byte.ensures.put) c.put_row-2.ensures.put)

pub returns-clause-line : goal.returns-clause-line
returns-clause-line c =
    let w = wrote-more c.put_byte.ensures.put (wrote-more c.put_row-2.ensures.put c.put_byte-2.ensures.put) in
    term-wrote _ _ _ _ _ (wrote-more c.put_label.ensures.put (wrote-more c.put_row.ensures.put w))
