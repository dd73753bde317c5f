-- The six texts of the line are written one behind the other.
-- Each has room, since the six are 81 bytes long.
use Rattle.std.proofs.Common.{arith, take, [], ◌∷◌}
use Rattle.printout_sort.specs.Text.{ascii}
use Rattle.printout_sort.specs.Wrote.{TextRoom, room-now, room-then}
use Rattle.page.specs.Page.{filled}
use Rattle.page_lines.specs.LineRoomLaws.{column-long, line-room, line_wrote}
use Rattle.page_lines.proofs.line.put_line.Goals as goal
use Rattle.page_lines.proofs.line.put_line.Goals.{After-put_byte}

-- Behind the first blank there is room for the rest of the line.
rest : (c : After-put_byte) → TextRoom c.put_byte.new.self.bytes.now c.put_byte.new.self.end (filled 36 (take 36 c.args.one.now) ∷ ascii " " ∷ filled 36 (take 36 c.args.two.now) ∷ ascii "\n" ∷ [])
rest c = room-then (room-then (line-room c.args.at.line c.args.one.now c.args.two.now c.requires) c.put_number.ensures.put) c.put_byte.ensures.put

pub put_byte-requires : goal.put_byte-requires
put_byte-requires c = room-now (room-then (line-room c.args.at.line c.args.one.now c.args.two.now c.requires) c.put_number.ensures.put)

pub put_column-requires : goal.put_column-requires
put_column-requires c =
    omega (arith, room-now (rest (goal.at.put_column-requires c).After-put_byte), column-long c.args.one.now)

pub put_byte-requires-2 : goal.put_byte-requires-2
put_byte-requires-2 c = room-now (room-then (rest (goal.at.put_byte-requires-2 c).After-put_byte) c.put_column.ensures.put)

pub put_column-requires-2 : goal.put_column-requires-2
put_column-requires-2 c =
    let r = room-then (room-then (rest (goal.at.put_column-requires-2 c).After-put_byte) c.put_column.ensures.put) c.put_byte-2.ensures.put in
    omega (arith, room-now r, column-long c.args.two.now)

pub put_byte-requires-3 : goal.put_byte-requires-3
put_byte-requires-3 c =
    let r = room-then (room-then (rest (goal.at.put_byte-requires-3 c).After-put_byte) c.put_column.ensures.put) c.put_byte-2.ensures.put in
    room-now (room-then r c.put_column-2.ensures.put)

pub returns-clause-put : goal.returns-clause-put
returns-clause-put c =
    line_wrote _ _ c.put_number.ensures.put c.put_byte.ensures.put c.put_column.ensures.put c.put_byte-2.ensures.put c.put_column-2.ensures.put
    c.put_byte-3.ensures.put
