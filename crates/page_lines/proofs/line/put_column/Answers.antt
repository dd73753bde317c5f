-- Of the text as much is copied as the column holds, and the blanks fill the column.
-- That is the text's piece, and together they are 36 bytes.
use Rattle.std.proofs.Common.{arith, length-take}
use Rattle.printout_sort.specs.Wrote.{wrote-long}
use Rattle.page_lines.specs.LineRoomLaws.{piece-is, column-some}
use Rattle.page_lines.proofs.line.put_column.Goals as goal

pub put_blanks-requires : goal.put_blanks-requires
put_blanks-requires c = let w = c.put.ensures.put in omega (arith, c.requires, w.next, wrote-long w, length-take c.min.result c.args.src.now)

pub returns-clause-put : goal.returns-clause-put
returns-clause-put c = column-some c.args.src.now _ (piece-is c.args.src.now (omega arith) (omega arith) (λ h. omega arith)) c.put.ensures.put c.put_blanks.ensures.put
