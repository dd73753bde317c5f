-- Blanks, and the newline behind them.
-- Both are written one behind the other.
use Rattle.std.proofs.Common.{arith}
use Rattle.printout_sort.specs.Wrote.{wrote-more, wrote-long}
use Rattle.page_lines.specs.LineRoomLaws.{blanks-long}
use Rattle.page_lines.proofs.line.put_blank_line.Goals as goal

pub put_byte-requires : goal.put_byte-requires
put_byte-requires c = let w = c.put_blanks.ensures.put in omega (arith, c.requires, w.next, wrote-long w, blanks-long 80)

pub returns-clause-put : goal.returns-clause-put
returns-clause-put c = wrote-more c.put_blanks.ensures.put c.put_byte.ensures.put
