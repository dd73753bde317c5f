-- The digits fill the part of the buffer that is as long as they are.
-- So they stand behind what was written.
use Rattle.std.proofs.Common.{arith}
use Rattle.printout_sort.specs.Wrote.{wrote_part}
use Rattle.printout_sort.proofs.buffer.TextBuffer.put_decimal.Goals as goal

pub returns-clause-put : goal.returns-clause-put
returns-clause-put c = wrote_part c.put_digits.ensures c.digits.ensures.0 (omega (arith, c.requires))
