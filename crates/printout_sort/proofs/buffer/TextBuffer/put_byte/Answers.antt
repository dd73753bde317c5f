-- A byte is a text of one.
-- It stands where the text before it ended.
use Rattle.printout_sort.specs.Wrote.{wrote_one}
use Rattle.std.proofs.Common.{arith}
use Rattle.printout_sort.proofs.buffer.TextBuffer.put_byte.Goals as goal

pub returns-clause-put : goal.returns-clause-put
returns-clause-put c = wrote_one _ _ c.args.byte (omega (arith, c.requires))
