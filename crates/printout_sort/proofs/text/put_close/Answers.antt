-- Without a bracket the text is empty.
-- Nothing is written then.
use Rattle.std.proofs.Common.{arith}
use Rattle.printout_sort.specs.Wrote.{wrote_as, wrote_none}
use Rattle.printout_sort.proofs.text.put_close.Goals as goal

pub returns-in_default-clause-put : goal.returns-in_default-clause-put
returns-in_default-clause-put c = wrote_as c.in_default.ensures (wrote_none _ _ (omega (arith, c.requires)))
