-- The name is written in one piece for 0, else in two.
-- What was written first leaves room for the second.
use Rattle.std.proofs.Common.{arith}
use mathlib.Core.Path.{sym, ap}
use Rattle.printout_sort.specs.NameLaws.{name-none, name-some}
use Rattle.printout_sort.specs.Wrote.{wrote_as, wrote-more, wrote-long}
use lib.ListN.{length}
use Rattle.printout_sort.proofs.buffer.TextBuffer.put_name.Goals as goal

pub put_byte-requires : goal.put_byte-requires
put_byte-requires c = omega (arith, c.requires, ap length (name-none c.args.name c.if-name-eq0.true))

pub put_byte-requires-else-name-eq0 : goal.put_byte-requires-else-name-eq0
put_byte-requires-else-name-eq0 c = omega (arith, c.requires, ap length (name-some c.args.name c.if-name-eq0.false))

pub put_decimal-requires : goal.put_decimal-requires
put_decimal-requires c = omega (arith, c.requires, ap length (name-some c.args.name c.if-name-eq0.false), c.put_byte-else-name-eq0.ensures.put.next, wrote-long c.put_byte-else-name-eq0.ensures.put)

pub returns-then-name-eq0-clause-put : goal.returns-then-name-eq0-clause-put
returns-then-name-eq0-clause-put c = wrote_as (sym (name-none _ c.if-name-eq0.true)) c.put_byte.ensures.put

pub returns-else-name-eq0-clause-put : goal.returns-else-name-eq0-clause-put
returns-else-name-eq0-clause-put c = wrote_as (sym (name-some _ c.if-name-eq0.false)) (wrote-more c.put_byte-else-name-eq0.ensures.put c.put_decimal.ensures.put)
