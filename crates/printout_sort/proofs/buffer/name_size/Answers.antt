-- One byte for name 0, else `n` and the digits.
-- A name under 65,536 has at most five of them.
use Rattle.std.proofs.Common.{arith}
use mathlib.Core.Path.{sym, ap}
use lib.ListN.{length}
use Rattle.printout_sort.specs.NameLaws.{name-none, name-some}
use Rattle.printout_sort.proofs.buffer.name_size.Goals as goal

pub returns-then-name-eq0 : goal.returns-then-name-eq0
returns-then-name-eq0 c = (sym (ap length (name-none _ c.if-name-eq0.true)), omega arith)

pub returns-else-name-eq0 : goal.returns-else-name-eq0
returns-else-name-eq0 c = let a = c.args in
    (omega (arith, c.digits.ensures.0, ap length (name-some a.name c.if-name-eq0.false)), omega (arith, c.digits.ensures.1))
