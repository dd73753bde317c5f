-- The loop keeps: the digits that are left stand before those that are written.
use Rattle.std.proofs.Common.{◌≡◌, ◌++◌, drop}
use Rattle.printout_sort.specs.Text.{decimal}
use Rattle.printout_sort.specs.DecimalLaws.{last_digits}
use Rattle.printout_sort.proofs.buffer.put_digits.Given as goal

abbrev pub invariant-loop-i : goal.invariant-loop-i
invariant-loop-i l = last_digits l.i l.rest ++ drop l.i l.text ≡ decimal l.v
