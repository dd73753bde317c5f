-- The numbers left are distinct exactly where all of them are: each one passed stands nowhere behind it, and one that does ends the loop.
use Rattle.std.proofs.Common.{◌≡◌}
use Rattle.record.specs.Names.{distinct}
use Rattle.record.specs.Numbers.{numbers_left}
use Rattle.reader.proofs.scans.is_distinct.Given as goal

abbrev pub invariant-loop-v : goal.invariant-loop-v
invariant-loop-v l = distinct (numbers_left l.numbers) ≡ distinct (numbers_left l.initial.numbers)
