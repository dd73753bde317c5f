-- The loop keeps: the numbers so far are those of the list.
use Rattle.std.proofs.Common.{◌≡◌, ℕ, ◌+◌, ◌*◌, ◌<◌, get_or}
use Rattle.record.specs.Number.{u16_at}
use Rattle.apply_walk.proofs.lists.read_numbers.Given as goal

abbrev pub invariant-loop-i : goal.invariant-loop-i
invariant-loop-i l = (k : ℕ) → k < l.i → get_or l.out k 0 ≡ u16_at l.bytes (l.span.at + 2 * k)
