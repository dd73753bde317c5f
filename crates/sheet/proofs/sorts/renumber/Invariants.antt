-- The references are overwritten by their store numbers, and nothing else changes.
-- The loop keeps: what is left to write, written, gives the whole.
use Prim.Native.Nat.{◌+◌, ◌*◌, ◌-◌}
use Rattle.sheet.proofs.TranslateLaws.{Writing}
use Rattle.sheet.proofs.sorts.renumber.Given as goal

abbrev pub invariant-loop-i : goal.invariant-loop-i
invariant-loop-i l = Writing l.initial.rec l.table l.list.at l.list.count l.rec (l.list.at + 2 * l.i) (l.list.count - l.i)
