-- The buffer with the bytes written from the place on.
-- The loop keeps: the entry list with the first j bytes pasted in.
use Prim.Native.Nat.{◌≤◌}
use mathlib.Core.Path.{◌≡◌}
use lib.ListN.{length}
use lib.Seq.{paste}
use Rattle.store.proofs.buffers.copy_at.Given as goal

abbrev pub invariant-loop-j : goal.invariant-loop-j
invariant-loop-j l = (l.dst ≡ paste l.initial.dst l.at l.src l.j) × (l.j ≤ length l.src) × (length l.dst ≡ length l.initial.dst)
