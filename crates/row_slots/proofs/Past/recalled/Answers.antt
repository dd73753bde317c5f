-- A code is recalled only from a slot with as many terms and the same bytes.
-- The law on such a slot is the promise; where there is no note, nothing is said.
use Rattle.std.proofs.Common.{arith}
use Prim.Native.Nat.{ℕ, ◌+◌, ◌*◌}
use mathlib.Core.Path.{ap}
use lib.ListN.{get_or}
use Rattle.row_slots.proofs.SlotLaws.{recalled-is, begins}
use Rattle.row_slots.proofs.Past.recalled.Goals as goal

pub returns : goal.returns
returns c =
    let a = c.args in
    recalled-is c.requires c.if-self-at.false (begins c.requires c.packed.ensures c.if-not-starts_with.false c.starts_with.ensures.value)
    (ap (λ (x : ℕ). get_or a.self.now.bytes.now (a.at + 3) 0 * 65536 + x) c.u16_at.ensures.value) (omega (arith, c.u16_at.ensures.upper_bound))
