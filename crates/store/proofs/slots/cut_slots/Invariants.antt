-- The slots below the end hold the first records alone.
-- The loop keeps: so do those below the index, and the others are as they were.
use Rattle.store.specs.Index.{SlotsCut}
use Rattle.store.proofs.slots.cut_slots.Given as goal

abbrev pub invariant-loop-slot : goal.invariant-loop-slot
invariant-loop-slot l = SlotsCut l.initial.slot-items l.slot-index l.from l.slot-items
