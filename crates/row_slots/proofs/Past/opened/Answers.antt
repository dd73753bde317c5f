-- The slot is emptied and the numbers are copied.
-- So it says nothing, and the others what they said.
use Rattle.row_slots.proofs.SlotLaws.{open_is}
use Rattle.row_slots.proofs.Past.opened.Goals as goal

pub returns-clause-opened : goal.returns-clause-opened
returns-clause-opened c = open_is c.requires c.packed.ensures c.copy_at.ensures
