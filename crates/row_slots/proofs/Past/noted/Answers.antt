-- The count and the code are written into one slot.
-- That note is the only new one.
use Rattle.row_slots.proofs.SlotLaws.{note-is}
use Rattle.row_slots.proofs.Past.noted.Goals as goal

pub returns-clause-noted : goal.returns-clause-noted
returns-clause-noted c = note-is c.requires c.to_le_bytes.result c.to_le_bytes.ensures c.copy_at.ensures
