-- The record with its size.
-- Its map, what stands behind that, and the size are written one behind the other.
use Rattle.store.proofs.BufferLaws.{put-sized}
use Rattle.store.proofs.buffers.put_record.Goals as goal

pub returns : goal.returns
returns c = put-sized c.requires c.copy_at.ensures c.copy_at-2.ensures c.to_le_bytes.ensures
