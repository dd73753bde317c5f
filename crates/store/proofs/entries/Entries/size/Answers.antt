-- The tree size of the sort k.
-- It stands in the last two bytes of its record.
use Rattle.store.proofs.EntryLaws.{ends-size}
use Rattle.store.proofs.entries.Entries.size.Goals as goal

pub returns : goal.returns
returns c = ends-size c.requires c.end.ensures c.number.ensures.value
