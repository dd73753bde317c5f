-- Where the record of the sort k ends.
-- The records lie back to back, so that it is where the next one starts, or the end of the bytes in use.
use Rattle.std.proofs.Common.{arith}
use Rattle.store.proofs.EntryLaws.{next-ends, last-ends}
use Rattle.store.proofs.entries.Entries.end.Goals as goal

pub returns-then-next-count : goal.returns-then-next-count
returns-then-next-count c = next-ends c.requires c.if-next-count.true

pub returns-else-next-count : goal.returns-else-next-count
returns-else-next-count c = last-ends c.requires (omega (arith, c.if-next-count.false))
