-- The sort k taken apart.
-- Its record is read at its place; the law of the store says it on trees.
use Rattle.store.proofs.EntryLaws.{place-asks, place-known, entry_has}
use Rattle.store.proofs.entries.Entries.entry.Goals as goal

pub record_at-requires-clause-placed : goal.record_at-requires-clause-placed
record_at-requires-clause-placed c = place-asks c.requires

pub record_at-requires-clause-known : goal.record_at-requires-clause-known
record_at-requires-clause-known c = place-known c.requires

pub returns : goal.returns
returns c = let a = c.args in
    entry_has a.self.places.now a.k c.record_at.ensures
