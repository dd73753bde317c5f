-- The kind of the sort k.
-- The byte behind the map of a record is its kind.
use Rattle.std.proofs.Common.{arith}
use Rattle.store.proofs.EntryLaws.{place-asks, place-known, name-room, kind-has}
use Rattle.store.proofs.entries.Entries.kind.Goals as goal

pub kind_at-requires-clause-within : goal.kind_at-requires-clause-within
kind_at-requires-clause-within c = omega (arith, name-room (place-asks c.requires))

pub kind_at-requires-clause-known : goal.kind_at-requires-clause-known
kind_at-requires-clause-known c = place-known c.requires

pub returns : goal.returns
returns c = let a = c.args in
    kind-has a.self.records.now a.self.places.now a.k c.kind_at.ensures
