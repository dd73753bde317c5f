use Rattle.store.proofs.entries.Sorts.entry.Goals as goal

pub returns : goal.returns
returns c = let e = rw (c.entries.ensures.records, c.entries.ensures.places) at c.entry.ensures in e
