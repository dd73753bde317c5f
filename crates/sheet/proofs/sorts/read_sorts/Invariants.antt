-- The result is that of `read_sorts`, the store and the table what it gives.
-- The loop keeps: the first i records are read; a refusal stays to the end.
use Rattle.store.specs.Changes.{Same}
use Rattle.sheet.proofs.SortLaws.{Loading}
use Rattle.sheet.proofs.sorts.read_sorts.Given as goal

abbrev pub invariant-loop-i : goal.invariant-loop-i
invariant-loop-i l =
    Same l.initial.store l.store
    × Loading l.s l.initial.store.records.now l.initial.store.places.now l.store.records.now l.store.places.now l.store.index.now l.table l.scratch l.m l.i l.cursor.at l.store.count l.store.used
