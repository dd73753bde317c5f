-- The fields of the record at the place.
-- Each field stands behind the one before it, and all lie before the end of the record.
use Rattle.std.proofs.Common.{arith}
use Rattle.store.proofs.EntryLaws.{name-room, number-room, list-room, names-room, entry-is}
use Rattle.store.proofs.entries.record_at.Goals as goal

pub bounds-records-at : goal.bounds-records-at
bounds-records-at c = omega (arith, name-room c.requires.placed)

pub kind_at-kind-requires-clause-within : goal.kind_at-kind-requires-clause-within
kind_at-kind-requires-clause-within c = omega (arith, name-room c.requires.placed)

pub name-name-requires : goal.name-name-requires
name-name-requires c = name-room c.requires.placed

pub number-number-requires : goal.number-number-requires
number-number-requires c = number-room c.requires.placed c.width.ensures

pub list-parts-requires-clause-within : goal.list-parts-requires-clause-within
list-parts-requires-clause-within c = list-room c.requires.placed c.width.ensures c.width-2.ensures

pub list-names-requires-clause-within : goal.list-names-requires-clause-within
list-names-requires-clause-within c = names-room c.requires.placed c.width.ensures c.width-2.ensures c.list-parts.ensures.at c.list-parts.ensures.count

pub returns : goal.returns
returns c =
    entry-is c.requires.placed c.width.ensures c.width-2.ensures c.list-parts.ensures.at c.list-parts.ensures.count c.kind_at-kind.ensures
    c.name-name.ensures c.number-number.ensures c.list-names.ensures.at c.list-names.ensures.count
