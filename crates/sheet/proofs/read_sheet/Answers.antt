-- Zeroed buffers hold the empty store, so the records are read over it; the header comes first.
-- The lent lengths are those at entry, since no call changes a length.
use Rattle.sheet.proofs.HeaderLaws.{records-ask}
use Rattle.sheet.proofs.read_sheet.Goals as goal

pub invariant_of-store : goal.invariant_of-store
invariant_of-store c =
    record { good = (records-ask c.args.records.now c.args.places.now c.requires.long c.requires.empty c.args.tables.now c.in_ok-header.ensures (c.fill.ensures.after (λ y e. e)) (c.fill-2.ensures.after (λ y e. e))).sorts.state.good }

pub read_records-requires : goal.read_records-requires
read_records-requires c =
    records-ask c.args.records.now c.args.places.now c.requires.long c.requires.empty c.args.tables.now c.in_ok-header.ensures (c.fill.ensures.after (λ y e. e)) (c.fill-2.ensures.after (λ y e. e))
