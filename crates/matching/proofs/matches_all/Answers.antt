-- The walk along both lists from an empty table.
use Rattle.std.proofs.Common.{sym, subst}
use Rattle.matching_tables.specs.Notes.{Pairs}
use Rattle.record.specs.Decode.{store_of}
use Rattle.matching_tables.specs.Tables.{table_map}
use Rattle.matching_tables.specs.NoteLaws.{pairs-none}
use Rattle.matching.specs.Met.{MatchedAt}
use Rattle.matching.proofs.matches_all.Goals as goal

pub all_past-requires : goal.all_past-requires
all_past-requires c =
    let s = c.args.sorts.now in
    let i = c.args.names.now in
    let G = MatchedAt s.records.now s.places.now s.count i.params.now (table_map (store_of s.records.now s.places.now s.count) i.images.now i.bound.now i.many) in
    (c.requires, subst (Pairs G) (sym c.new.ensures) (pairs-none G))
