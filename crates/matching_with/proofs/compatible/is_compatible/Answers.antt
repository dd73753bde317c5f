-- The walk from an empty table.
use Rattle.std.proofs.Common.{sym, subst}
use Rattle.matching_tables.specs.Notes.{Pairs}
use Rattle.matching_tables.specs.NoteLaws.{pairs-none}
use Rattle.matching_with.specs.Met.{CompatibleAt}
use Rattle.matching_with.proofs.compatible.is_compatible.Goals as goal

pub compatible_past-requires : goal.compatible_past-requires
compatible_past-requires c =
    let s = c.args.sorts.now in
    let G = CompatibleAt s.records.now s.places.now s.count in
    (c.requires.0, c.requires.1, subst (Pairs G) (sym c.new.ensures) (pairs-none G))
