-- A node by its entry, its parts by the walk along their list. A sort that is noted was found so before, and only one that was found
-- so is noted.
use Rattle.std.proofs.Common.{arith}
use Rattle.matching_tables.specs.WalkLaws.{parts-ask}
use Rattle.matching_each.proofs.EachLaws.{one-fails, one-alone, one-noted, one-stop, one-more}
use Rattle.matching_each.proofs.each.each.Goals as goal
use Rattle.matching_each.proofs.each.each.Goals.{then-a-eq0-via-then-a-eq0, then-a-eq0-via-else-a-eq0+then-is_noted}

pub passes-requires : goal.passes-requires
passes-requires g c = c.requires.asked c.entry-a.result c.args.k c.requires.one c.entry-a.ensures

pub returns-then-not-passes : goal.returns-then-not-passes
returns-then-not-passes g c = one-fails c.requires.one c.entry-a.ensures c.passes.ensures c.if-not-passes.true

pub is_noted-requires : goal.is_noted-requires
is_noted-requires g c = omega (arith, c.requires.one.known, c.requires.one.usable.count)

pub returns-then-a-eq0 : goal.returns-then-a-eq0
returns-then-a-eq0 g c =
    elim c.then-a-eq0.branch [
      | then-a-eq0-via-then-a-eq0 w ↦ one-alone c.requires.one c.entry-a.ensures c.passes.ensures c.if-not-passes.false w.if-a-eq0.true
      | then-a-eq0-via-else-a-eq0+then-is_noted w ↦ one-noted c.args.k _ (w.is_noted.ensures w.if-is_noted.true)
    ]

pub all_each-requires : goal.all_each-requires
all_each-requires g c = record { list = parts-ask c.entry-a.result c.requires.one c.entry-a.ensures; asked = c.requires.asked }

pub returns-then-not-all_each : goal.returns-then-not-all_each
returns-then-not-all_each g c = one-stop c.requires.one c.entry-a.ensures c.passes.ensures c.if-not-passes.false c.all_each.ensures c.if-not-all_each.true

pub note-requires : goal.note-requires
note-requires g c = omega (arith, c.requires.one.known, c.requires.one.usable.count)

pub returns : goal.returns
returns g c = one-more c.requires.one c.entry-a.ensures c.passes.ensures c.if-not-passes.false c.all_each.ensures c.if-not-all_each.false c.note.ensures
