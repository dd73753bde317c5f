-- The loop keeps: the pairs from i on are bound, and no other names. A turn binds the pair before them.
use Rattle.matching_tables.specs.Names.{SameNames, SameParams}
use Rattle.questions.proofs.GivenLaws.{Giving}
use Rattle.questions.proofs.given.give.Given as goal

abbrev pub invariant-loop-i : goal.invariant-loop-i
invariant-loop-i l =
    SameParams l.initial.names l.names × SameNames l.initial.names l.names
    × Giving l.sheet.bytes.now l.sheet.table.now l.given.at l.given.count l.names.images.now l.names.bound.now l.names.many l.i
