-- The loop keeps: the first i given sorts may be targets, and both tables note sorts rightly.
use Rattle.matching_each.specs.Words.{KnownSeen, UnlistedSeen}
use Rattle.questions.proofs.GivenLaws.{Testing}
use Rattle.questions.proofs.given.given_in_premise.Given as goal

abbrev pub invariant-loop-i : goal.invariant-loop-i
invariant-loop-i l =
    KnownSeen l.sorts l.seen × UnlistedSeen l.sorts l.names l.free
    × Testing l.sorts.records.now l.sorts.places.now l.sorts.count l.names.params.now l.sheet.bytes.now l.sheet.table.now l.given.at l.given.count l.i
