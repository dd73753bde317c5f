-- The loop keeps: what is left decides the whole, and each sort noted is free of Par, and so is the last one.
use Rattle.record.specs.Numbers.{numbers_left}
use Rattle.row_application.specs.Words.{ParlessNotes}
use Rattle.row_application.proofs.ExactLaws.{ExactRun, LastFree}
use Rattle.row_application.proofs.plain.all_exact.Given as goal

abbrev pub invariant-loop-sort : goal.invariant-loop-sort
invariant-loop-sort l =
    ExactRun l.sorts.records.now l.sorts.places.now l.sorts.count l.fn.list.at l.args.bytes.now l.fn.list.count (numbers_left l.sort-iterator.a) (numbers_left l.sort-iterator.b)
    × ParlessNotes l.sorts l.seen.slots × LastFree l.sorts.records.now l.sorts.places.now l.sorts.count l.last
