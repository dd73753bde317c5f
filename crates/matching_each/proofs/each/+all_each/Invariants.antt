-- The tree size falls from a list to the parts of each of its sorts, and from turn to turn of the loop. A sort that is noted was
-- found so before, and only one that was found so is noted.
use Rattle.record.specs.Number.{numbers_at}
use Rattle.record.specs.Numbers.{numbers_left}
use Rattle.record.specs.Sort.{sizes}
use Rattle.record.specs.Record.{sorts_of}
use Rattle.record.specs.Decode.{store_of}
use Rattle.matching_tables.specs.Usable.{sorts_at}
use Rattle.matching_each.proofs.EachLaws.{EachGo, EachSo}
use Rattle.matching_each.proofs.each.+all_each.Given as goal

abbrev pub decreases-all_each : goal.decreases-all_each
decreases-all_each g l = sizes (sorts_at l.sorts.now.records.now l.sorts.now.places.now l.sorts.now.count l.sorts.now.records.now l.list.at l.list.count)

abbrev pub invariant-loop-k : goal.invariant-loop-k
invariant-loop-k g l = let s = l.sorts in let ks = numbers_at s.records.now l.fn.list.at l.fn.list.count in
    EachGo s.records.now s.places.now s.count ks (numbers_left l.left)
    × EachSo s.records.now s.places.now s.count (goal.F-post g l.passes) l.initial.seen.slots ks l.seen.slots (numbers_left l.left)

abbrev pub decreases-loop-k : goal.decreases-loop-k
decreases-loop-k g l = sizes (sorts_of (store_of l.sorts.records.now l.sorts.places.now l.sorts.count) (numbers_left l.left))
