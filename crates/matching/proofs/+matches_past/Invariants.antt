-- The tree size of the pattern falls at every call and at every turn of the walk's loop. The walk keeps: the answer of the present
-- pair, from the present map, is that of the first; the lists' loop: the answer of what is left is that of the whole. Only a pair that was
-- found to fit is noted.
use Rattle.std.proofs.Common.{◌+◌, ◌*◌}
use Rattle.std.specs.Iterator.Adapters.{zip_first, zip_second}
use Rattle.record.specs.Sort.{size, sizes}
use Rattle.record.specs.Record.{sorts_of}
use Rattle.record.specs.Numbers.{numbers_left}
use Rattle.record.specs.Decode.{store_of, sort_at}
use Rattle.matching_tables.specs.Names.{SameNames, SameParams}
use Rattle.matching.proofs.PlainLaws.{PastInv, StepInv}
use Rattle.matching.proofs.+matches_past.Given as goal

abbrev pub decreases-matches_past : goal.decreases-matches_past
decreases-matches_past l = 2 * size (sort_at l.sorts.now.records.now l.sorts.now.places.now l.sorts.now.count l.p)

abbrev pub decreases-all_past : goal.decreases-all_past
decreases-all_past l = 2 * sizes (sorts_of (store_of l.sorts.now.records.now l.sorts.now.places.now l.sorts.now.count) (numbers_left l.patterns)) + 1

abbrev pub invariant-matches_past-loop-name : goal.invariant-matches_past-loop-name
invariant-matches_past-loop-name l = let s = l.sorts in let o = l.initial.names in let i = l.names in
    StepInv s.records.now s.places.now s.count o.params.now o.images.now o.bound.now o.many l.p l.t i.images.now i.bound.now l.met.slots i.many l.k l.j
    × SameParams o i × SameNames o i

abbrev pub decreases-matches_past-loop-name : goal.decreases-matches_past-loop-name
decreases-matches_past-loop-name l = size (sort_at l.sorts.records.now l.sorts.places.now l.sorts.count l.k)

abbrev pub invariant-all_past-loop-p : goal.invariant-all_past-loop-p
invariant-all_past-loop-p l = let s = l.sorts in let o = l.initial.names in let i = l.names in
    (goal.iterator-all_past-loop-p).can_next l.p-iterator × (goal.iterator-all_past-loop-p).is_finite l.p-iterator
    × PastInv s.records.now s.places.now s.count o.params.now o.images.now o.bound.now o.many (numbers_left l.fn.patterns) (numbers_left l.fn.targets)
    i.images.now i.bound.now l.met.slots i.many (numbers_left (zip_first l.p-iterator)) (numbers_left (zip_second l.p-iterator))
    × SameParams o i × SameNames o i
