-- The two tree sizes together fall at every call, and at every turn of the walk, whose pair is matched in the place of the first one; the
-- names of the Pars on its way are taken off behind it. Along two lists, what is found and what is left make the whole.
use Rattle.std.proofs.Common.{◌+◌, ◌*◌}
use Rattle.std.specs.Iterator.Adapters.{zip_first, zip_second}
use Rattle.record.specs.Sort.{size, sizes}
use Rattle.record.specs.Record.{sorts_of}
use Rattle.record.specs.Numbers.{numbers_left}
use Rattle.record.specs.Decode.{store_of, sort_at}
use Rattle.matching_tables.specs.Names.{SameNames}
use Rattle.matching_with.proofs.WayLaws.{Walking}
use Rattle.matching_with.proofs.AlongLaws.{Along}
use Rattle.matching_with.proofs.+match_with.Given as goal

abbrev pub decreases-all_with : goal.decreases-all_with
decreases-all_with l = let s = l.sorts.now in let st = store_of s.records.now s.places.now s.count in
    2 * (sizes (sorts_of st (numbers_left l.patterns)) + sizes (sorts_of st (numbers_left l.targets))) + 2

abbrev pub decreases-match_with : goal.decreases-match_with
decreases-match_with l = let s = l.sorts.now in
    2 * (size (sort_at s.records.now s.places.now s.count l.p) + size (sort_at s.records.now s.places.now s.count l.t)) + 1

abbrev pub decreases-walk : goal.decreases-walk
decreases-walk l = let s = l.sorts.now in
    2 * (size (sort_at s.records.now s.places.now s.count l.p) + size (sort_at s.records.now s.places.now s.count l.t))

abbrev pub invariant-all_with-loop-p : goal.invariant-all_with-loop-p
invariant-all_with-loop-p l = let s = l.sorts in let o = l.initial.names in let i = l.names in
    (goal.iterator-all_with-loop-p).can_next l.p-iterator × (goal.iterator-all_with-loop-p).is_finite l.p-iterator
    × Along s.records.now s.places.now s.count o.params.now o.images.now o.bound.now o.many (numbers_left l.fn.patterns) (numbers_left l.fn.targets)
    i.params.now i.images.now i.bound.now l.met.slots i.many (numbers_left (zip_first l.p-iterator)) (numbers_left (zip_second l.p-iterator))
    × SameNames o i

abbrev pub invariant-walk-loop-fits : goal.invariant-walk-loop-fits
invariant-walk-loop-fits l = let s = l.sorts in let o = l.initial.names in let i = l.names in
    Walking s.records.now s.places.now s.count o.params.now o.images.now o.bound.now o.many l.p l.t i.params.now i.images.now i.bound.now l.met.slots i.many l.a l.c l.steps l.down
    × SameNames o i

abbrev pub decreases-walk-loop-fits : goal.decreases-walk-loop-fits
decreases-walk-loop-fits l = let s = l.sorts in
    size (sort_at s.records.now s.places.now s.count l.a) + size (sort_at s.records.now s.places.now s.count l.c)
