-- The two tree sizes together fall at every call and at every turn of the walk's loop. The walk keeps: the answer of the present pair
-- is that of the first; the lists' loop: the answer of what is left is that of the whole. Only a pair that was found compatible is noted.
use Rattle.std.proofs.Common.{◌+◌, ◌*◌}
use Rattle.std.specs.Iterator.Adapters.{zip_first, zip_second}
use Rattle.record.specs.Sort.{size, sizes}
use Rattle.record.specs.Record.{sorts_of}
use Rattle.record.specs.Numbers.{numbers_left}
use Rattle.record.specs.Decode.{store_of, sort_at}
use Rattle.matching_with.proofs.CompatibleLaws.{FitsInv, FitInv}
use Rattle.matching_with.proofs.compatible.+compatible_past.Given as goal

abbrev pub decreases-all_compatible : goal.decreases-all_compatible
decreases-all_compatible l = let s = l.sorts.now in let st = store_of s.records.now s.places.now s.count in
    2 * (sizes (sorts_of st (numbers_left l.lefts)) + sizes (sorts_of st (numbers_left l.rights))) + 1

abbrev pub decreases-compatible_past : goal.decreases-compatible_past
decreases-compatible_past l = let s = l.sorts.now in
    2 * (size (sort_at s.records.now s.places.now s.count l.p) + size (sort_at s.records.now s.places.now s.count l.t))

abbrev pub invariant-all_compatible-loop-p : goal.invariant-all_compatible-loop-p
invariant-all_compatible-loop-p l = let s = l.sorts in
    (goal.iterator-all_compatible-loop-p).can_next l.p-iterator × (goal.iterator-all_compatible-loop-p).is_finite l.p-iterator
    × FitsInv s.records.now s.places.now s.count (numbers_left l.fn.lefts) (numbers_left l.fn.rights) l.met.slots (numbers_left (zip_first l.p-iterator)) (numbers_left (zip_second l.p-iterator))

abbrev pub invariant-compatible_past-loop-i : goal.invariant-compatible_past-loop-i
invariant-compatible_past-loop-i l = FitInv l.sorts.records.now l.sorts.places.now l.sorts.count l.p l.t l.met.slots l.k l.j

abbrev pub decreases-compatible_past-loop-i : goal.decreases-compatible_past-loop-i
decreases-compatible_past-loop-i l = let s = l.sorts in
    size (sort_at s.records.now s.places.now s.count l.k) + size (sort_at s.records.now s.places.now s.count l.j)
