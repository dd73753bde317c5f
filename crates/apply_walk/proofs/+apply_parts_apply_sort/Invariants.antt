-- By the tree size of the sort walked, which falls at every call. The loop keeps: the parts so far have the numbers of
-- their answers, interning the answers that are left gives the store of all, and the table of answers says the truth.
use Rattle.std.proofs.Common.{◌+◌, ◌*◌}
use Rattle.record.specs.Sort.{size, sizes}
use Rattle.record.specs.Record.{sorts_of}
use Rattle.record.specs.Decode.{store_of, sort_at}
use Rattle.store.specs.Changes.{Same}
use Rattle.apply_walk.specs.PartLaws.{KnownInv}
use Rattle.apply_walk.proofs.+apply_parts_apply_sort.Given as goal

abbrev pub decreases-apply_parts : goal.decreases-apply_parts
decreases-apply_parts l = 2 * sizes (sorts_of (store_of l.store.now.records.now l.store.now.places.now l.store.now.count) l.parts.now) + 1

abbrev pub decreases-apply_sort : goal.decreases-apply_sort
decreases-apply_sort l = 2 * size (sort_at l.store.now.records.now l.store.now.places.now l.store.now.count l.k)

abbrev pub invariant-apply_parts-loop-part : goal.invariant-apply_parts-loop-part
invariant-apply_parts-loop-part l = record {
  same : Same l.initial.store l.store;
  along : KnownInv l.initial.store.records.now l.initial.store.places.now l.initial.store.count l.initial.store.used l.initial.parts l.images l.store.records.now l.store.places.now l.store.index.now l.known l.parts l.store.count l.store.used l.part-index;
}
