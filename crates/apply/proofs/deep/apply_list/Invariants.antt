-- As in `apply_parts`: the parts so far have the numbers of their answers, interning the answers that are left gives the store of
-- all, and the table of answers says the truth.
use Rattle.store.specs.Changes.{Same}
use Rattle.apply_walk.specs.PartLaws.{KnownInv}
use Rattle.apply.proofs.deep.apply_list.Given as goal

abbrev pub invariant-loop-part : goal.invariant-loop-part
invariant-loop-part l = record {
  same : Same l.initial.store l.store;
  along : KnownInv l.initial.store.records.now l.initial.store.places.now l.initial.store.count l.initial.store.used l.initial.parts l.images l.store.records.now l.store.places.now l.store.index.now l.known l.parts l.store.count l.store.used l.part-index;
}
