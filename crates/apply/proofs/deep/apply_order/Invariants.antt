-- Each answer in the store that those before it left: what is left makes the whole, and the table of answers says the truth.
use Rattle.store.specs.Changes.{Same}
use Rattle.apply.proofs.OrderLaws.{InOrderInv}
use Rattle.apply.proofs.deep.apply_order.Given as goal

abbrev pub invariant-loop-k : goal.invariant-loop-k
invariant-loop-k l = record {
  same : Same l.initial.store l.store;
  along : InOrderInv l.initial.store.records.now l.initial.store.places.now l.initial.store.count l.initial.store.used l.order l.images l.store.records.now l.store.places.now l.store.index.now l.known l.store.count l.store.used l.k-index;
}
