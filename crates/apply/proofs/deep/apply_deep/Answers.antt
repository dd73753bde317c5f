-- The order of the sort, then the answers of its sorts, then its own.
use Rattle.std.specs.Prelude.{[], false, replicate}
use Rattle.apply_walk.specs.KnownLaws.{known-halted}
use Rattle.apply.specs.Order.{OrderIs}
use Rattle.apply.proofs.OrderLaws.{order-asks-through, order-is-through, deep-order, deep-asks, deep-stuck, deep-last, deep_is}
use Rattle.apply.proofs.deep.apply_deep.Goals as goal
use Rattle.apply.proofs.deep.apply_deep.Goals.{After-as_slice}

-- The order of the sort, over the store that was given.
ordered : (c : After-as_slice)
    → OrderIs c.args.store.now.records.now c.args.store.now.places.now (replicate 4096 false) [] c.args.store.now.count c.args.k c.add.new.self.seen c.as_slice.result.now
ordered c = order-is-through c.entries.ensures.records c.entries.ensures.places c.new.ensures c.as_slice.ensures.value c.add.ensures

pub add-requires : goal.add-requires
add-requires c = order-asks-through c.entries.ensures.records c.entries.ensures.places c.new.ensures (deep-order c.requires.asks)

pub apply_order-requires : goal.apply_order-requires
apply_order-requires c =
    deep-asks c.requires.asks (ordered (goal.at.apply_order-requires c).After-as_slice)
    c.args.known.now c.requires.known

pub returns-in_err-apply_order-clause-made : goal.returns-in_err-apply_order-clause-made
returns-in_err-apply_order-clause-made c =
    known-halted c.args.k c.args.images.now c.apply_order.new.known c.from_residual.result c.from_residual.ensures.0
    (deep-stuck c.requires.asks (ordered (goal.at.returns-in_err-apply_order-clause-made c).After-as_slice)
    c.in_err-apply_order.ensures.made)

pub apply_sort-requires-2 : goal.apply_sort-requires-2
apply_sort-requires-2 c =
    deep-last c.requires.asks (ordered (goal.at.apply_sort-requires-2 c).After-as_slice)
    c.in_ok-apply_order.ensures.made

pub returns-clause-made : goal.returns-clause-made
returns-clause-made c =
    let d = c.apply_sort-2.new.store in
    deep_is c.requires.asks (ordered (goal.at.returns-clause-made c).After-as_slice)
    c.in_ok-apply_order.ensures.made d.records.now d.places.now d.index.now c.apply_sort-2.new.known d.count d.used c.apply_sort-2.result c.apply_sort-2.ensures.made
