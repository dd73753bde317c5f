use Rattle.std.proofs.Common.{rules, refl}
use Rattle.apply.proofs.OrderLaws.{in-order-start, in-order-asks, in-order-halted, in-order-stopped, in-order-more, in-order-done}
use Rattle.apply.proofs.deep.apply_order.Goals as goal

pub loop-k-init : goal.loop-k-init
loop-k-init c = record { same = (refl, refl, refl); along = in-order-start c.requires }

pub apply_sort-requires : goal.apply_sort-requires
apply_sort-requires c = in-order-asks c.requires c.loop-k.invariant.along c.loop-k-test.true c.from.ensures

pub returns-in_err-apply_sort-clause-made : goal.returns-in_err-apply_sort-clause-made
returns-in_err-apply_sort-clause-made c =
    let s = c.args.store.now in
    let d = c.apply_sort.new.store in
    in-order-stopped s.records.now s.places.now s.count s.used c.args.order.now c.args.images.now d.records.now d.places.now d.index.now c.apply_sort.new.known d.count d.used c.from_residual.result c.from_residual.ensures.0
    (in-order-halted c.requires c.loop-k.invariant.along c.loop-k-test.true c.from.ensures c.in_err-apply_sort.ensures.made)

pub loop-k-preserved : goal.loop-k-preserved
loop-k-preserved c =
    let w = c.in_ok-apply_sort.ensures.made in
    record { same = search rules; along = in-order-more c.requires c.loop-k.invariant.along c.loop-k-test.true c.from.ensures c.apply_sort.new.known w.made w.known }

pub returns-clause-made : goal.returns-clause-made
returns-clause-made c = in-order-done c.requires c.loop-k.invariant.along c.loop-k-test.false
