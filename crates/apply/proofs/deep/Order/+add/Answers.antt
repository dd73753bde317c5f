use Rattle.std.proofs.Common.{arith, ap, ◌∙◌}
use Rattle.store.specs.Walk.{entry-asks}
use Rattle.record.specs.Numbers.{numbers_left}
use Rattle.apply.proofs.OrderLaws.{order-noted, order-leaf, order-start, order-asks, order-more, order-free, order-last}
use Rattle.apply.proofs.deep.Order.+add.Goals as goal
use Rattle.apply.proofs.deep.Order.+add.Goals.{then-e-eq0-via-then-e-eq0, then-e-eq0-via-else-e-eq0+then-self-k}

pub entry-e-requires : goal.entry-e-requires
entry-e-requires t c = entry-asks c.args.entries.now.records.now c.args.entries.now.places.now c.args.count c.args.k c.requires.stored c.requires.known

pub returns-then-e-eq0 : goal.returns-then-e-eq0
returns-then-e-eq0 t c =
    elim c.then-e-eq0.branch [
      | then-e-eq0-via-then-e-eq0 w ↦ order-leaf c.requires (c.entry-e.ensures c.args.count c.requires.stored c.requires.known) w.if-e-eq0.true
      | then-e-eq0-via-else-e-eq0+then-self-k w ↦ order-noted c.requires w.if-self-k.true
    ]

pub loop-part-init : goal.loop-part-init
loop-part-init t c =
    let is = c.entry-e.ensures c.args.count c.requires.stored c.requires.known in
    order-start c.requires is (numbers_left c.into_iter-part-iterator.result) (ap numbers_left c.into_iter-part-iterator.ensures.into_iter_gives ∙ c.numbers-part-items.ensures)

pub add-requires : goal.add-requires
add-requires t c =
    let q = order-asks c.requires c.loop-part.invariant c.in-Some.ensures.steps in
    (omega (arith, c.decreases, q.0), q.1)

pub loop-part-preserved : goal.loop-part-preserved
loop-part-preserved t c = order-more c.requires c.loop-part.invariant c.in-Some.ensures.steps c.add.ensures

pub push-requires : goal.push-requires
push-requires t c = (omega arith, order-free c.requires c.loop-part.invariant c.if-self-k.false)

pub returns : goal.returns
returns t c = order-last c.requires c.loop-part.invariant c.if-self-k.false c.in-None.ensures.steps.0 c.push.ensures.items
