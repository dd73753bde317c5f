use Rattle.std.proofs.Common.{arith, rules}
use Rattle.apply_walk.specs.KnownLaws.{known-parts-halted}
use Rattle.apply_walk.specs.PartLaws.{parts-asks, parts-number, parts-halted, parts-inv-more, parts-done}
use Rattle.apply.proofs.deep.apply_list.Goals as goal

pub apply_deep-requires : goal.apply_deep-requires
apply_deep-requires c =
    let p = c.loop-part in
    record { asks = (parts-asks c.requires.asks p.invariant.along.inv c.loop-part-test.true c.from-k.ensures).1; known = p.invariant.along.known }

pub returns-in_err-i-clause-made : goal.returns-in_err-i-clause-made
returns-in_err-i-clause-made c =
    let p = c.loop-part in
    known-parts-halted c.args.parts.now c.args.images.now c.apply_deep.new.known _ c.from_residual.result c.from_residual.ensures.0
    (parts-halted c.requires.asks p.invariant.along.inv c.loop-part-test.true c.from-k.ensures c.in_err-i.ensures.made)

pub overflow_cast-part : goal.overflow_cast-part
overflow_cast-part c =
    let p = c.loop-part in
    let v = c.in_ok-i in
    omega (arith, parts-number c.requires.asks p.invariant.along.inv c.loop-part-test.true c.from-k.ensures v.ensures.made.made)

pub loop-part-preserved : goal.loop-part-preserved
loop-part-preserved c =
    let p = c.loop-part in
    let v = c.in_ok-i in
    record { same = search rules; along = record { inv = parts-inv-more c.requires.asks p.invariant.along.inv c.loop-part-test.true c.from-k.ensures v.ensures.made.made; known = v.ensures.made.known } }

pub returns-clause-made : goal.returns-clause-made
returns-clause-made c =
    let p = c.loop-part in
    record { made = parts-done c.requires.asks p.invariant.along.inv c.loop-part-test.false; known = p.invariant.along.known }
