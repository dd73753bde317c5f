use Rattle.std.proofs.Common.{arith, refl, sym, length, ◌-◌}
use Rattle.std.proofs.lemmas.Option.{get_or_from_slice_get}
use Rattle.store.specs.Index.{hash-none}
use Rattle.store.proofs.HashLaws.{hash-start, hash-small, hash-step, hash-end}
use Rattle.store.proofs.hashes.hash_by.Goals as goal

pub returns-in_default : goal.returns-in_default
returns-in_default c = sym (hash-none c.args.one c.args.two c.args.rec.now (omega (arith, c.in_default.ensures.item.3)))

pub loop-v-init : goal.loop-v-init
loop-v-init c =
    let r = c.args.rec.now in
    rw (c.into_iter-v-iterator.ensures.into_iter_gives, c.from-low.ensures)
    (hash-start c.args.one c.args.two r (λ i. omega (arith, c.type_inv.rec i)) (sym (get_or_from_slice_get r (length r - 1) c.in-Some.last.now 0 (sym c.in-Some.ensures.value))))

pub overflow_cast-x : goal.overflow_cast-x
overflow_cast-x c = omega (arith, hash-small c.loop-v.invariant c.in-Some-v.ensures.steps)

pub loop-v-preserved : goal.loop-v-preserved
loop-v-preserved c = hash-step c.loop-v.invariant c.in-Some-v.ensures.steps refl refl c.rotate_left-low.ensures c.rotate_left-high.ensures

pub returns : goal.returns
returns c = hash-end c.loop-v.invariant c.in-None.ensures.steps.0
