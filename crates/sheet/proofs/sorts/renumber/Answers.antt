use Rattle.std.proofs.Common.{ℕ, ◌+◌, ◌*◌, ◌-◌, List, get_or, arith, ap, subst, ◌∙◌}
use Rattle.record.specs.Decode.{written}
use Rattle.sheet.proofs.TranslateLaws.{Writing, number-first, number-written, writing-start, writing_step, writing-on, writing-end}
use Rattle.sheet.proofs.sorts.renumber.Goals as goal

pub loop-i-init : goal.loop-i-init
loop-i-init c = writing-start c.requires

pub bounds-table-get : goal.bounds-table-get
bounds-table-get c = omega (arith, number-first c.loop-i.invariant.asks (omega (arith, c.loop-i-test.true)), c.get.ensures.value)

pub loop-i-preserved : goal.loop-i-preserved
loop-i-preserved c = let a = c.args in
    let l = c.loop-i in
    let k = get_or a.table.now c.get.result 0 in
    let written_is = number-written l.rec (a.list.at + 2 * l.i) k (omega (arith, c.type_inv.table c.get.result)) (omega (arith, l.invariant.asks.within, c.loop-i-test.true)) (c.copy_at.ensures ∙ ap (written l.rec (a.list.at + 2 * l.i)) c.to_le_bytes.ensures) in
    subst (λ (b : List ℕ). Writing a.rec.now a.table.now a.list.at a.list.count b (a.list.at + 2 * (l.i + 1)) (a.list.count - (l.i + 1))) written_is
    (writing-on a.list.at a.list.count l.i (writing_step l.invariant (omega (arith, c.loop-i-test.true)) c.get.ensures.value))

pub returns : goal.returns
returns c = writing-end c.loop-i.invariant (omega (arith, c.loop-i-test.false))
