-- The entry says what the pieces of the text are and how large its parts are together.
-- What is counted stays within the bound that the tree size gives.
use Rattle.std.proofs.Common.{arith, refl, ap, ◌∙◌}
use Rattle.record.specs.Numbers.{numbers_left}
use Rattle.printout_sort.specs.PieceLaws.{own-short}
use Rattle.printout_sort.specs.TreeLaws.{entry-form, entry-text-size, entry_length, inner-asks, list-asks, parts-left, parts-next, parts-start, parts-step, parts-end}
use Rattle.printout_sort.proofs.text.+text_size.Goals as goal

pub inner_size-requires : goal.inner_size-requires
inner_size-requires t c = inner-asks c.requires (c.entry-a.ensures _ c.requires.stored (omega arith)) c.form_of-form.ensures

pub overflow_add-sum : goal.overflow_add-sum
overflow_add-sum t c =
    let e = c.entry-a.ensures _ c.requires.stored (omega arith) in
    omega (arith, c.frame_size.ensures, own-short _ _ (entry-form c.requires e c.form_of-form.ensures) c.inner_size.ensures.most c.inner_size.ensures.low)

pub loop-part-init : goal.loop-part-init
loop-part-init t c =
    let e = c.entry-a.ensures _ c.requires.stored (omega arith) in
    let q = ap numbers_left c.into_iter-part-iterator.ensures.into_iter_gives ∙ c.numbers-part-items.ensures in
    rw q (parts-start _ (parts-left (list-asks c.requires e c.form_of-form.ensures)))

pub text_size-requires : goal.text_size-requires
text_size-requires t c =
    let e = c.entry-a.ensures _ c.requires.stored (omega arith) in
    let q = ap numbers_left c.into_iter-part-iterator.ensures.into_iter_gives ∙ c.numbers-part-items.ensures in
    let n = parts-next c.loop-part.invariant.left c.in-Some.ensures.steps in
    (omega (arith, c.decreases, n.2, rw (← q) at (entry-text-size c.requires e c.form_of-form.ensures)), n.0)

pub overflow_add-sum-in-loop-part : goal.overflow_add-sum-in-loop-part
overflow_add-sum-in-loop-part t c =
    let e = c.entry-a.ensures _ c.requires.stored (omega arith) in
    let s = parts-step c.loop-part.invariant c.in-Some.ensures.steps c.text_size.ensures in
    omega (arith, s.most, s.left.small, c.frame_size.ensures, own-short _ _ (entry-form c.requires e c.form_of-form.ensures) c.inner_size.ensures.most c.inner_size.ensures.low)

pub overflow_add-sum-in-loop-part-2 : goal.overflow_add-sum-in-loop-part-2
overflow_add-sum-in-loop-part-2 t c =
    let e = c.entry-a.ensures _ c.requires.stored (omega arith) in
    let s = parts-step c.loop-part.invariant c.in-Some.ensures.steps c.text_size.ensures in
    omega (arith, s.most, s.left.small, c.frame_size.ensures, own-short _ _ (entry-form c.requires e c.form_of-form.ensures) c.inner_size.ensures.most c.inner_size.ensures.low)

pub loop-part-preserved : goal.loop-part-preserved
loop-part-preserved t c = parts-step c.loop-part.invariant c.in-Some.ensures.steps c.text_size.ensures

pub returns : goal.returns
returns t c =
    let e = c.entry-a.ensures _ c.requires.stored (omega arith) in
    let q = ap numbers_left c.into_iter-part-iterator.ensures.into_iter_gives ∙ c.numbers-part-items.ensures in
    let d = rw q at (parts-end c.loop-part.invariant c.in-None.ensures.steps.0) in
    let w = entry_length c.requires e c.form_of-form.ensures c.frame_size.ensures c.inner_size.ensures (record { is = refl; most = omega (arith, d.0, d.1) }) in
    record { is = omega (arith, w.is, d.0); most = omega (arith, w.most, d.0) }
