-- The text is its own pieces and those of its parts, whose sizes the table has.
-- A text is shorter than 456 bytes for each node, so the sums fit.
use Rattle.std.proofs.Common.{arith}
use Rattle.printout_sort.specs.PieceLaws.{own-short}
use Rattle.printout_sort.specs.TreeLaws.{entry-form, inner-asks, entry_length}
use Rattle.page_window.specs.SizeLaws.{parts-asks, parts-texts}
use Rattle.page_window.proofs.sizes.sort_size.Goals as goal

pub inner_size-inner-requires : goal.inner_size-inner-requires
inner_size-inner-requires c =
    inner-asks c.requires.asks (c.entry-a.ensures _ c.requires.asks.stored (omega arith)) c.form_of-form.ensures

pub parts_size-requires : goal.parts_size-requires
parts_size-requires c = parts-asks c.requires (c.entry-a.ensures _ c.requires.asks.stored (omega arith))

pub overflow_add-result : goal.overflow_add-result
overflow_add-result c =
    let e = c.entry-a.ensures _ c.requires.asks.stored (omega arith) in
    omega (arith, c.frame_size.ensures, own-short _ _ (entry-form c.requires.asks e c.form_of-form.ensures) c.inner_size-inner.ensures.most c.inner_size-inner.ensures.low)

pub overflow_add-result-2 : goal.overflow_add-result-2
overflow_add-result-2 c =
    let a = c.requires.asks in
    let e = c.entry-a.ensures _ a.stored (omega arith) in
    let z = entry_length a e c.form_of-form.ensures c.frame_size.ensures c.inner_size-inner.ensures (parts-texts c.requires e c.parts_size.ensures) in
    omega (arith, z.most, a.small)

pub returns : goal.returns
returns c =
    let a = c.requires.asks in
    let e = c.entry-a.ensures _ a.stored (omega arith) in
    entry_length a e c.form_of-form.ensures c.frame_size.ensures c.inner_size-inner.ensures (parts-texts c.requires e c.parts_size.ensures)
