-- The step is that of `sort_read`: the refusal of the record, or what adding its sort gives.
-- The record over store numbers stands for the same sort as the sheet's record over the sheet's sorts.
use Rattle.std.proofs.Common.{arith}
use Rattle.std.proofs.lemmas.Result.{err_from_is_err_and}
use Prim.Native.Nat.{◌+◌, ◌*◌, ◌-◌}
use mathlib.Core.Path.{sym, ◌∙◌}
use lib.Seq.{length-take-le}
use Rattle.sheet.proofs.SortLaws.{translate-asks, add-asks, next-is, next-refused}
use Rattle.sheet.specs.Contract.{TranslateAsks}
use Rattle.sheet.proofs.sorts.next_sort.Goals as goal
use Rattle.sheet.proofs.sorts.next_sort.Goals.{In_ok-sort}

-- What writing the record that was read over store numbers needs.
asks : (c : In_ok-sort)
    → TranslateAsks c.args.s.now c.args.cursor.at (c.in_ok-sort.sort.fields.names.at + 2 * c.in_ok-sort.sort.fields.names.count) c.in_ok-sort.sort.fields.parts.at c.in_ok-sort.sort.fields.parts.count c.args.table.now c.args.scratch.now
asks c = let a = c.args in
    translate-asks a.s.now (λ j. omega (arith, c.type_inv.s j)) a.cursor.at c.requires _ _ (sym c.sort.ensures ∙ c.in_ok-sort.was)

pub overflow_mul-end : goal.overflow_mul-end
overflow_mul-end c = let ta = asks (goal.at.overflow_mul-end c).In_ok-sort in
    omega (arith, ta.within)

pub overflow_add-end : goal.overflow_add-end
overflow_add-end c = let ta = asks (goal.at.overflow_add-end c).In_ok-sort in
    omega (arith, ta.within)

pub translate-requires : goal.translate-requires
translate-requires c = asks (goal.at.translate-requires c).In_ok-sort

pub slice_bounds-add_sort-count : goal.slice_bounds-add_sort-count
slice_bounds-add_sort-count c = let ta = asks (goal.at.slice_bounds-add_sort-count c).In_ok-sort in
    omega (arith, ta.ends)

pub slice_bounds-add_sort-end : goal.slice_bounds-add_sort-end
slice_bounds-add_sort-end c = let ta = asks (goal.at.slice_bounds-add_sort-end c).In_ok-sort in
    omega (arith, ta.ends, ta.room, c.translate.ensures.long)

pub slice_bounds-add_sort-length : goal.slice_bounds-add_sort-length
slice_bounds-add_sort-length c = let ta = asks (goal.at.slice_bounds-add_sort-length c).In_ok-sort in
    sym (length-take-le (c.in_ok-sort.sort.fields.names.at + 2 * c.in_ok-sort.sort.fields.names.count - c.args.cursor.at) c.translate.new.rec (omega (arith, ta.ends, ta.room, c.translate.ensures.long)))

pub add_sort-requires : goal.add_sort-requires
add_sort-requires c = let a = c.args in
    add-asks a.s.now (λ j. omega (arith, c.type_inv.s j)) a.cursor.at c.requires _ _ (sym c.sort.ensures ∙ c.in_ok-sort.was) c.translate.ensures.bytes

pub returns-in_err-add_sort-clause-next : goal.returns-in_err-add_sort-clause-next
returns-in_err-add_sort-clause-next c = let a = c.args in
    let p = err_from_is_err_and c.from_residual-in_err-add_sort.result c.from_residual-in_err-add_sort.ensures.1 in
    rw (p.1, p.2)
    (next-refused a.s.now (λ j. omega (arith, c.type_inv.s j)) a.cursor.at c.requires _ _ (sym c.sort.ensures ∙ c.in_ok-sort.was) c.translate.ensures.bytes c.in_err-add_sort.field-0.0
    c.in_err-add_sort.ensures.added)

pub returns-clause-next : goal.returns-clause-next
returns-clause-next c = let a = c.args in
    let t = c.add_sort.new.store in
    next-is a.s.now (λ j. omega (arith, c.type_inv.s j)) a.cursor.at c.requires _ _ (sym c.sort.ensures ∙ c.in_ok-sort.was) c.translate.ensures.bytes t.records.now t.places.now t.index.now
    c.add_sort.new.table c.translate.new.rec c.translate.ensures.long c.in_ok-add_sort.ensures.added
