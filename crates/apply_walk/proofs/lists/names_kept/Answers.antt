-- One name more is counted where it has no image.
use Rattle.std.proofs.Common.{ℕ, List, length, sym, ◌∙◌, ap, arith}
use Rattle.record.specs.Number.{numbers_at}
use Rattle.apply_walk.specs.Lists.{unbound}
use Rattle.record.specs.Numbers.{numbers_left}
use Rattle.apply_walk.proofs.ListLaws.{count-start, count-free, count-gone, count-end, table-whole}
use Rattle.apply_walk.proofs.lists.names_kept.Goals as goal

pub loop-v-init : goal.loop-v-init
loop-v-init c = let a = c.args in
    count-start a.bytes.now a.span.at a.span.count _ (ap numbers_left c.into_iter-v-iterator.ensures.into_iter_gives ∙ c.numbers-v-items.ensures) c.requires.read.few

pub overflow_add-kept : goal.overflow_add-kept
overflow_add-kept c = omega (arith, c.loop-v.invariant.few)

pub loop-v-preserved-then-is_free : goal.loop-v-preserved-then-is_free
loop-v-preserved-then-is_free c = count-free c.loop-v.invariant c.in-Some.ensures.steps (sym c.is_free.ensures ∙ c.if-is_free.true)

pub loop-v-preserved : goal.loop-v-preserved
loop-v-preserved c = count-gone c.loop-v.invariant c.in-Some.ensures.steps (sym c.is_free.ensures ∙ c.if-is_free.false)

pub returns : goal.returns
returns c =
    count-end c.loop-v.invariant c.in-None.ensures.steps.0
    ∙ ap (λ (l : List ℕ). length (unbound l (numbers_at c.args.bytes.now c.args.span.at c.args.span.count))) (table-whole c.requires.table)

pub slice_bounds-images-end : goal.slice_bounds-images-end
slice_bounds-images-end c = omega (arith, c.requires.table, ap length (table-whole c.requires.table))
