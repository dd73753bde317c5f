-- Each turn sums the size of the next part that is left.
-- So at the end all are summed.
use Rattle.std.proofs.Common.{arith, ℕ, List, sym, ap, subst, ◌∙◌}
use Rattle.record.specs.Numbers.{numbers_left}
use Rattle.page_window.specs.Sizes.{parts_total}
use Rattle.page_window.specs.SizeLaws.{PartsInv, parts-start, parts-step, parts-end}
use Rattle.page_window.proofs.sizes.parts_size.Goals as goal

pub loop-k-init : goal.loop-k-init
loop-k-init c =
    let q = sym (ap numbers_left c.into_iter-k-iterator.ensures.into_iter_gives ∙ c.numbers-k-items.ensures) in
    subst (λ (ks : List ℕ). PartsInv c.args.sizes.now ks 0 ks) q (parts-start c.requires)

pub loop-k-preserved : goal.loop-k-preserved
loop-k-preserved c =
    let v = c.type_inv.sizes c.in-Some.k in
    (parts-step c.loop-k.invariant c.in-Some.ensures.steps (omega (arith, v))).0

pub returns : goal.returns
returns c =
    let q = ap numbers_left c.into_iter-k-iterator.ensures.into_iter_gives ∙ c.numbers-k-items.ensures in
    parts-end c.loop-k.invariant c.in-None.ensures.steps.0 ∙ ap (parts_total c.args.sizes.now) q
