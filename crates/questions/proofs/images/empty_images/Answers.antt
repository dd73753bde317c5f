use Rattle.std.proofs.Common.{ℕ, ◌≡◌, ◌<◌, ◌∙◌, List, suc, get_or, arith, ap, sym, refl, length-set}
use Rattle.record.specs.Number.{numbers_at}
use Rattle.record.specs.Numbers.{numbers_left, numbers-small}
use Rattle.questions.specs.Fill.{emptied, emptied-first, emptied-none}
use Rattle.questions.proofs.images.empty_images.Goals as goal

pub loop-name-init : goal.loop-name-init
loop-name-init c =
    let a = c.args in
    let e : numbers_left c.into_iter-name-iterator.result ≡ numbers_at a.sheet.now a.names.at a.names.count =
    ap numbers_left c.into_iter-name-iterator.ensures.into_iter_gives ∙ c.numbers-name-items.ensures in
    (refl, ap (emptied a.images.now) e, rw e (numbers-small a.sheet.now a.names.at a.names.count (λ i. omega (arith, c.type_inv.sheet i))))

small : (c : goal.In-Some) → c.in-Some.name < 65536
small c =
    let s = c.in-Some.ensures.steps in
    omega (arith, c.loop-name.invariant.2 0, ap (λ (r : List ℕ). get_or r 0 0) s)

pub bounds-images-name : goal.bounds-images-name
bounds-images-name c = omega (arith, small c, c.loop-name.invariant.0, c.requires.table)

pub offset_bounds-images-name : goal.offset_bounds-images-name
offset_bounds-images-name c = omega (arith, small c)

pub loop-name-preserved : goal.loop-name-preserved
loop-name-preserved c =
    let s = c.in-Some.ensures.steps in
    let l = c.loop-name in (
      length-set l.images c.in-Some.name 0 ∙ l.invariant.0,
      emptied-first l.images c.in-Some.name (numbers_left c.next.new.self) ∙ ap (emptied l.images) (sym s) ∙ l.invariant.1,
      λ j. omega (arith, l.invariant.2 (suc j), ap (λ (r : List ℕ). get_or r (suc j) 0) s),
    )

pub returns : goal.returns
returns c =
    let s = c.in-None.ensures.steps in
    sym (emptied-none c.loop-name.images) ∙ ap (emptied c.loop-name.images) (sym s.0) ∙ c.loop-name.invariant.1
