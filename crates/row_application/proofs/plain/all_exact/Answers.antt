-- Whether each argument is the sort in its place, and no Par stands in it.
use Rattle.std.proofs.Common.{rules, ℕ, ◌≡◌, refl, arith, ap, ap₂, sym, ◌∙◌, inl, inr}
use mathlib.Core.Logic.{⊎_elim}
use Rattle.record.specs.Number.{numbers_at}
use Rattle.record.specs.Numbers.{numbers_left}
use Rattle.matching_tables.specs.NoteLaws.{table_none}
use Rattle.row_application.specs.Contract.{ParlessAt}
use Rattle.row_application.proofs.ExactLaws.{exact-start, exact-differ, exact-par, exact-step, exact-end, last-free}
use Rattle.row_application.proofs.plain.all_exact.Goals as goal
use Rattle.row_application.proofs.plain.all_exact.Goals.{else-ne-via-then-ne+else-not-is_parless, else-ne-via-else-ne}

pub loop-sort-init : goal.loop-sort-init
loop-sort-init c =
    let s = c.args.sorts.now in
    let into = c.into_iter-sort-iterator.ensures.into_iter_gives in
    let z = c.zip-sort-items.ensures in
    let k : c.rest.result.count ≡ c.args.list.count = omega (arith, c.rest.ensures.count, c.requires.1) in
    let xs = ap (λ w. numbers_left w.a) into ∙ ap numbers_left z.first ∙ c.numbers-wanted.ensures in
    let ys = ap (λ w. numbers_left w.b) into ∙ ap numbers_left z.second ∙ c.numbers-arguments.ensures ∙ ap₂ (λ (i j : ℕ). numbers_at c.args.args.now.bytes.now i j) c.rest.ensures.at k in
    (rw (xs, ys) (exact-start c.requires.0), rw c.new-seen.ensures (table_none (ParlessAt s.records.now s.places.now s.count)), tt)

pub returns-then-sort-argument : goal.returns-then-sort-argument
returns-then-sort-argument c =
    let s = c.in-Some.ensures.steps in
    exact-differ c.loop-sort.invariant.0 s.0 s.1 c.if-sort-argument.true

pub returns-then-not-is_parless : goal.returns-then-not-is_parless
returns-then-not-is_parless c =
    let s = c.in-Some.ensures.steps in
    exact-par c.loop-sort.invariant.0 s.0 s.1 c.is_parless.ensures.answer c.if-not-is_parless.true

pub loop-sort-preserved : goal.loop-sort-preserved
loop-sort-preserved c =
    let l = c.loop-sort.invariant in
    let s = c.in-Some.ensures.steps in
    let o = c.args.sorts.now in
    elim c.else-ne.branch [
      | else-ne-via-then-ne+else-not-is_parless w ↦ (
        exact-step l.0 s.0 s.1 w.is_parless.ensures.answer c.if-sort-argument.false w.if-not-is_parless.false,
        rw w.seen-is w.is_parless.ensures.noted,
        search rules,
      )
      | else-ne-via-else-ne w ↦
          let free = last-free o.records.now o.places.now o.count l.2 (search rules) in
          (exact-step l.0 s.0 s.1 (sym free) c.if-sort-argument.false refl, rw w.seen-is l.1, free)
    ]

pub returns : goal.returns
returns c = exact-end c.loop-sort.invariant.0 (⊎_elim (λ w. inl w.1.0) (λ w. inr w.1.0) c.in-None.ensures.steps)
