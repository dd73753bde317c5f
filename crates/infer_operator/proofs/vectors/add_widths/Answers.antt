-- Each vector adds its width; at another sort the verdict is known.
use Rattle.std.proofs.Common.{◌+◌, arith, sym, ap, ◌∙◌, ℕ, Option}
use Rattle.std.specs.Prelude.{ok_or}
use Rattle.record.specs.declared.kinds.SortKind.TheVariants.{BitVec, ParamBitVec}
use Rattle.row_rules.specs.declared.Cause.TheVariants.{Panics}
use Rattle.infer_rules.specs.Inferred.{concat_from}
use Rattle.infer_operator.specs.Vectors.{widths_of}
use Rattle.infer_operator.proofs.WalkLaws.{few-asks, known-rest, walk-end, walk-known, walk-here, walk-on, walk-entry, walk-rest, width-small, entry-is, entry-not, cat-added, cat-unknown, cat-other, list-rest, unknown-answer}
use Rattle.infer_operator.proofs.vectors.add_widths.Goals as goal

pub entry-sort-requires : goal.entry-sort-requires
entry-sort-requires c = walk-entry c.loop-k.invariant.walk c.in-Some.ensures.steps (few-asks c.requires)

pub overflow_add-sum : goal.overflow_add-sum
overflow_add-sum c =
    let w = c.loop-k.invariant in
    let h = c.requires.1.known in
    let steps = c.in-Some.ensures.steps in
    omega (arith, w.low, list-rest steps, width-small h.stored (walk-known w.walk steps h) c.entry-sort.result c.entry-sort.ensures)

pub loop-k-preserved : goal.loop-k-preserved
loop-k-preserved c =
    let w = c.loop-k.invariant in
    let r = c.entry-sort.result in
    let g = c.requires.1.known in
    let steps = c.in-Some.ensures.steps in
    record {
      walk = walk-on w.walk steps (concat_from (c.loop-k.sum + r.number))
          (λ n h ss. let read = c.entry-sort.ensures n h.stored (walk-known w.walk steps h) in cat-added c.loop-k.sum _ ss r.number (entry-is read BitVec c.in-BitVec.is) read.number);
      low = omega (arith, w.low, list-rest steps, width-small g.stored (walk-known w.walk steps g) r c.entry-sort.ensures);
    }

pub all_vectors-vectors-requires : goal.all_vectors-vectors-requires
all_vectors-vectors-requires c = walk-rest c.loop-k.invariant.walk c.in-Some.ensures.steps (few-asks c.requires)

pub returns-in-ParamBitVec : goal.returns-in-ParamBitVec
returns-in-ParamBitVec c =
    let w = c.loop-k.invariant.walk in
    let steps = c.in-Some.ensures.steps in
    λ n h. let read = c.entry-sort.ensures n h.stored (walk-known w steps h) in
    walk-here w steps h
    ∙ cat-unknown c.loop-k.sum _ _ (entry-is read ParamBitVec c.in-ParamBitVec.is)
    ∙ c.all_vectors-vectors.ensures n (known-rest steps (w.each n h)) ∙ unknown-answer c.all_vectors-vectors.result
    ∙ ap widths_of (sym (c.ok_or.ensures.value ∙ ap (λ (o : Option (Option ℕ)). ok_or o Panics) c.then_some.ensures))

pub returns-in_default-kind : goal.returns-in_default-kind
returns-in_default-kind c =
    let w = c.loop-k.invariant.walk in
    let steps = c.in-Some.ensures.steps in
    λ n h. let read = c.entry-sort.ensures n h.stored (walk-known w steps h) in
    walk-here w steps h
    ∙ cat-other c.loop-k.sum _ _ (entry-not read BitVec c.in_default-kind.not-BitVec) (entry-not read ParamBitVec c.in_default-kind.not-ParamBitVec)

pub returns : goal.returns
unfolding concat_from
returns c = λ n h. walk-end c.loop-k.invariant.walk c.in_default.ensures.steps.0 h
