-- The walk ends at a vector of known width and at a sort that is no vector; it goes on behind a vector of unknown width.
use Rattle.std.proofs.Common.{◌∙◌}
use Rattle.record.specs.declared.kinds.SortKind.TheVariants.{BitVec, ParamBitVec}
use Rattle.infer_rules.specs.Inferred.{first_vector}
use Rattle.infer_operator.proofs.WalkLaws.{walk-end, walk-known, walk-here, walk-on, kind-is, kind-not, first-known, first-unknown, first-other}
use Rattle.infer_operator.proofs.vectors.scan_vectors.Goals as goal

pub returns-in-BitVec : goal.returns-in-BitVec
returns-in-BitVec c =
    let w = c.loop-k.invariant.2 in
    let steps = c.in-Some.ensures.steps in
    λ n h. let known = walk-known w steps h in (known, walk-here w steps h ∙ first-known _ _ (kind-is h.stored known c.kind.ensures BitVec c.in-BitVec.is))

pub loop-k-preserved : goal.loop-k-preserved
loop-k-preserved c =
    let w = c.loop-k.invariant.2 in
    let steps = c.in-Some.ensures.steps in
    (tt, tt, walk-on w steps first_vector (λ n h ss. first-unknown _ ss (kind-is h.stored (walk-known w steps h) c.kind.ensures ParamBitVec c.in-ParamBitVec.is)))

pub returns-in_default : goal.returns-in_default
returns-in_default c =
    let w = c.loop-k.invariant.2 in
    let steps = c.in-Some.ensures.steps in
    λ n h. let known = walk-known w steps h in
    walk-here w steps h ∙ first-other _ _ (kind-not h.stored known c.kind.ensures BitVec c.in_default.not-BitVec) (kind-not h.stored known c.kind.ensures ParamBitVec c.in_default.not-ParamBitVec)

pub returns : goal.returns
unfolding first_vector
returns c = λ n h. walk-end c.loop-k.invariant.2 c.in-None.ensures.steps.0 h
