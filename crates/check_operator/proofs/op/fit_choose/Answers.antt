-- The fit of Bool A A, for every count of the store.
use Rattle.std.proofs.Common.{◌≡◌, ◌&&◌, eqb, eqb-true, ap, ◌∙◌, arith}
use Rattle.check_operator.proofs.ArgumentLaws.{arg-below}
use Rattle.check_operator.proofs.FitLaws.{and_then, and_else, choose-fits}
use Rattle.check_operator.proofs.op.fit_choose.Goals as goal
use Rattle.check_operator.proofs.op.fit_choose.Goals.{then-is_kind, else-is_kind}

pub returns : goal.returns
returns c =
    let t = c.is_kind.result in
    let x = eqb c.number-other.result c.number-chosen.result in
    let three = eqb-true c.args.args.now.count 3 c.requires.counted in
    let h : c.if-is_kind.fits ≡ (t && x) =
    elim c.if-is_kind.branch [ then-is_kind w ↦ and_then t x w.if-is_kind.true w.fits-is | else-is_kind w ↦ and_else t x w.if-is_kind.false w.fits-is ] in
    λ n o. let known = arg-below o 0 (omega arith) c.number-test.ensures.value in
    choose-fits o three c.number-chosen.result c.number-chosen.ensures.value
    c.number-test.ensures.value c.number-other.ensures.value c.if-is_kind.fits (h ∙ ap (◌&& x) (c.is_kind.ensures n o.stored known)) c.then_some.result c.then_some.ensures
