use Rattle.std.proofs.Common.{arith, inl, inr, ◌∙◌}
use Rattle.matching_tables.specs.MapLaws.{found-fits, found-misfits}
use Rattle.matching_tables.specs.Matched.{found}
use Rattle.matching.proofs.MetLaws.{after_same}
use Rattle.matching.proofs.PlainLaws.{past-first, past-fall, past-more, past-misfit, past-end, past-ended, step-holds, var-asks, others-lists, others-fall, others-is, step-misfit, step_less, step-last}
use Rattle.matching.proofs.+matches_past.Goals as goal

pub all_past-matches_past-requires : goal.all_past-matches_past-requires
all_past-matches_past-requires t c =
    let v = c.loop-p.invariant in
    let e = c.in-Some.ensures.steps in
    (omega (arith, past-fall v.2 e.0 e.1), (rw v.3 (past-first v.2 e.0 e.1), rw v.3 v.2.noted))

pub all_past-returns-then-not-matches_past-clause-answer : goal.all_past-returns-then-not-matches_past-clause-answer
all_past-returns-then-not-matches_past-clause-answer t c =
    let v = c.loop-p.invariant in
    let e = c.in-Some.ensures.steps in
    let m = c.matches_past in
    past-misfit v.2 e.0 e.1 (found-misfits m.new.names.many c.if-not-matches_past.true) (rw v.3 at m.ensures.answer)

pub all_past-loop-p-preserved : goal.all_past-loop-p-preserved
all_past-loop-p-preserved t c =
    let v = c.loop-p.invariant in
    let e = c.in-Some.ensures.steps in
    let m = c.matches_past in
    let s = m.ensures.same in (
      (tt, tt),
      tt,
      past-more v.2 e.0 e.1 (found-fits m.new.names.many c.if-not-matches_past.false) (rw v.3 at m.ensures.answer) m.new.met.slots (rw v.3 at m.ensures.noted) c.note.ensures,
      m.ensures.params ∙ v.3,
      (s.0 ∙ v.4.0, s.1 ∙ v.4.1, s.2 ∙ v.4.2),
    )

pub all_past-returns-clause-answer : goal.all_past-returns-clause-answer
all_past-returns-clause-answer t c =
    let v = c.loop-p.invariant in
    elim c.in-None.ensures.steps [ inl x ↦ past-end v.2 x.1.0 | inr x ↦ past-ended v.2 x.1.0 ]

pub matches_past-returns-in-Holds-clause-answer : goal.matches_past-returns-in-Holds-clause-answer
matches_past-returns-in-Holds-clause-answer t c = step-holds c.loop-name.invariant.0 c.in-Holds.ensures

pub matches_past-matches_var-requires : goal.matches_past-matches_var-requires
matches_past-matches_var-requires t c =
    let v = c.loop-name.invariant in
    let o = c.in-Meets.ensures in
    rw v.1 (var-asks v.0 o.0 o.1)

pub matches_past-returns-in-Meets-clause-noted : goal.matches_past-returns-in-Meets-clause-noted
matches_past-returns-in-Meets-clause-noted t c =
    let s = c.args.sorts.now in
    let w = c.loop-name in
    let v = w.invariant in
    let i = w.names in
    let z = c.matches_var.new.names in
    let told = (rw v.1 at c.matches_var.ensures.answer) s.records.now s.places.now s.count v.0.asks c.in-Meets.ensures.1 in
    after_same s.records.now s.places.now s.count c.args.names.now.params.now i.images.now i.bound.now i.many w.k w.j z.images.now z.bound.now w.met.slots (found z.many c.matches_var.result) v.0.noted told

pub matches_past-all_past-requires : goal.matches_past-all_past-requires
matches_past-all_past-requires t c =
    let v = c.loop-name.invariant in
    let o = c.in-Parts.ensures in
    let ek = c.all_but_last-patterns.ensures in
    let ej = rw c.in-Parts.ensures.1 at c.all_but_last-targets.ensures in
    (omega (arith, others-fall v.0 o.0 ek ej), (rw v.1 (others-lists v.0 o.0 ek ej), rw v.1 v.0.noted))

pub matches_past-returns-then-not-all_past-clause-answer : goal.matches_past-returns-then-not-all_past-clause-answer
matches_past-returns-then-not-all_past-clause-answer t c =
    let v = c.loop-name.invariant in
    let o = c.in-Parts.ensures in
    let m = c.all_past in
    let z = found m.new.names.many m.result in
    step-misfit v.0 o.0 (found-misfits m.new.names.many c.if-not-all_past.true) (others-is v.0 o.0 c.all_but_last-patterns.ensures (rw c.in-Parts.ensures.1 at c.all_but_last-targets.ensures) z (rw v.1 at m.ensures.answer))

pub matches_past-loop-name-smaller : goal.matches_past-loop-name-smaller
matches_past-loop-name-smaller t c = step_less c.loop-name.invariant.0 c.in-Parts.ensures.0 c.last-k.ensures (rw c.in-Parts.ensures.1 at c.last-j.ensures)

pub matches_past-loop-name-preserved : goal.matches_past-loop-name-preserved
matches_past-loop-name-preserved t c =
    let v = c.loop-name.invariant in
    let o = c.in-Parts.ensures in
    let m = c.all_past in
    let z = found m.new.names.many m.result in
    let s = m.ensures.same in (
      step-last v.0 o.0 c.last-k.ensures (rw c.in-Parts.ensures.1 at c.last-j.ensures) (found-fits m.new.names.many c.if-not-all_past.false)
          (others-is v.0 o.0 c.all_but_last-patterns.ensures (rw c.in-Parts.ensures.1 at c.all_but_last-targets.ensures) z (rw v.1 at m.ensures.answer)) (rw v.1 at m.ensures.noted),
      m.ensures.params ∙ v.1,
      (s.0 ∙ v.2.0, s.1 ∙ v.2.1, s.2 ∙ v.2.2),
    )
