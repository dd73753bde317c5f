use Rattle.std.proofs.Common.{arith, inl, inr}
use Rattle.matching_with.proofs.CompatibleLaws.{fits-first, fits-fall, fits-fails, fits_more, fits-end, fits-ended, fit-lists, fit-fall, fit-found, fit-fails, fit-less, fit-last}
use Rattle.matching_with.proofs.compatible.+compatible_past.Goals as goal

pub all_compatible-compatible_past-requires : goal.all_compatible-compatible_past-requires
all_compatible-compatible_past-requires t c =
    let v = c.loop-p.invariant.2 in
    let e = c.in-Some.ensures.steps in
    let a = fits-first v e.0 e.1 in
    (omega (arith, fits-fall v e.0 e.1), (a.left, a.right, v.noted))

pub all_compatible-returns-then-not-compatible_past-clause-answer : goal.all_compatible-returns-then-not-compatible_past-clause-answer
all_compatible-returns-then-not-compatible_past-clause-answer t c =
    let e = c.in-Some.ensures.steps in
    fits-fails c.loop-p.invariant.2 e.0 e.1 c.compatible_past.ensures.answer c.if-not-compatible_past.true

pub all_compatible-loop-p-preserved : goal.all_compatible-loop-p-preserved
all_compatible-loop-p-preserved t c =
    let e = c.in-Some.ensures.steps in
    ((tt, tt), tt, fits_more c.loop-p.invariant.2 e.0 e.1 c.compatible_past.ensures.answer c.if-not-compatible_past.false c.note.new.self.slots c.compatible_past.ensures.noted c.note.ensures)

pub all_compatible-returns-clause-answer : goal.all_compatible-returns-clause-answer
all_compatible-returns-clause-answer t c =
    let v = c.loop-p.invariant.2 in
    elim c.in-None.ensures.steps [ inl x ↦ fits-end v x.1.0 | inr x ↦ fits-ended v x.1.0 ]

pub compatible_past-all_compatible-requires : goal.compatible_past-all_compatible-requires
compatible_past-all_compatible-requires t c =
    let v = c.loop-i.invariant in
    let o = c.in-Parts.ensures.0 in
    let ek = c.all_but_last-lefts.ensures in
    let ej = rw c.in-Parts.ensures.1 at c.all_but_last-rights.ensures in
    (omega (arith, fit-fall v o ek ej), (fit-lists v o ek ej, v.noted))

pub compatible_past-returns-then-not-all_compatible-clause-answer : goal.compatible_past-returns-then-not-all_compatible-clause-answer
compatible_past-returns-then-not-all_compatible-clause-answer t c =
    let v = c.loop-i.invariant in
    let o = c.in-Parts.ensures.0 in
    fit-fails v o (fit-found v o c.all_but_last-lefts.ensures (rw c.in-Parts.ensures.1 at c.all_but_last-rights.ensures) c.all_compatible.ensures.answer) c.if-not-all_compatible.true

pub compatible_past-loop-i-smaller : goal.compatible_past-loop-i-smaller
compatible_past-loop-i-smaller t c =
    let v = c.loop-i.invariant in
    let o = c.in-Parts.ensures.0 in
    let h = fit-found v o c.all_but_last-lefts.ensures (rw c.in-Parts.ensures.1 at c.all_but_last-rights.ensures) c.all_compatible.ensures.answer in
    fit-less v o h c.if-not-all_compatible.false c.all_compatible.ensures.noted c.last-k.ensures (rw c.in-Parts.ensures.1 at c.last-j.ensures)

pub compatible_past-loop-i-preserved : goal.compatible_past-loop-i-preserved
compatible_past-loop-i-preserved t c =
    let v = c.loop-i.invariant in
    let o = c.in-Parts.ensures.0 in
    let h = fit-found v o c.all_but_last-lefts.ensures (rw c.in-Parts.ensures.1 at c.all_but_last-rights.ensures) c.all_compatible.ensures.answer in
    fit-last v o h c.if-not-all_compatible.false c.all_compatible.ensures.noted c.last-k.ensures (rw c.in-Parts.ensures.1 at c.last-j.ensures)
