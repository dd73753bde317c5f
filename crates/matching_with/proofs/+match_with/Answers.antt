use Rattle.std.proofs.Common.{arith, refl, inl, inr, ◌∙◌, add-one}
use Rattle.matching_tables.specs.Matched.{found}
use Rattle.matching_tables.specs.MapLaws.{found-fits, found-misfits}
use Rattle.matching_with.proofs.WayLaws.{walking_start, walking-under, walking-past, walking-parts, walk_ends, walk-misfit, match-plain, match-closed, split-asks, split-falls, split-is}
use Rattle.matching_with.proofs.AlongLaws.{along-first, along-falls, along-more, along-misfit, along-end, along-ended}
use Rattle.matching_with.proofs.+match_with.Goals as goal

pub all_with-match_with-requires : goal.all_with-match_with-requires
all_with-match_with-requires t c =
    let v = c.loop-p.invariant.2 in
    let e = c.in-Some.ensures.steps in
    (omega (arith, along-falls v e.0 e.1), (along-first v e.0 e.1, v.noted))

pub all_with-returns-then-not-match_with-clause-answer : goal.all_with-returns-then-not-match_with-clause-answer
all_with-returns-then-not-match_with-clause-answer t c =
    let e = c.in-Some.ensures.steps in
    let m = c.match_with in
    along-misfit c.loop-p.invariant.2 e.0 e.1 m.new.met.slots m.ensures.answer m.new.names.many (found-misfits m.new.names.many c.if-not-match_with.true)

pub all_with-loop-p-preserved : goal.all_with-loop-p-preserved
all_with-loop-p-preserved t c =
    let v = c.loop-p.invariant in
    let e = c.in-Some.ensures.steps in
    let m = c.match_with in
    let s = m.ensures.same in (
      (tt, tt),
      tt,
      along-more v.2 e.0 e.1 m.new.met.slots m.ensures.answer m.ensures.noted m.new.names.many (found-fits m.new.names.many c.if-not-match_with.false) c.note.new.self.slots c.note.ensures,
      (s.0 ∙ v.3.0, s.1 ∙ v.3.1, s.2 ∙ v.3.2),
    )

pub all_with-returns-clause-answer : goal.all_with-returns-clause-answer
all_with-returns-clause-answer t c =
    let v = c.loop-p.invariant.2 in
    elim c.in-None.ensures.steps [ inl x ↦ along-end v x.1.0 | inr x ↦ along-ended v x.1.0 ]

pub match_with-returns-then-end-eq0-clause-answer : goal.match_with-returns-then-end-eq0-clause-answer
match_with-returns-then-end-eq0-clause-answer t c = (match-plain c.requires.0 c.walk-end.ensures.walked c.if-end-eq0.true).0

pub match_with-returns-clause-answer : goal.match_with-returns-clause-answer
match_with-returns-clause-answer t c =
    let m = c.close_pars.ensures.map in
    rw (m.0, m.1, m.2) (match-closed c.requires.0 c.walk-end.ensures.walked c.close_pars.new.names.params.now c.close_pars.ensures.closed c.forget.ensures).0

pub match_with-returns-clause-noted : goal.match_with-returns-clause-noted
match_with-returns-clause-noted t c =
    let m = c.close_pars.ensures.map in
    rw (m.0, m.1, m.2) (match-closed c.requires.0 c.walk-end.ensures.walked c.close_pars.new.names.params.now c.close_pars.ensures.closed c.forget.ensures).1

pub walk-loop-fits-init : goal.walk-loop-fits-init
walk-loop-fits-init t c = (walking_start c.args.met.now.slots c.requires.0 c.requires.1, (refl, refl, refl))

pub walk-returns-in-Ends-clause-walked : goal.walk-returns-in-Ends-clause-walked
walk-returns-in-Ends-clause-walked t c =
    let z = c.take_turn.new.names in
    walk_ends c.loop-fits.invariant.0 z.params.now z.images.now z.bound.now c.take_turn.new.met.slots (found z.many c.in-Ends.fits) c.in-Ends.ensures.done

pub walk-overflow_add-steps : goal.walk-overflow_add-steps
walk-overflow_add-steps t c = omega (arith, c.loop-fits.invariant.0.far, c.requires.0.room 0)

pub walk-loop-fits-preserved-in-Under : goal.walk-loop-fits-preserved-in-Under
walk-loop-fits-preserved-in-Under t c =
    let i = c.loop-fits in
    let v = i.invariant in
    let z = c.take_turn.new.names in
    let s = c.take_turn.ensures.same in
    (walking-under v.0 z.params.now z.images.now z.bound.now z.many c.take_turn.new.met.slots c.in-Under.body c.in-Under.ensures.done (add-one i.steps), (s.0 ∙ v.1.0, s.1 ∙ v.1.1, s.2 ∙ v.1.2))

pub walk-loop-fits-preserved-in-Past : goal.walk-loop-fits-preserved-in-Past
walk-loop-fits-preserved-in-Past t c =
    let v = c.loop-fits.invariant in
    let z = c.take_turn.new.names in
    let s = c.take_turn.ensures.same in
    (walking-past v.0 z.params.now z.images.now z.bound.now z.many c.take_turn.new.met.slots c.in-Past.body c.in-Past.ensures.done, (s.0 ∙ v.1.0, s.1 ∙ v.1.1, s.2 ∙ v.1.2))

pub walk-all_with-requires : goal.walk-all_with-requires
walk-all_with-requires t c =
    let o = c.in-Parts.ensures.done.0 in
    let ek = c.all_but_last-patterns.ensures in
    let ej = rw c.in-Parts.ensures.done.2 at c.all_but_last-targets.ensures in
    (omega (arith, split-falls o ek ej, c.loop-fits.invariant.0.less), (split-asks o ek ej, o.noted))

pub walk-returns-then-not-all_with-clause-walked : goal.walk-returns-then-not-all_with-clause-walked
walk-returns-then-not-all_with-clause-walked t c =
    let o = c.in-Parts.ensures.done.0 in
    let m = c.all_with in
    let g = split-is o c.all_but_last-patterns.ensures (rw c.in-Parts.ensures.done.2 at c.all_but_last-targets.ensures) m.ensures.answer in
    walk-misfit c.loop-fits.invariant.0 o m.new.met.slots g m.new.names.many (found-misfits m.new.names.many c.if-not-all_with.true)

pub walk-overflow_add-steps-in-Parts : goal.walk-overflow_add-steps-in-Parts
walk-overflow_add-steps-in-Parts t c = omega (arith, c.loop-fits.invariant.0.far, c.requires.0.room 0)

pub walk-loop-fits-preserved : goal.walk-loop-fits-preserved
walk-loop-fits-preserved t c =
    let i = c.loop-fits in
    let v = i.invariant in
    let o = c.in-Parts.ensures.done.0 in
    let m = c.all_with in
    let s = c.take_turn.ensures.same in
    let u = m.ensures.same in
    let g = split-is o c.all_but_last-patterns.ensures (rw c.in-Parts.ensures.done.2 at c.all_but_last-targets.ensures) m.ensures.answer in (
      walking-parts v.0 o m.new.met.slots g m.ensures.noted m.new.names.many (found-fits m.new.names.many c.if-not-all_with.false) c.last-a.ensures (rw c.in-Parts.ensures.done.2 at c.last-c.ensures) (add-one i.steps),
      (u.0 ∙ s.0 ∙ v.1.0, u.1 ∙ s.1 ∙ v.1.1, u.2 ∙ s.2 ∙ v.1.2),
    )
