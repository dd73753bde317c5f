-- The tests of the count, of the parameters and of the arguments, in the order of the definition.
-- What is left is what `plain` answers, or what is delivered of the call, unless that is made in vain.
use Rattle.std.proofs.Common.{arith}
use mathlib.Core.Path.{refl}
use Rattle.row_application.proofs.CalledLaws.{called-count, app-delivered, called-plain, called-misfit, called-values}
use Rattle.row_application.proofs.UnmadeLaws.{own-asked, rest-asks, unmade-call, app-unmade}
use Rattle.row_application.proofs.called.called.Goals as goal

pub returns-then-callee-n-clause-answer : goal.returns-then-callee-n-clause-answer
returns-then-callee-n-clause-answer c = called-count c.requires.asked.0 c.if-callee-n.true refl

pub returns-then-callee-eq0-clause-answer : goal.returns-then-callee-eq0-clause-answer
returns-then-callee-eq0-clause-answer c = called-plain c.requires.asked.0 c.if-callee-n.false c.if-callee-eq0.true c.checked_plain.ensures.answer

pub returns-then-not-all_values-clause-answer : goal.returns-then-not-all_values-clause-answer
returns-then-not-all_values-clause-answer c =
    let e = c.entries.ensures in
    let v = rw (e.records, e.places, c.rest.ensures.at, c.rest.ensures.count) at c.all_values.ensures in
    called-misfit c.requires.asked.0 c.if-callee-n.false v c.if-not-all_values.true refl

pub unmade-call-requires : goal.unmade-call-requires
unmade-call-requires c =
    let h = c.requires.asked.0 in
    let s = c.sorts-sorts.ensures in
    let g = rw (s.records, s.places, s.count) at c.fit_arguments-found.ensures.fit in
    rw (s.records, s.places, s.count, c.skip.ensures.at, c.skip.ensures.count) (own-asked h.good c.fit_arguments-found.result g, rest-asks h (omega (arith, c.if-callee-n.false)))

pub returns-clause-answer : goal.returns-clause-answer
returns-clause-answer c =
    let h = c.requires.asked.0 in
    let s = c.sorts-sorts.ensures in
    let e = c.entries.ensures in
    let v = rw (e.records, e.places, c.rest.ensures.at, c.rest.ensures.count) at c.all_values.ensures in
    let g = rw (s.records, s.places, s.count) at c.fit_arguments-found.ensures.fit in
    let u = rw (s.records, s.places, s.count, c.skip.ensures.at, c.skip.ensures.count) at c.unmade-call.ensures in
    let t = c.args.crowded in
    let l = c.if-callee-n.false in
    let d = c.deliver.ensures.answer in
    rw d.1
    (app-unmade g t u (λ x. c.requires.crowded x c.if-callee-eq0.false (omega (arith, l))) (called-values h l v c.if-not-all_values.false)
    (app-delivered h (omega (arith, l)) c.if-callee-eq0.false (unmade-call g t u) refl d.0))
