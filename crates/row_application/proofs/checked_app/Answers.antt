-- The verdict by the head, which stands first among the sorts.
-- A Function or a Par of one is called with the others.
use Rattle.std.proofs.Common.{◌≡◌, Err, Some, None, arith, rules, refl, ap}
use Rattle.row_rules.specs.declared.Cause.TheVariants.{Count, Misfit}
use Rattle.row_answer.specs.Answer.{answer}
use Rattle.row_application.proofs.AppLaws.{app-refused, app-as}
use Rattle.row_application.proofs.HeadLaws.{HeadFound, app-count, app-other, called-asks, app-called, app-crowded}
use Rattle.row_application.proofs.checked_app.Goals as goal
use Rattle.row_application.proofs.checked_app.Goals.{After-head_of, In_ok-callee}

head : (c : After-head_of) → let s = c.args.store.now in let x = c.args.names.now in let a = c.args.args.now in
    HeadFound s.records.now s.places.now s.index.now s.count s.used x.params.now x.images.now x.bound.now a.bytes.now a.count c.number.result c.head_of.result
head c =
    record {
      asks = c.requires.asked;
      more = omega (arith, c.if-args-lt2.false);
      number = c.number.ensures.value;
      head = rw (c.entries.ensures.records, c.entries.ensures.places) at c.head_of.ensures;
    }

some : (c : In_ok-callee) → c.head_of.result ≡ Some c.in_ok-callee.callee
some c = grind arith

pub returns-then-args-lt2-clause-answer : goal.returns-then-args-lt2-clause-answer
returns-then-args-lt2-clause-answer c = let h = c.requires.asked in app-refused h.good Count (app-count h c.if-args-lt2.true) refl

pub returns-in_err-callee-clause-answer : goal.returns-in_err-callee-clause-answer
returns-in_err-callee-clause-answer c =
    let o = head (goal.at.returns-in_err-callee-clause-answer c).After-head_of in
    let none : c.head_of.result ≡ None = grind arith in
    let e : c.from_residual.result ≡ Err Misfit = search rules in
    app-refused c.requires.asked.good Misfit (app-other o c.if-args-lt2.false none) (ap (answer c.args.store.now) e)

pub called-requires-clause-asked : goal.called-requires-clause-asked
called-requires-clause-asked c =
    let o = head (goal.at.called-requires-clause-asked c).After-head_of in
    let e = some (goal.at.called-requires-clause-asked c).In_ok-callee in
    (called-asks o e, o.more)

pub called-requires-clause-crowded : goal.called-requires-clause-crowded
called-requires-clause-crowded c =
    let o = head (goal.at.called-requires-clause-crowded c).After-head_of in
    let e = some (goal.at.called-requires-clause-crowded c).In_ok-callee in
    app-crowded o e c.args.crowded c.requires.crowded

pub returns-clause-answer : goal.returns-clause-answer
returns-clause-answer c =
    let o = head (goal.at.returns-clause-answer c).After-head_of in
    let e = some (goal.at.returns-clause-answer c).In_ok-callee in
    app-as (app-called o e c.if-args-lt2.false) c.called.ensures.answer
