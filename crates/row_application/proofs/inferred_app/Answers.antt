-- The verdict by the head, which stands first among the sorts.
-- A plain Function leaves what remains; under a Par the arguments are matched.
use Rattle.std.proofs.Common.{◌≡◌, Err, Some, None, arith, rules, refl, ap}
use Rattle.record.specs.Cases.{positive}
use Rattle.row_rules.specs.declared.Cause.TheVariants.{Panics}
use Rattle.row_answer.specs.Answer.{answer}
use Rattle.row_answer.specs.AnswerLaws.{judged-as}
use Rattle.row_application.proofs.AppLaws.{app-refused, app-as}
use Rattle.row_application.proofs.HeadLaws.{HeadFound, applied-none, applied-other, applied-many, remaining-asks, applied-rest, parametric-asks, applied-parametric}
use Rattle.row_application.proofs.inferred_app.Goals as goal
use Rattle.row_application.proofs.inferred_app.Goals.{After-head_of, In_ok-callee}

head : (c : After-head_of) → let s = c.args.store.now in let x = c.args.names.now in let a = c.args.args.now in
    HeadFound s.records.now s.places.now s.index.now s.count s.used x.params.now x.images.now x.bound.now a.bytes.now a.count c.number.result c.head_of.result
head c =
    record {
      asks = c.requires;
      more = positive c.args.args.now.count c.if-args-eq0.false;
      number = c.number.ensures.value;
      head = rw (c.entries.ensures.records, c.entries.ensures.places) at c.head_of.ensures;
    }

some : (c : In_ok-callee) → c.head_of.result ≡ Some c.in_ok-callee.callee
some c = grind arith

pub returns-then-args-eq0-clause-answer : goal.returns-then-args-eq0-clause-answer
returns-then-args-eq0-clause-answer c = let h = c.requires in app-refused h.good Panics (applied-none h c.if-args-eq0.true) refl

pub returns-in_err-callee-clause-answer : goal.returns-in_err-callee-clause-answer
returns-in_err-callee-clause-answer c =
    let o = head (goal.at.returns-in_err-callee-clause-answer c).After-head_of in
    let none : c.head_of.result ≡ None = grind arith in
    let e : c.from_residual.result ≡ Err Panics = search rules in
    app-refused c.requires.good Panics (applied-other o none) (ap (answer c.args.store.now) e)

pub returns-then-callee-n-clause-answer : goal.returns-then-callee-n-clause-answer
returns-then-callee-n-clause-answer c =
    let o = head (goal.at.returns-then-callee-n-clause-answer c).After-head_of in
    let e = some (goal.at.returns-then-callee-n-clause-answer c).In_ok-callee in
    app-refused c.requires.good Panics (applied-many o e c.if-callee-n.true) refl

pub skip-requires-clause-within : goal.skip-requires-clause-within
skip-requires-clause-within c =
    let o = head (goal.at.skip-requires-clause-within c).After-head_of in
    let e = some (goal.at.skip-requires-clause-within c).In_ok-callee in
    omega (arith, (remaining-asks o e c.if-callee-n.false).within)

pub remaining-requires : goal.remaining-requires
remaining-requires c =
    let o = head (goal.at.remaining-requires c).After-head_of in
    let e = some (goal.at.remaining-requires c).In_ok-callee in
    rw (c.skip.ensures.at, c.skip.ensures.count) (remaining-asks o e c.if-callee-n.false)

pub returns-then-callee-eq0-clause-answer : goal.returns-then-callee-eq0-clause-answer
returns-then-callee-eq0-clause-answer c =
    let o = head (goal.at.returns-then-callee-eq0-clause-answer c).After-head_of in
    let e = some (goal.at.returns-then-callee-eq0-clause-answer c).In_ok-callee in
    let a = rw (c.skip.ensures.at, c.skip.ensures.count) at c.remaining.ensures.answer in
    record { answer = judged-as (applied-rest o e c.if-callee-n.false c.if-callee-eq0.true) a; params = refl; images = refl; bound = refl }

pub parametric-requires : goal.parametric-requires
parametric-requires c =
    let o = head (goal.at.parametric-requires c).After-head_of in
    let e = some (goal.at.parametric-requires c).In_ok-callee in
    (parametric-asks o e c.if-callee-n.false c.if-callee-eq0.false, o.more)

pub returns-clause-answer : goal.returns-clause-answer
returns-clause-answer c =
    let o = head (goal.at.returns-clause-answer c).After-head_of in
    let e = some (goal.at.returns-clause-answer c).In_ok-callee in
    app-as (applied-parametric o e c.if-callee-n.false c.if-callee-eq0.false) c.parametric.ensures.answer
