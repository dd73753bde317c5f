-- The answer of a Binder over its body.
use Rattle.std.proofs.Common.{◌≡◌, eqb, eqb-true, true, false, ap, rules, refl}
use Rattle.std.proofs.lemmas.Bool.{eqb-false}
use Rattle.record.specs.Kinds.{sort_number, binder_number}
use Rattle.row_rules.specs.declared.Cause.TheVariants.{Count, Misfit}
use Rattle.row_answer.specs.AnswerLaws.{judged-as}
use Rattle.check_operator.proofs.RowLaws.{refused_row, known_row}
use Rattle.record.specs.Decode.{sort_at}
use Rattle.record.specs.Sort.{end, ◌then◌}
use Rattle.check_rules.specs.Checked.{bound_body}
use Rattle.check_row.specs.Bound.{bound_sorts}
use Rattle.check_row.proofs.IndexedLaws.{kept-answer, kept_row}
use Rattle.check_row.proofs.BinderLaws.{bound-none, quantified-no, quantified-yes, choice-no, only-in, only-known, choice-yes, lambda-no, lambda-yes, choice-count, plain_binder}
use Rattle.check_row.proofs.binder.bound_body.Goals as goal

pub returns-then-pairs-eq0-clause-answer : goal.returns-then-pairs-eq0-clause-answer
returns-then-pairs-eq0-clause-answer c = refused_row c.args.store.now Count (bound-none c.requires (binder_number c.args.binder) c.if-pairs-eq0.true) refl

pub returns-then-eq-clause-answer : goal.returns-then-eq-clause-answer
returns-then-eq-clause-answer c =
    let q = sort_number c.kind-kind.result in
    let e : eqb q 12 ≡ true = search rules in
    refused_row c.args.store.now Misfit (lambda-no c.requires c.if-pairs-eq0.false q c.kind-kind.ensures (ap binder_number c.in-Lambda.is) (eqb-true q 12 e)) refl

pub returns-else-eq-clause-answer : goal.returns-else-eq-clause-answer
returns-else-eq-clause-answer c =
    let q = sort_number c.kind-kind.result in
    let e : eqb q 12 ≡ false = search rules in
    judged-as (lambda-yes c.requires c.if-pairs-eq0.false q c.kind-kind.ensures (ap binder_number c.in-Lambda.is) (eqb-false q 12 e)) c.lambda.ensures.answer

pub returns-then-pairs-ne1-clause-answer : goal.returns-then-pairs-ne1-clause-answer
returns-then-pairs-ne1-clause-answer c =
    refused_row c.args.store.now Count (choice-count c.requires (ap binder_number c.in-Choice.is) c.if-pairs-ne1.true) refl

pub returns-then-ne-clause-answer : goal.returns-then-ne-clause-answer
returns-then-ne-clause-answer c =
    let q = sort_number c.kind-kind.result in
    let e : eqb q 3 ≡ false = search rules in
    refused_row c.args.store.now Misfit (choice-no c.requires c.if-pairs-eq0.false q c.kind-kind.ensures (ap binder_number c.in-Choice.is) c.if-pairs-ne1.false (eqb-false q 3 e)) refl

pub bounds-sheet-sort : goal.bounds-sheet-sort
bounds-sheet-sort c = only-in c.requires c.if-pairs-eq0.false (sort_number c.kind-kind.result) c.kind-kind.ensures (ap binder_number c.in-Choice.is) c.if-pairs-ne1.false c.get-sort.ensures.value

pub returns-else-ne-clause-answer : goal.returns-else-ne-clause-answer
returns-else-ne-clause-answer c =
    let q = sort_number c.kind-kind.result in
    let e : eqb q 3 ≡ true = search rules in
    known_row c.args.store.now _ (choice-yes c.requires c.if-pairs-eq0.false q c.kind-kind.ensures (ap binder_number c.in-Choice.is) c.if-pairs-ne1.false c.get-sort.ensures.value (eqb-true q 3 e))
    (only-known c.requires c.if-pairs-eq0.false q c.kind-kind.ensures (ap binder_number c.in-Choice.is) c.if-pairs-ne1.false c.get-sort.ensures.value) refl

pub returns-in-Forall-clause-answer : goal.returns-in-Forall-clause-answer
returns-in-Forall-clause-answer c =
    let s = c.args.store.now in
    let q = sort_number c.kind-kind.result in
    let k = binder_number c.args.binder in
    let bs = bound_sorts s.records.now s.places.now s.count c.args.sheet.now c.args.pairs in
    let o = plain_binder c.args.binder c.in-Forall.is in
    kept_row c.kept.ensures
    (kept-answer (record { good = c.requires.good; known = c.requires.known }) q 3 (bound_body k bs (sort_at s.records.now s.places.now s.count c.args.body then end))
    (quantified-yes c.requires c.if-pairs-eq0.false q c.kind-kind.ensures o.0 o.1) (quantified-no c.requires c.if-pairs-eq0.false q c.kind-kind.ensures o.0 o.1))
