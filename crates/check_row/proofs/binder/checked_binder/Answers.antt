-- The answer of a Binder.
use Rattle.std.proofs.Common.{◌≡◌, refl, sym, ap, ◌∙◌}
use Rattle.record.specs.Decode.{sort_at}
use Rattle.record.specs.Kinds.{binder_number}
use Rattle.record.specs.Sort.{end, ◌then◌}
use Rattle.record.specs.declared.kinds.Binder.{Binder}
use Rattle.substitution.specs.Premises.{proper_all}
use Rattle.row_rules.specs.declared.Cause.TheVariants.{Barred}
use Rattle.row_answer.specs.AnswerLaws.{judged-as}
use Rattle.check_rules.specs.Checked.{bound_body}
use Rattle.check_operator.proofs.RowLaws.{refused_row}
use Rattle.check_row.specs.Bound.{bound_sorts}
use Rattle.check_row.proofs.BinderLaws.{binder-barred, binder-is, binder_number_is}
use Rattle.check_row.proofs.binder.checked_binder.Goals as goal

pub returns-then-not-all_proper-clause-answer : goal.returns-then-not-all_proper-clause-answer
returns-then-not-all_proper-clause-answer c =
    let s = c.args.store.now in
    let h : c.all_proper.result ≡ proper_all (bound_sorts s.records.now s.places.now s.count c.args.sheet.now c.args.pairs) =
    rw (c.sorts.ensures.records, c.sorts.ensures.places, c.sorts.ensures.count) at c.all_proper.ensures in
    refused_row s Barred (binder-barred c.requires c.args.number h c.if-not-all_proper.true) refl

pub returns-clause-answer : goal.returns-clause-answer
returns-clause-answer c =
    let s = c.args.store.now in
    let bs = bound_sorts s.records.now s.places.now s.count c.args.sheet.now c.args.pairs in
    let t = sort_at s.records.now s.places.now s.count c.number-body.result in
    let h : c.all_proper.result ≡ proper_all bs =
    rw (c.sorts.ensures.records, c.sorts.ensures.places, c.sorts.ensures.count) at c.all_proper.ensures in
    judged-as
    (binder-is c.requires c.args.number h c.if-not-all_proper.false c.number-body.ensures.value ∙ binder_number_is c.args.number c.try_from.result c.try_from.ensures bs t
    ∙ ap (λ (o : Binder). bound_body (binder_number o) bs (t then end)) (sym c.unwrap_or-binder.ensures))
    c.bound_body.ensures.answer
