-- The answer of an operator.
use Rattle.std.proofs.Common.{◌≡◌, rules, refl}
use Rattle.row_rules.specs.declared.Cause.TheVariants.{NoRank, Count, Misfit}
use Rattle.row_answer.specs.AnswerLaws.{judged-as}
use Rattle.check_operator.specs.Numbered.{rule_numbers}
use Rattle.check_operator.specs.Rule.{rule_of}
use Rattle.check_operator.specs.Contract.{FitHas, TestsValues}
use Rattle.check_operator.proofs.RowLaws.{refused_row}
use Rattle.check_operator.proofs.OperatedLaws.{no-rank, no-count, no_value, rule-asks, misfit, fit_is}
use Rattle.check_operator.proofs.op.checked_operator.Goals as goal
use Rattle.check_operator.proofs.op.checked_operator.Goals.{After-values_for}

-- Whether no argument is a Par, by the store itself.
tested : (c : After-values_for)
    → TestsValues c.args.store.now.records.now c.args.store.now.places.now c.args.args.now.bytes.now c.args.args.now.count (rule_numbers c.in_ok-rule.rule) c.values_for.result
tested c = rw (c.entries-entries.ensures.records, c.entries-entries.ensures.places) at c.values_for.ensures

pub returns-in_err-rule-clause-answer : goal.returns-in_err-rule-clause-answer
returns-in_err-rule-clause-answer c = refused_row c.args.store.now NoRank (no-rank c.requires c.args.op (search rules)) (search rules)

pub returns-then-not-counts-clause-answer : goal.returns-then-not-counts-clause-answer
returns-then-not-counts-clause-answer c =
    let r = c.in_ok-rule.rule in
    let e : rule_numbers r ≡ rule_of c.args.op = search rules in
    refused_row c.args.store.now Count (no-count c.requires c.args.op r e c.counts.ensures c.if-not-counts.true) refl

pub returns-then-not-values_for-clause-answer : goal.returns-then-not-values_for-clause-answer
returns-then-not-values_for-clause-answer c =
    let s = c.args.store.now in
    let r = c.in_ok-rule.rule in
    let e : rule_numbers r ≡ rule_of c.args.op = search rules in
    let v = tested (goal.at.returns-then-not-values_for-clause-answer c).After-values_for in
    refused_row s Misfit (no_value c.requires c.args.op r e c.counts.ensures c.if-not-counts.false c.values_for.result v c.if-not-values_for.true) refl

pub fit_rule-requires : goal.fit_rule-requires
fit_rule-requires c =
    let r = c.in_ok-rule.rule in
    let e : rule_numbers r ≡ rule_of c.args.op = search rules in
    rw (c.entries-entries.ensures.records, c.entries-entries.ensures.places) (rule-asks c.requires c.args.op r e c.counts.ensures c.if-not-counts.false)

pub returns-in_err-made-clause-answer : goal.returns-in_err-made-clause-answer
returns-in_err-made-clause-answer c =
    let s = c.args.store.now in
    let a = c.args.args.now in
    let r = c.in_ok-rule.rule in
    let e : rule_numbers r ≡ rule_of c.args.op = search rules in
    let v = tested (goal.at.returns-in_err-made-clause-answer c).After-values_for in
    let h : FitHas s.records.now s.places.now a.bytes.now a.count (rule_numbers r) c.fit_rule.result =
    rw (c.entries-entries.ensures.records, c.entries-entries.ensures.places) at c.fit_rule.ensures in
    refused_row s Misfit
    (misfit c.requires c.args.op r e c.counts.ensures c.if-not-counts.false c.values_for.result v c.if-not-values_for.false c.fit_rule.result h (search rules))
    (search rules)

pub returns-clause-answer : goal.returns-clause-answer
returns-clause-answer c =
    let s = c.args.store.now in
    let a = c.args.args.now in
    let r = c.in_ok-rule.rule in
    let e : rule_numbers r ≡ rule_of c.args.op = search rules in
    let v = tested (goal.at.returns-clause-answer c).After-values_for in
    let h : FitHas s.records.now s.places.now a.bytes.now a.count (rule_numbers r) c.fit_rule.result =
    rw (c.entries-entries.ensures.records, c.entries-entries.ensures.places) at c.fit_rule.ensures in
    judged-as
    (fit_is c.requires c.args.op r e c.counts.ensures c.if-not-counts.false c.values_for.result v c.if-not-values_for.false c.fit_rule.result h c.in_ok-made.made (search rules))
    c.delivered_fit.ensures.answer
