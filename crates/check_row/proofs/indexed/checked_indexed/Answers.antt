-- The answer to an indexed operator: its ranks first, then one argument, then the indices.
use Rattle.std.proofs.Common.{◌≡◌, ◌≤◌, ℕ, rules, refl, sym, ap, ap₂, ◌∙◌, Option, Some, None}
use Rattle.record.specs.Number.{u16_at}
use Rattle.record.specs.Kinds.{param_number}
use Rattle.check_row.specs.declared.indexed.Indices.{Indices}
use Rattle.record.specs.Decode.{sort_at}
use Rattle.row_rules.specs.declared.Cause.TheVariants.{NoRank, Count}
use Rattle.row_answer.specs.AnswerLaws.{judged-as}
use Rattle.row_answer.specs.Arguments.{constants_in}
use Rattle.check_operator.specs.Contract.{args_of}
use Rattle.check_operator.proofs.RowLaws.{refused_row}
use Rattle.check_row.specs.Indexed.{indexed_within}
use Rattle.check_row.proofs.IndexedLaws.{ranked_param, unranked_param, indexing-past, indexing-count, indexing-is}
use Rattle.check_row.proofs.indexed.checked_indexed.Goals as goal
use Rattle.check_row.proofs.indexed.checked_indexed.Goals.{After-has_ranks}

-- The operator has the number that was asked for, and the test is on it.
decoded : (c : After-has_ranks) → param_number c.in_ok-op.op ≡ c.args.op
decoded c = search rules

tested : (c : After-has_ranks) → c.has_ranks.result ≡ ranked_param c.args.op
tested c = c.has_ranks.ensures ∙ ap ranked_param (decoded c)

pub returns-in_err-op-clause-answer : goal.returns-in_err-op-clause-answer
returns-in_err-op-clause-answer c =
    let s = c.args.store.now in
    let z = c.args.sheet.now in
    let a = c.args.args.now in
    let high : 12 ≤ c.args.op = search rules in
    refused_row s Count
    (indexing-past c.args.op (constants_in z.bytes.now z.starts.now c.args.second.at c.args.second.count) (args_of s.records.now s.places.now s.count a.bytes.now a.count) high)
    (search rules)

pub returns-then-not-has_ranks-clause-answer : goal.returns-then-not-has_ranks-clause-answer
returns-then-not-has_ranks-clause-answer c =
    let s = c.args.store.now in
    let z = c.args.sheet.now in
    let a = c.args.args.now in
    let e = tested (goal.at.returns-then-not-has_ranks-clause-answer c).After-has_ranks in
    refused_row s NoRank
    (unranked_param c.args.op (constants_in z.bytes.now z.starts.now c.args.second.at c.args.second.count) (args_of s.records.now s.places.now s.count a.bytes.now a.count)
    e c.if-not-has_ranks.true) refl

pub returns-then-args-ne1-clause-answer : goal.returns-then-args-ne1-clause-answer
returns-then-args-ne1-clause-answer c =
    let e = tested (goal.at.returns-then-args-ne1-clause-answer c).After-has_ranks in
    refused_row c.args.store.now Count (indexing-count c.requires c.args.op e c.if-not-has_ranks.false c.if-args-ne1.true) refl

pub returns-in_err-indices-clause-answer : goal.returns-in_err-indices-clause-answer
returns-in_err-indices-clause-answer c =
    let s = c.args.store.now in
    let a = c.args.args.now in
    let e = tested (goal.at.returns-in_err-indices-clause-answer c).After-has_ranks in
    let none : c.indices_of.result ≡ None = search rules in
    refused_row s Count
    (indexing-is c.requires c.args.op e c.if-not-has_ranks.false c.if-args-ne1.false c.indices_of.ensures refl
    ∙ ap (λ (r : Option Indices). indexed_within c.args.op r (sort_at s.records.now s.places.now s.count (u16_at a.bytes.now 3))) none)
    (search rules)

pub returns-clause-answer : goal.returns-clause-answer
returns-clause-answer c =
    let s = c.args.store.now in
    let o = (goal.at.returns-clause-answer c).After-has_ranks in
    let some : c.indices_of.result ≡ Some c.in_ok-indices.indices = search rules in
    judged-as
    (indexing-is c.requires c.args.op (tested o) c.if-not-has_ranks.false c.if-args-ne1.false c.indices_of.ensures c.number.ensures.value
    ∙ ap₂ (λ (k : ℕ) (r : Option Indices). indexed_within k r (sort_at s.records.now s.places.now s.count c.number.result)) (sym (decoded o)) some)
    c.indexed_by.ensures.answer
