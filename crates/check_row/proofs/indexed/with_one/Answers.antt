-- The answer of an operator with one index.
use mathlib.Core.Logic.{inl, inr}
use Rattle.std.proofs.Common.{◌≡◌, ap, refl, rules}
use Rattle.record.specs.Decode.{sort_at}
use Rattle.record.specs.Kinds.{param_number}
use Rattle.record.specs.declared.kinds.ParamOp.TheVariants.{Repeat, IntToBv}
use Rattle.row_rules.specs.declared.Cause.TheVariants.{Count}
use Rattle.row_answer.specs.AnswerLaws.{judged-as}
use Rattle.check_operator.proofs.RowLaws.{refused_row}
use Rattle.check_row.proofs.IndexedLaws.{extend_op, rotate_op, one_default, one-none, known-one, extend-is, rotate-is, repeat-is, int_is, power-is, kept_row}
use Rattle.check_row.proofs.indexed.with_one.Goals as goal

pub returns-in-RotateLeft-clause-answer : goal.returns-in-RotateLeft-clause-answer
returns-in-RotateLeft-clause-answer c =
    let o = rotate_op c.args.op c.in-RotateLeft.is in
    kept_row c.kept.ensures (rotate-is (known-one c.requires) c.entry-e.result c.entry-e.ensures (param_number c.args.op) c.args.i o.0 o.1)

pub returns-in-ZeroExtend-clause-answer : goal.returns-in-ZeroExtend-clause-answer
returns-in-ZeroExtend-clause-answer c =
    let o = extend_op c.args.op c.in-ZeroExtend.is in
    judged-as (extend-is (known-one c.requires) c.entry-e.result c.entry-e.ensures (param_number c.args.op) c.args.i o.0 o.1) c.widened.ensures.answer

pub returns-in-RePower-clause-answer : goal.returns-in-RePower-clause-answer
returns-in-RePower-clause-answer c =
    kept_row c.kept-in-RePower.ensures (power-is (known-one c.requires) c.entry-e.result c.entry-e.ensures c.args.i (ap param_number c.in-RePower.is))

pub returns-in-Repeat-clause-answer : goal.returns-in-Repeat-clause-answer
returns-in-Repeat-clause-answer c =
    judged-as (repeat-is (known-one c.requires) c.entry-e.result c.entry-e.ensures c.args.i (ap param_number c.in-Repeat.is) c.if-i-ne0.true) c.widened-in-Repeat.ensures.answer

pub returns-in-IntToBv-clause-answer : goal.returns-in-IntToBv-clause-answer
returns-in-IntToBv-clause-answer c =
    judged-as (int_is (known-one c.requires) c.entry-e.result c.entry-e.ensures c.args.i (ap param_number c.in-IntToBv.is) c.if-i-ne0-2.true) c.widened-in-IntToBv.ensures.answer

-- The index 0 of Repeat, and of IntToBv.
pub returns-in_default-clause-answer : goal.returns-in_default-clause-answer
returns-in_default-clause-answer c =
    let s = c.args.store.now in
    refused_row s Count (one-none c.args.op (sort_at s.records.now s.places.now s.count c.args.a) (inl c.in-Repeat.is) c.if-i-ne0.false) refl

pub returns-in_default-2-clause-answer : goal.returns-in_default-2-clause-answer
returns-in_default-2-clause-answer c =
    let s = c.args.store.now in
    refused_row s Count (one-none c.args.op (sort_at s.records.now s.places.now s.count c.args.a) (inr c.in-IntToBv.is) c.if-i-ne0-2.false) refl

-- Another operator.
pub returns-in_default-3-clause-answer : goal.returns-in_default-3-clause-answer
returns-in_default-3-clause-answer c =
    let s = c.args.store.now in
    let d = c.in_default in
    let r : c.args.op ≡ Repeat → ⊥ = search rules in
    let i : c.args.op ≡ IntToBv → ⊥ = search rules in
    refused_row s Count
    (one_default c.args.op c.args.i (sort_at s.records.now s.places.now s.count c.args.a) d.not-ZeroExtend d.not-SignExtend d.not-RotateLeft d.not-RotateRight r i d.not-RePower)
    refl
