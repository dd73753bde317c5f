-- The answer of each indexed operator, by its name; Panics for BvConst and for a number that is none's.
use Rattle.std.proofs.Common.{◌≡◌, Err, rules, ◌∙◌}
use Rattle.record.specs.Kinds.{param_number}
use Rattle.record.specs.declared.kinds.ParamOp.TheVariants.{BvConst}
use Rattle.row_rules.specs.declared.Cause.TheVariants.{Panics}
use Rattle.row_answer.specs.AnswerLaws.{judged-as}
use Rattle.infer_rules.specs.Inferred.{indexed}
use Rattle.infer_operator.specs.Asks.{arguments}
use Rattle.infer_operator.specs.Single.{nth-first}
use Rattle.infer_operator.proofs.AnswerWays.{answer-panics, answer-passed}
use Rattle.infer_row.specs.Indexed.{indices}
use Rattle.infer_row.proofs.IndexedLaws.{op_of, op-found, op-missing, no-operator, named, rotates}
use Rattle.infer_row.proofs.indexed.inferred_indexed.Goals as goal
use Rattle.infer_row.proofs.indexed.inferred_indexed.Goals.{In_ok-op}

number : (c : In_ok-op) → param_number c.in_ok-op.op ≡ c.args.op
number c = let row : c.map_err.result ≡ op_of c.try_from.result = search rules in op-found c.args.op c.try_from.result c.try_from.ensures row c.in_ok-op.was

pub returns-in_err-op-clause-answer : goal.returns-in_err-op-clause-answer
returns-in_err-op-clause-answer c =
    let e : c.from_residual.result ≡ Err Panics = search rules in
    let row : c.map_err.result ≡ op_of c.try_from.result = search rules in
    answer-passed c.args.store.now e
    (no-operator _ _ c.args.op (op-missing c.args.op c.try_from.result c.try_from.ensures row c.in_err-op.was))

pub returns-in-RotateLeft-clause-answer : goal.returns-in-RotateLeft-clause-answer
returns-in-RotateLeft-clause-answer c =
    let s = c.args.store.now in
    let ss = arguments s c.args.args.now in
    let n = number (goal.at.returns-in-RotateLeft-clause-answer c).In_ok-op in
    judged-as (rotates n _ ss c.in-RotateLeft.is ∙ nth-first ss)
    (c.argument.ensures.answer s.records.now s.places.now s.index.now s.count s.used c.requires.args)

pub returns-in-BvConst-clause-answer : goal.returns-in-BvConst-clause-answer
unfolding indexed
returns-in-BvConst-clause-answer c =
    let n = number (goal.at.returns-in-BvConst-clause-answer c).In_ok-op in
    answer-panics c.args.store.now (named n (indices c.args.sheet.now c.args.second) (arguments c.args.store.now c.args.args.now) BvConst c.in-BvConst.is)
