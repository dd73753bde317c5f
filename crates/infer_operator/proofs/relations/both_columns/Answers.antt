-- The columns of both arguments, or none, for every count of the store.
use Rattle.std.proofs.Common.{refl}
use Rattle.record.specs.Number.{u16_at}
use Rattle.infer_operator.proofs.RelationLaws.{both-few, right-asks, left-none, right-none, both-have}
use Rattle.infer_operator.proofs.relations.both_columns.Goals as goal

pub returns-then-args-lt2 : goal.returns-then-args-lt2
returns-then-args-lt2 c = both-few _ _ _ _ c.if-args-lt2.true

pub returns-in_err-left : goal.returns-in_err-left
returns-in_err-left c = rw c.from_residual.ensures (left-none _ _ _ _ c.if-args-lt2.false {v = u16_at c.args.args.now.bytes.now 5} c.number.ensures.value refl c.in_err-left.ensures)

pub columns_of-requires-2 : goal.columns_of-requires-2
columns_of-requires-2 c = right-asks _ _ _ _ c.if-args-lt2.false c.number.ensures.value c.number-2.ensures.value c.requires

pub returns-in_err-right : goal.returns-in_err-right
returns-in_err-right c =
    rw c.from_residual-in_err-right.ensures
    (right-none _ _ _ _ c.if-args-lt2.false c.number.ensures.value c.number-2.ensures.value c.in_ok-left.left c.in_ok-left.ensures c.in_err-right.ensures)

pub returns : goal.returns
returns c = both-have _ _ _ _ c.if-args-lt2.false c.number.ensures.value c.number-2.ensures.value c.in_ok-left.left c.in_ok-left.ensures c.in_ok-right.right c.in_ok-right.ensures
