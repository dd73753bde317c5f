-- The answer to a Var: its sort, where it may carry it.
use Rattle.std.proofs.Common.{refl}
use Rattle.record.specs.Decode.{sort_at}
use Rattle.row_rules.specs.declared.Cause.TheVariants.{Barred}
use Rattle.row_rules.specs.Verdict.{sort}
use Rattle.check_rules.specs.Checked.{carried}
use Rattle.check_row.proofs.SingleLaws.{need-taken, need-left, reads-refused, reads-known}
use Rattle.check_row.proofs.single.checked_variable.Goals as goal

pub returns-then-not-is_carried : goal.returns-then-not-is_carried
returns-then-not-is_carried c =
    let s = c.args.sorts.now in
    let k = sort_at s.records.now s.places.now s.count c.args.k in
    reads-refused Barred (need-left (sort k) (carried k) c.is_carried.ensures c.if-not-is_carried.true) refl

pub returns : goal.returns
returns c =
    let s = c.args.sorts.now in
    let k = sort_at s.records.now s.places.now s.count c.args.k in
    reads-known c.args.k (need-taken (sort k) (carried k) c.is_carried.ensures c.if-not-is_carried.false) c.requires refl
