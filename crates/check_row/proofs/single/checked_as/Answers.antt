-- The answer to an AsOp.
use Rattle.std.proofs.Common.{◌≡◌, ◌≤◌, ◌<◌, arith, refl, rules}
use Rattle.matching_tables.specs.Words.{sort_in}
use Rattle.row_rules.specs.declared.Cause.TheVariants.{NoRank, Barred}
use Rattle.check_row.specs.Words.{args_among}
use Rattle.check_row.proofs.SingleLaws.{qualified-other, qualified-barred, qualified-const, qualified-set, reads-refused, reads-as}
use Rattle.check_row.proofs.single.checked_as.Goals as goal

pub returns-in_default : goal.returns-in_default
returns-in_default c =
    let s = c.args.sorts.now in
    let l : 3 ≤ c.args.number = search rules in
    reads-refused NoRank (qualified-other c.args.number (sort_in s c.args.k) (args_among s c.args.args.now) l) refl

pub returns-then-not-is_proper : goal.returns-then-not-is_proper
returns-then-not-is_proper c =
    let s = c.args.sorts.now in
    let l : c.args.number ≤ 2 = search rules in
    reads-refused Barred (qualified-barred c.args.number (sort_in s c.args.k) (args_among s c.args.args.now) l c.is_proper.ensures c.if-not-is_proper.true) refl

pub returns-in-Const : goal.returns-in-Const
returns-in-Const c =
    let s = c.args.sorts.now in
    let z : c.args.number ≡ 0 = search rules in
    reads-as (qualified-const c.args.number (sort_in s c.args.k) (args_among s c.args.args.now) (omega arith) c.is_proper.ensures c.if-not-is_proper.false z) c.as_const.ensures

pub returns-in-SetEmpty : goal.returns-in-SetEmpty
returns-in-SetEmpty c =
    let s = c.args.sorts.now in
    let l : c.args.number ≤ 2 = search rules in
    let z : 0 < c.args.number = search rules in
    reads-as (qualified-set c.args.number (sort_in s c.args.k) (args_among s c.args.args.now) l c.is_proper.ensures c.if-not-is_proper.false z) c.as_set.ensures
