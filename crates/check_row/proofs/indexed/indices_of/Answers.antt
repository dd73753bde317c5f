-- One or two integer constants.
use Rattle.std.proofs.Common.{rules, arith}
use Rattle.row_answer.specs.Arguments.{index-asks}
use Rattle.check_row.proofs.IndexedLaws.{indices-other, indices-first, indices-one, indices-wrong, indices-second, indices-two}
use Rattle.check_row.proofs.indexed.indices_of.Goals as goal

pub returns-in_default : goal.returns-in_default
returns-in_default c =
    indices-other (search rules) (search rules)

pub returns-in_err-index_at-in-1 : goal.returns-in_err-index_at-in-1
returns-in_err-index_at-in-1 c =
    indices-first c.index_at.ensures c.in-1.is c.in_err-index_at-in-1.was (search rules)

pub returns-in_ok-index_at-in-1 : goal.returns-in_ok-index_at-in-1
returns-in_ok-index_at-in-1 c =
    indices-one c.index_at.ensures c.in-1.is _ c.in_ok-index_at-in-1.was

pub returns-in_err-first-in-2 : goal.returns-in_err-first-in-2
returns-in_err-first-in-2 c =
    indices-wrong c.index_at-in-2.ensures c.in-2.is c.in_err-first-in-2.was (search rules)

pub index_at-requires-in-2-2 : goal.index_at-requires-in-2-2
index_at-requires-in-2-2 c = index-asks c.args.sheet.now.bytes.now c.args.sheet.now.starts.now c.args.second.at c.args.second.count c.requires 1 (omega arith)

pub returns-in_err-last-in-2 : goal.returns-in_err-last-in-2
returns-in_err-last-in-2 c =
    indices-second c.index_at-in-2.ensures c.in-2.is
    c.in_ok-first-in-2.first c.in_ok-first-in-2.was c.index_at-in-2-2.ensures c.in_err-last-in-2.was (search rules)

pub returns-in_ok-last-in-2 : goal.returns-in_ok-last-in-2
returns-in_ok-last-in-2 c =
    indices-two c.index_at-in-2.ensures c.in-2.is
    c.in_ok-first-in-2.first c.in_ok-first-in-2.was c.index_at-in-2-2.ensures c.in_ok-last-in-2.last c.in_ok-last-in-2.was
