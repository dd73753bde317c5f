-- The rows are written first, over blank tables of names, then the answers over the store that they leave.
-- Both are those of the judgement, with the zeros that stood behind them.
use Rattle.std.proofs.Common.{arith}
use Rattle.row_answer.specs.Lent.{whole}
use Rattle.verdicts.proofs.JudgeLaws.{blank-tables, rows-ask, answers-ask, asks-taken, answers-taken, judge-written}
use Rattle.verdicts.proofs.named.judge_named.Goals as goal

pub rows_all-requires : goal.rows_all-requires
rows_all-requires c = rw (c.requires.sorts, c.requires.count, c.requires.used) (rows-ask c.requires.accepted (whole blank-tables))

pub answer_all-requires : goal.answer_all-requires
answer_all-requires c =
    let h = c.requires in
    let t = rw (h.sorts, h.count) at c.rows_all.ensures.rows in
    rw h.sorts (asks-taken (omega (arith, h.accepted.questions, h.accepted.accepted.few_questions)) (answers-ask h.accepted t blank-tables))

pub returns-clause-judged : goal.returns-clause-judged
returns-clause-judged c =
    let h = c.requires in
    let t = rw (h.sorts, h.count) at c.rows_all.ensures.rows in
    judge-written h.accepted t (answers-taken (omega (arith, h.accepted.questions, h.accepted.accepted.few_questions)) (rw h.sorts at c.answer_all.ensures.answers))
