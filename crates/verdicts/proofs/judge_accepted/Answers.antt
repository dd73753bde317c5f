-- Where names may be looked up, `judge_named` judges.
-- Else there is no question and no Par, and the rows, over tables of one entry, are all there is to write.
use Rattle.row_answer.specs.Lent.{unused}
use Rattle.verdicts.proofs.NamedLaws.{none-asked, none-parless}
use Rattle.verdicts.proofs.JudgeLaws.{rows-ask, judge-unasked}
use Rattle.verdicts.proofs.judge_accepted.Goals as goal

pub rows_all-requires : goal.rows_all-requires
rows_all-requires c =
    let h = c.requires in
    let e = c.entries.ensures in
    let k = c.args.counts in
    let w = rw (e.records, e.places, h.count) at c.uses_names.ensures in
    rw (h.sorts, h.count, h.used) (rows-ask h.accepted (unused (none-parless c.args.store.now.records.now c.args.store.now.places.now k.count k.questions w c.if-uses_names.false)))

pub returns-clause-judged : goal.returns-clause-judged
returns-clause-judged c =
    let h = c.requires in
    let e = c.entries.ensures in
    let k = c.args.counts in
    let w = rw (e.records, e.places, h.count) at c.uses_names.ensures in
    let t = rw (h.sorts, h.count) at c.rows_all.ensures.rows in
    judge-unasked h.accepted t (none-asked c.args.store.now.records.now c.args.store.now.places.now k.count k.questions w c.if-uses_names.false)
