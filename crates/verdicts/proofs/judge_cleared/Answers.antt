-- A sheet that was read is judged over the store that the reader left; a refused one leaves zeros.
-- The lengths are those at entry, since no call changes one.
use Rattle.std.proofs.Common.{rules, refl}
use Rattle.sheet.specs.Stands.{zeros-all}
use Rattle.verdicts.proofs.JudgeLaws.{accepted-ask, accepted-moved, refused-is, judge-over, judge-moved}
use Rattle.verdicts.proofs.judge_cleared.Goals as goal

pub read_sheet-read-requires-clause-empty : goal.read_sheet-read-requires-clause-empty
read_sheet-read-requires-clause-empty c = zeros-all 9216

pub judge_accepted-requires : goal.judge_accepted-requires
judge_accepted-requires c =
    let a = c.args in
    let w = c.read_sheet-read.new.tables in
    record { accepted = accepted-moved (accepted-ask a.records.now a.places.now c.requires c.in-Ok.ensures.read w.many_sorts w.many_terms w.many_questions) (search rules) (search rules) (search rules); sorts = refl; count = refl; used = refl }

pub returns-in-Ok : goal.returns-in-Ok
returns-in-Ok c =
    let a = c.args in
    let d = c.read_sheet-read.new in
    let l = c.read_sheet-read.auto in
    judge-moved (judge-over a.records.now a.places.now a.rows.now a.answers.now d.records d.places a.rows.now a.answers.now l.records l.places refl refl c.judge_accepted.ensures.judged) (search rules) (search rules)

pub returns-in-Err : goal.returns-in-Err
returns-in-Err c =
    let a = c.args in
    let d = c.read_sheet-read.new in
    refused-is a.sheet.now a.records.now a.places.now c.requires c.in-Err.refusal d.records d.places c.in-Err.ensures.read (search rules) (search rules)
