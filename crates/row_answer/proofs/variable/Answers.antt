-- The answer to the variable.
-- Its record is written out, the name in two bytes.
use Rattle.std.proofs.Common.{sym, ap}
use Rattle.record.specs.Decode.{store_of}
use Rattle.row_rules.specs.Verdict.{sort}
use Rattle.row_answer.specs.AnswerLaws.{judged-as}
use Rattle.row_answer.specs.Records.{var-fresh, var-sort}
use Rattle.row_answer.proofs.MakeLaws.{two-bytes}
use Rattle.row_answer.proofs.variable.Goals as goal

pub make-requires : goal.make-requires
make-requires c =
    let e = two-bytes c.args.name c.requires.small c.to_le_bytes.ensures in
    rw (e.0, e.1) (record { good = c.requires.good; fresh = var-fresh c.args.name c.requires.small c.args.store.now.count })

pub returns-clause-answer : goal.returns-clause-answer
returns-clause-answer c =
    let s = c.args.store.now in
    let e = two-bytes c.args.name c.requires.small c.to_le_bytes.ensures in
    let made = rw (e.0, e.1) at c.make.ensures.answer in
    judged-as (ap sort (sym (var-sort c.args.name c.requires.small (store_of s.records.now s.places.now s.count)))) made
