-- The verdict on a record, by its kind, once its arguments are gathered: the arms pass on what the functions on them promise.
use Rattle.std.proofs.Common.{rules, ap}
use Rattle.record.specs.Kinds.{term_number}
use Rattle.infer_row.proofs.RowLaws.{composed-asks, plain-asks, site-is, app-is}
use Rattle.infer_row.proofs.infer.Goals as goal

pub returns-in-App-clause-answer : goal.returns-in-App-clause-answer
returns-in-App-clause-answer c = app-is (ap term_number c.in-App.is) c.requires.count c.inferred_app.ensures.answer

pub inferred_composed-requires : goal.inferred_composed-requires
inferred_composed-requires c = composed-asks c.requires (search rules) (search rules)

pub inferred_plain-requires : goal.inferred_plain-requires
inferred_plain-requires c = plain-asks c.requires (search rules)

pub returns-in_default-clause-answer : goal.returns-in_default-clause-answer
returns-in_default-clause-answer c =
    let z = c.args.sheet.now in
    site-is (c.inferred_plain.ensures.answer z.bytes.now z.starts.now c.args.args.now.bytes.now)
