-- The checked verdict on a record: each kind is its line of the definition, and but an App leaves the tables of names alone.
use Rattle.std.proofs.Common.{ap, refl}
use Rattle.record.specs.Decode.{store_of}
use Rattle.record.specs.Kinds.{term_number}
use Rattle.row_rules.specs.declared.Cause.TheVariants.{NoRank}
use Rattle.row_answer.specs.AnswerLaws.{judged-as}
use Rattle.row_parts.specs.Site.{site_over}
use Rattle.check_operator.proofs.RowLaws.{refused_row}
use Rattle.check_row.proofs.KindLaws.{checked-constant, checked-match, five_kinds, known-args, let-asks, app-is, op-asks, op-is, binder-asks, binder-kind, let-is, index-asks, index-kind, var-inside, var-known, var-is, as-inside, as_asks, as_is}
use Rattle.check_row.proofs.check.Goals as goal

pub returns-in-Integer-clause-answer : goal.returns-in-Integer-clause-answer
returns-in-Integer-clause-answer c =
    let s = c.args.store.now in
    let z = c.args.sheet.now in
    let r = c.args.term in
    record { answer = judged-as (checked-constant (site_over (store_of s.records.now s.places.now s.count) z.bytes.now z.table.now z.starts.now c.args.args.now.bytes.now r) (five_kinds r.kind c.in-Integer.is)) c.checked_constant.ensures.answer; params = refl; images = refl; bound = refl }

pub bounds-sheet-term : goal.bounds-sheet-term
bounds-sheet-term c = var-inside c.requires.site c.requires.count (ap term_number c.in-Var.is)

pub checked_variable-requires : goal.checked_variable-requires
checked_variable-requires c =
    rw c.sorts.ensures.count (var-known c.requires.site c.requires.count (ap term_number c.in-Var.is))

pub returns-in-Var-clause-answer : goal.returns-in-Var-clause-answer
returns-in-Var-clause-answer c =
    let s = c.args.store.now in
    let h = rw (c.sorts.ensures.records, c.sorts.ensures.places, c.sorts.ensures.count) at c.checked_variable.ensures in
    record { answer = judged-as (var-is c.requires.site c.requires.count (ap term_number c.in-Var.is)) (h s.index.now s.used s.good); params = refl; images = refl; bound = refl }

pub returns-in-App-clause-answer : goal.returns-in-App-clause-answer
returns-in-App-clause-answer c =
    let h = c.checked_app.ensures.answer in
    record { answer = judged-as (app-is c.requires.site c.requires.count (ap term_number c.in-App.is)) h.answer; params = h.params; images = h.images; bound = h.bound }

pub checked_operator-requires : goal.checked_operator-requires
checked_operator-requires c = op-asks c.requires.site c.requires.count

pub returns-in-Op-clause-answer : goal.returns-in-Op-clause-answer
returns-in-Op-clause-answer c = record { answer = judged-as (op-is c.requires.site c.requires.count (ap term_number c.in-Op.is)) c.checked_operator.ensures.answer; params = refl; images = refl; bound = refl }

pub checked_binder-requires : goal.checked_binder-requires
checked_binder-requires c = binder-asks c.requires.site c.requires.count (ap term_number c.in-Binder.is)

pub returns-in-Binder-clause-answer : goal.returns-in-Binder-clause-answer
returns-in-Binder-clause-answer c = record { answer = judged-as (binder-kind c.requires.site c.requires.count (ap term_number c.in-Binder.is)) c.checked_binder.ensures.answer; params = refl; images = refl; bound = refl }

pub checked_let-requires : goal.checked_let-requires
checked_let-requires c = rw (c.entries.ensures.records, c.entries.ensures.places) (let-asks c.requires.site c.requires.count)

pub returns-in-Let-clause-answer : goal.returns-in-Let-clause-answer
returns-in-Let-clause-answer c =
    let s = c.args.store.now in
    let h = rw (c.entries.ensures.records, c.entries.ensures.places) at c.checked_let.ensures in
    let known = known-args c.requires.site c.requires.count in
    record { answer = judged-as (let-is c.requires.site c.requires.count (ap term_number c.in-Let.is)) (h s.count known.over s.index.now s.used s.good); params = refl; images = refl; bound = refl }

pub returns-in-Match-clause-answer : goal.returns-in-Match-clause-answer
returns-in-Match-clause-answer c =
    let s = c.args.store.now in
    let z = c.args.sheet.now in
    let r = c.args.term in
    record { answer = refused_row s NoRank (checked-match (site_over (store_of s.records.now s.places.now s.count) z.bytes.now z.table.now z.starts.now c.args.args.now.bytes.now r) (ap term_number c.in-Match.is)) refl; params = refl; images = refl; bound = refl }

pub checked_indexed-requires : goal.checked_indexed-requires
checked_indexed-requires c = index-asks c.requires.site c.requires.count (ap term_number c.in-ParamOp.is)

pub returns-in-ParamOp-clause-answer : goal.returns-in-ParamOp-clause-answer
returns-in-ParamOp-clause-answer c = record { answer = judged-as (index-kind c.requires.site c.requires.count (ap term_number c.in-ParamOp.is)) c.checked_indexed.ensures.answer; params = refl; images = refl; bound = refl }

pub bounds-sheet-term-in-AsOp : goal.bounds-sheet-term-in-AsOp
bounds-sheet-term-in-AsOp c = as-inside c.requires.site c.requires.count (ap term_number c.in-AsOp.is)

pub checked_as-requires : goal.checked_as-requires
checked_as-requires c =
    record {
      args = rw (c.sorts-in-AsOp.ensures.records, c.sorts-in-AsOp.ensures.places, c.sorts-in-AsOp.ensures.count) (known-args c.requires.site c.requires.count);
      own = rw (c.sorts-in-AsOp.ensures.records, c.sorts-in-AsOp.ensures.places, c.sorts-in-AsOp.ensures.count) (as_asks c.requires.site c.requires.count (ap term_number c.in-AsOp.is));
    }

pub returns-in-AsOp-clause-answer : goal.returns-in-AsOp-clause-answer
returns-in-AsOp-clause-answer c =
    let s = c.args.store.now in
    let h = rw (c.sorts-in-AsOp.ensures.records, c.sorts-in-AsOp.ensures.places, c.sorts-in-AsOp.ensures.count) at c.checked_as.ensures in
    record { answer = judged-as (as_is c.requires.site c.requires.count (ap term_number c.in-AsOp.is)) (h s.index.now s.used s.good); params = refl; images = refl; bound = refl }
