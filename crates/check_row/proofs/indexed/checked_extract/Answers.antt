-- The answer to an Extract.
use Rattle.std.proofs.Common.{◌≡◌, eqb, eqb-true, true, false, rules, refl}
use Rattle.std.proofs.lemmas.Bool.{eqb-false}
use Rattle.record.specs.Kinds.{sort_number}
use Rattle.row_rules.specs.declared.Cause.TheVariants.{Count, Misfit}
use Rattle.row_answer.specs.AnswerLaws.{judged-as}
use Rattle.check_operator.proofs.RowLaws.{refused_row}
use Rattle.check_row.proofs.IndexedLaws.{known-of, extract-order, extract-kind, extract-wide, extract-fits}
use Rattle.check_row.proofs.indexed.checked_extract.Goals as goal

pub returns-then-i-j-clause-answer : goal.returns-then-i-j-clause-answer
returns-then-i-j-clause-answer c = refused_row c.args.store.now Count (extract-order (known-of c.args.store.now c.requires) c.args.i c.args.j c.if-i-j.true) refl

pub returns-then-ne-clause-answer : goal.returns-then-ne-clause-answer
returns-then-ne-clause-answer c =
    let e : eqb (sort_number c.entry-e.result.kind) 9 ≡ false = search rules in
    refused_row c.args.store.now Misfit
    (extract-kind (known-of c.args.store.now c.requires) c.args.i c.args.j c.if-i-j.false c.entry-e.result c.entry-e.ensures (eqb-false (sort_number c.entry-e.result.kind) 9 e)) refl

pub returns-then-e-i-clause-answer : goal.returns-then-e-i-clause-answer
returns-then-e-i-clause-answer c =
    let e : eqb (sort_number c.entry-e.result.kind) 9 ≡ true = search rules in
    refused_row c.args.store.now Count
    (extract-wide (known-of c.args.store.now c.requires) c.args.i c.args.j c.if-i-j.false c.entry-e.result c.entry-e.ensures (eqb-true (sort_number c.entry-e.result.kind) 9 e) c.if-e-i.true) refl

pub returns-clause-answer : goal.returns-clause-answer
returns-clause-answer c =
    let e : eqb (sort_number c.entry-e.result.kind) 9 ≡ true = search rules in
    judged-as
    (extract-fits (known-of c.args.store.now c.requires) c.args.i c.args.j c.if-i-j.false c.entry-e.result c.entry-e.ensures (eqb-true (sort_number c.entry-e.result.kind) 9 e) c.if-e-i.false)
    c.bit_vector.ensures.answer
