-- The answer to an (as const).
use Rattle.std.proofs.Common.{◌≡◌, eqb, true, false, arith, refl, rules}
use Rattle.record.specs.Kinds.{sort_number}
use Rattle.row_rules.specs.declared.Cause.TheVariants.{Count, Misfit}
use Rattle.check_row.proofs.SingleLaws.{kind-read, const-count, const-kind, element_place, const-misfit, const-fits, reads-refused, reads-known}
use Rattle.check_row.proofs.single.as_const.Goals as goal

pub returns-then-args-ne1 : goal.returns-then-args-ne1
returns-then-args-ne1 c =
    reads-refused Count (const-count c.requires.args c.requires.own c.if-args-ne1.true) refl

pub returns-then-ne : goal.returns-then-ne
returns-then-ne c =
    let no : eqb (sort_number c.kind.result) 8 ≡ false = search rules in
    reads-refused Misfit (const-kind c.requires.args c.requires.own c.if-args-ne1.false (kind-read c.requires.own 8 c.kind.ensures) no) refl

pub get-element-requires : goal.get-element-requires
get-element-requires c =
    let array : eqb (sort_number c.kind.result) 8 ≡ true = search rules in
    omega (
      arith,
      element_place c.requires.args c.requires.own c.if-args-ne1.false (kind-read c.requires.own 8 c.kind.ensures) array c.entry.result c.entry.ensures,
    )

pub returns-then-number-element : goal.returns-then-number-element
returns-then-number-element c =
    let array : eqb (sort_number c.kind.result) 8 ≡ true = search rules in
    reads-refused Misfit
    (const-misfit c.requires.args c.requires.own c.if-args-ne1.false (kind-read c.requires.own 8 c.kind.ensures)
    array c.entry.result c.entry.ensures c.get-element.ensures.value c.number.ensures.value c.if-number-element.true) refl

pub returns : goal.returns
returns c =
    let array : eqb (sort_number c.kind.result) 8 ≡ true = search rules in
    reads-known c.args.k
    (const-fits c.requires.args c.requires.own c.if-args-ne1.false (kind-read c.requires.own 8 c.kind.ensures)
    array c.entry.result c.entry.ensures c.get-element.ensures.value c.number.ensures.value c.if-number-element.false) c.requires.own.known refl
