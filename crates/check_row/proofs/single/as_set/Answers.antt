-- The answer to a SetEmpty or SetUniverse.
use Rattle.std.proofs.Common.{◌≡◌, eqb, true, false, refl, rules}
use Rattle.record.specs.Kinds.{sort_number}
use Rattle.row_rules.specs.declared.Cause.TheVariants.{Count, Misfit}
use Rattle.check_row.proofs.SingleLaws.{kind-read, set-count, set-misfit, set-fits, reads-refused, reads-known}
use Rattle.check_row.proofs.single.as_set.Goals as goal

pub returns-then-args-ne0 : goal.returns-then-args-ne0
returns-then-args-ne0 c =
    reads-refused Count (set-count c.requires.own c.args.args.now.bytes.now c.args.args.now.count c.if-args-ne0.true) refl

pub returns-then-ne : goal.returns-then-ne
returns-then-ne c =
    let a = c.args.args.now in
    let no : eqb (sort_number c.kind.result) 14 ≡ false = search rules in
    reads-refused Misfit (set-misfit c.requires.own a.bytes.now a.count c.if-args-ne0.false (kind-read c.requires.own 14 c.kind.ensures) no) refl

pub returns : goal.returns
returns c =
    let a = c.args.args.now in
    let yes : eqb (sort_number c.kind.result) 14 ≡ true = search rules in
    reads-known c.args.k (set-fits c.requires.own a.bytes.now a.count c.if-args-ne0.false (kind-read c.requires.own 14 c.kind.ensures) yes) c.requires.own.known refl
