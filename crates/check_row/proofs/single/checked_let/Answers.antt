-- The answer to a Let: the inner term is the last of the list.
use Rattle.std.proofs.Common.{refl}
use Rattle.row_rules.specs.declared.Cause.TheVariants.{Count, Misfit}
use Rattle.row_answer.specs.Values.{ValuesHave}
use Rattle.check_row.proofs.SingleLaws.{let-over, letting-few, letting-par, letting-inner, inner-known, reads-refused, reads-known}
use Rattle.check_row.proofs.single.checked_let.Goals as goal

pub returns-then-args-lt2 : goal.returns-then-args-lt2
returns-then-args-lt2 c = λ n o. reads-refused Count (letting-few (let-over c.requires o) c.if-args-lt2.true) refl

pub returns-then-not-all_values : goal.returns-then-not-all_values
returns-then-not-all_values c =
    let z = c.args.entries in
    let a = c.args.args.now in
    let v : ValuesHave z.records.now z.places.now a.bytes.now 3 a.count c.all_values.result = rw (c.span.ensures.at, c.span.ensures.count) at c.all_values.ensures in
    λ n o. reads-refused Misfit (letting-par (let-over c.requires o) c.if-args-lt2.false c.all_values.result v c.if-not-all_values.true) refl

pub returns : goal.returns
returns c =
    let z = c.args.entries in
    let a = c.args.args.now in
    let v : ValuesHave z.records.now z.places.now a.bytes.now 3 a.count c.all_values.result = rw (c.span.ensures.at, c.span.ensures.count) at c.all_values.ensures in
    λ n o. let f = let-over c.requires o in
    reads-known c.number.result (letting-inner f c.if-args-lt2.false c.all_values.result v c.if-not-all_values.false c.number.ensures.value)
    (inner-known f c.if-args-lt2.false c.all_values.result v c.number.ensures.value) refl
