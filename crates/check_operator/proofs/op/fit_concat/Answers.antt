-- The fit of two vectors, for every count of the store.
use Rattle.std.proofs.Common.{◌≡◌, ◌&&◌, eqb, eqb-true, ap, ◌∙◌, arith}
use Rattle.record.specs.Decode.{sort_at}
use Rattle.record.specs.Sort.{kind_of}
use Rattle.store.specs.Walk.{entry-asks}
use Rattle.check_operator.proofs.ArgumentLaws.{arg-below}
use Rattle.check_operator.proofs.FitLaws.{fit-over, and_then, and_else, concat-fits, concat-small}
use Rattle.check_operator.proofs.op.fit_concat.Goals as goal
use Rattle.check_operator.proofs.op.fit_concat.Goals.{then-is_kind, else-is_kind}

pub entry-requires-2 : goal.entry-requires-2
entry-requires-2 c =
    let z = c.args.entries in
    let o = c.requires.args.over in
    let two = eqb-true c.args.args.now.count 2 c.requires.counted in
    entry-asks z.records.now z.places.now c.requires.args.many c.number-b.result o.stored (arg-below o 1 (omega (arith, two)) c.number-b.ensures.value)

pub overflow_add-entry : goal.overflow_add-entry
overflow_add-entry c =
    omega (arith, concat-small (fit-over c.requires c.requires.args.over) c.number-a.ensures.value c.number-b.ensures.value c.entry.result c.entry-2.result c.entry.ensures c.entry-2.ensures)

pub returns : goal.returns
returns c =
    let z = c.args.entries in
    let two = eqb-true c.args.args.now.count 2 c.requires.counted in
    let t = c.is_kind.result in
    λ n o. let left = arg-below o 0 (omega arith) c.number-a.ensures.value in
    let right = arg-below o 1 (omega arith) c.number-b.ensures.value in
    let x = eqb (kind_of (sort_at z.records.now z.places.now n c.number-b.result)) 9 in
    let h : c.if-is_kind.fits ≡ (t && x) =
    elim c.if-is_kind.branch [ then-is_kind w ↦ and_then t x w.if-is_kind.true (w.fits-is ∙ w.is_kind-fits.ensures n o.stored right) | else-is_kind w ↦ and_else t x w.if-is_kind.false w.fits-is ] in
    concat-fits (fit-over c.requires o) c.number-a.ensures.value c.number-b.ensures.value c.entry.result c.entry-2.result c.entry.ensures c.entry-2.ensures
    c.if-is_kind.fits (h ∙ ap (◌&& x) (c.is_kind.ensures n o.stored left)) c.then_some.result c.then_some.ensures
