-- The fit of two sets of tuples, for every count of the store.
use Rattle.std.proofs.Common.{refl, subst, eqb-true, arith}
use Rattle.infer_operator.specs.Relations.{ColumnsHas}
use Rattle.check_operator.proofs.ArgumentLaws.{arg-below}
use Rattle.check_operator.proofs.SetFits.{left-not, right-not, product-fits}
use Rattle.check_operator.proofs.sets.fit_product.Goals as goal

pub returns-in_err-columns_of : goal.returns-in_err-columns_of
returns-in_err-columns_of c =
    let z = c.args.entries in
    let two = eqb-true c.args.args.now.count 2 c.requires.counted in
    rw c.from_residual.ensures
    (λ n o. (left-not o two c.number.ensures.value refl (subst (ColumnsHas z.records.now z.places.now c.number.result) c.in_err-columns_of.was c.columns_of.ensures)).1)

pub columns_of-requires-2 : goal.columns_of-requires-2
columns_of-requires-2 c =
    let two = eqb-true c.args.args.now.count 2 c.requires.counted in
    let o = c.requires.args.over in
    (c.requires.args.many, record { stored = o.stored; known = arg-below o 1 (omega (arith, two)) c.number-2.ensures.value })

pub returns-in_err-columns_of-2 : goal.returns-in_err-columns_of-2
returns-in_err-columns_of-2 c =
    let z = c.args.entries in
    let two = eqb-true c.args.args.now.count 2 c.requires.counted in
    rw c.from_residual-in_err-columns_of-2.ensures
    (λ n o. (right-not o two c.number.ensures.value c.number-2.ensures.value (subst (ColumnsHas z.records.now z.places.now c.number-2.result) c.in_err-columns_of-2.was c.columns_of-2.ensures)).1)

pub returns : goal.returns
returns c =
    let z = c.args.entries in
    let two = eqb-true c.args.args.now.count 2 c.requires.counted in
    λ n o. product-fits o two c.number.ensures.value c.number-2.ensures.value
    (subst (ColumnsHas z.records.now z.places.now c.number.result) c.in_ok-columns_of.was c.columns_of.ensures)
    (subst (ColumnsHas z.records.now z.places.now c.number-2.result) c.in_ok-columns_of-2.was c.columns_of-2.ensures)
