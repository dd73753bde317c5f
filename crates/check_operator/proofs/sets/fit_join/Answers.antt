-- The fit of two sets of tuples that touch, for every count of the store.
use Rattle.std.proofs.Common.{refl, subst, eqb-true, arith}
use Rattle.infer_operator.specs.Relations.{ColumnsHas}
use Rattle.check_operator.proofs.ArgumentLaws.{arg-below}
use Rattle.check_operator.proofs.SetFits.{left-not, right-not, join-fits, columns-within}
use Rattle.check_operator.proofs.sets.fit_join.Goals as goal

pub returns-in_err-left : goal.returns-in_err-left
returns-in_err-left c =
    let z = c.args.entries in
    let two = eqb-true c.args.args.now.count 2 c.requires.counted in
    rw c.from_residual.ensures
    (λ n o. (left-not o two c.number.ensures.value refl (subst (ColumnsHas z.records.now z.places.now c.number.result) c.in_err-left.was c.columns_of.ensures)).0)

pub columns_of-requires-2 : goal.columns_of-requires-2
columns_of-requires-2 c =
    let two = eqb-true c.args.args.now.count 2 c.requires.counted in
    let o = c.requires.args.over in
    (c.requires.args.many, record { stored = o.stored; known = arg-below o 1 (omega (arith, two)) c.number-2.ensures.value })

pub returns-in_err-right : goal.returns-in_err-right
returns-in_err-right c =
    let z = c.args.entries in
    let two = eqb-true c.args.args.now.count 2 c.requires.counted in
    rw c.from_residual-in_err-right.ensures
    (λ n o. (right-not o two c.number.ensures.value c.number-2.ensures.value (subst (ColumnsHas z.records.now z.places.now c.number-2.result) c.in_err-right.was c.columns_of-2.ensures)).0)

pub touch-requires : goal.touch-requires
touch-requires c =
    let z = c.args.entries in
    let two = eqb-true c.args.args.now.count 2 c.requires.counted in
    let o = c.requires.args.over in
    record {
      left = columns-within o.stored (arg-below o 0 (omega (arith, two)) c.number.ensures.value) (subst (ColumnsHas z.records.now z.places.now c.number.result) c.in_ok-left.was c.columns_of.ensures);
      right = columns-within o.stored (arg-below o 1 (omega (arith, two)) c.number-2.ensures.value) (subst (ColumnsHas z.records.now z.places.now c.number-2.result) c.in_ok-right.was c.columns_of-2.ensures);
    }

pub returns : goal.returns
returns c =
    let z = c.args.entries in
    let two = eqb-true c.args.args.now.count 2 c.requires.counted in
    λ n o. join-fits o two c.number.ensures.value c.number-2.ensures.value
    (subst (ColumnsHas z.records.now z.places.now c.number.result) c.in_ok-left.was c.columns_of.ensures)
    (subst (ColumnsHas z.records.now z.places.now c.number-2.result) c.in_ok-right.was c.columns_of-2.ensures)
    c.touch.result c.touch.ensures c.then_some.ensures
