-- The fit of a set of tuples, for every count of the store.
use Rattle.std.proofs.Common.{subst, eqb-true}
use Rattle.infer_operator.specs.Relations.{ColumnsHas}
use Rattle.check_operator.proofs.SetFits.{transpose-not, transpose-fits}
use Rattle.check_operator.proofs.sets.fit_transpose.Goals as goal

pub returns-in_err-columns_of : goal.returns-in_err-columns_of
returns-in_err-columns_of c =
    let z = c.args.entries in
    let one = eqb-true c.args.args.now.count 1 c.requires.counted in
    rw c.from_residual.ensures
    (λ n o. transpose-not o one c.number.ensures.value (subst (ColumnsHas z.records.now z.places.now c.number.result) c.in_err-columns_of.was c.columns_of.ensures))

pub returns : goal.returns
returns c =
    let z = c.args.entries in
    let one = eqb-true c.args.args.now.count 1 c.requires.counted in
    λ n o. transpose-fits o one c.number.ensures.value (subst (ColumnsHas z.records.now z.places.now c.number.result) c.in_ok-columns_of.was c.columns_of.ensures)
