-- The fit of a set of pairs, for every count of the store.
use Rattle.std.proofs.Common.{refl, subst, eqb-true, arith}
use Rattle.infer_operator.specs.Relations.{ColumnsHas, ColumnsStand}
use Rattle.check_operator.proofs.SetFits.{closure-not, closure-many, closure-fits, stand}
use Rattle.check_operator.proofs.sets.fit_closure.Goals as goal
use Rattle.check_operator.proofs.sets.fit_closure.Goals.{Else-columns-ne2}

-- The columns that were read stand in the store.
standing : (c : Else-columns-ne2) → ColumnsStand c.args.entries.records.now c.requires.args.many c.in_ok-columns.columns.at c.in_ok-columns.columns.count
standing c =
    let z = c.args.entries in
    let one = eqb-true c.args.args.now.count 1 c.requires.counted in
    stand c.requires.args.over one c.number-k.ensures.value (subst (ColumnsHas z.records.now z.places.now c.number-k.result) c.in_ok-columns.was c.columns_of.ensures)

pub returns-in_err-columns : goal.returns-in_err-columns
returns-in_err-columns c =
    let z = c.args.entries in
    let one = eqb-true c.args.args.now.count 1 c.requires.counted in
    rw c.from_residual.ensures
    (λ n o. closure-not o one c.number-k.ensures.value (subst (ColumnsHas z.records.now z.places.now c.number-k.result) c.in_err-columns.was c.columns_of.ensures))

pub returns-then-columns-ne2 : goal.returns-then-columns-ne2
returns-then-columns-ne2 c =
    let z = c.args.entries in
    let one = eqb-true c.args.args.now.count 1 c.requires.counted in
    λ n o. closure-many o one c.number-k.ensures.value (subst (ColumnsHas z.records.now z.places.now c.number-k.result) c.in_ok-columns.was c.columns_of.ensures) c.if-columns-ne2.true

pub get-first-requires : goal.get-first-requires
get-first-requires c = omega (arith, c.if-columns-ne2.false, (standing (goal.at.get-first-requires c).Else-columns-ne2).within)

pub get-second-requires : goal.get-second-requires
get-second-requires c = omega (arith, c.if-columns-ne2.false, (standing (goal.at.get-second-requires c).Else-columns-ne2).within)

pub returns : goal.returns
returns c =
    let z = c.args.entries in
    let one = eqb-true c.args.args.now.count 1 c.requires.counted in
    λ n o. closure-fits o one c.number-k.ensures.value (subst (ColumnsHas z.records.now z.places.now c.number-k.result) c.in_ok-columns.was c.columns_of.ensures)
    c.if-columns-ne2.false c.get-first.ensures.value c.get-second.ensures.value _ refl c.then_some.ensures
