-- The fit of an element and its set, for every count of the store.
use Rattle.std.proofs.Common.{refl, subst, eqb-true}
use Rattle.check_operator.specs.SetContract.{ElementHas}
use Rattle.check_operator.proofs.SetFits.{member-not, member-fits}
use Rattle.check_operator.proofs.sets.fit_member.Goals as goal

pub returns-in_err-element : goal.returns-in_err-element
returns-in_err-element c =
    let z = c.args.entries in
    let two = eqb-true c.args.args.now.count 2 c.requires.counted in
    rw c.from_residual.ensures
    (λ n o. member-not o two refl c.number.ensures.value
    (subst (ElementHas z.records.now z.places.now c.number.result) c.in_err-element.was c.element_of.ensures))

pub returns : goal.returns
returns c =
    let z = c.args.entries in
    let two = eqb-true c.args.args.now.count 2 c.requires.counted in
    λ n o. member-fits o two c.number-2.ensures.value c.number.ensures.value
    (subst (ElementHas z.records.now z.places.now c.number.result) c.in_ok-element.was c.element_of.ensures) _ refl c.then_some.ensures
