-- The fit of elements and their set, for every count of the store.
use Rattle.std.proofs.Common.{ℕ, refl, ◌∙◌, rules, tests, ◌≡◌, ◌-◌, ap, subst, ltb-true}
use Rattle.std.proofs.lemmas.Iterator.{cases_from_all}
use Rattle.record.specs.Number.{numbers_at}
use Rattle.record.specs.Numbers.{numbers_left, numbers-yield}
use Rattle.check_operator.specs.SetContract.{ElementHas}
use Rattle.check_operator.proofs.ArgumentLaws.{same_as}
use Rattle.check_operator.proofs.SetFits.{last-below, front-over, insert-not, insert-fits}
use Rattle.check_operator.proofs.sets.fit_insert.Goals as goal

pub returns-in_err-element : goal.returns-in_err-element
returns-in_err-element c =
    let z = c.args.entries in
    let many = ltb-true 1 c.args.args.now.count c.requires.counted in
    rw c.from_residual.ensures
    (λ n o. insert-not o many refl c.number-set.ensures.value
    (subst (ElementHas z.records.now z.places.now c.number-set.result) c.in_err-element.was c.element_of.ensures))

pub returns : goal.returns
returns c =
    let z = c.args.entries in
    let a = c.args.args.now in
    let many = ltb-true 1 a.count c.requires.counted in
    let e = c.in_ok-element.element in
    let has = subst (ElementHas z.records.now z.places.now c.number-set.result) c.in_ok-element.was c.element_of.ensures in
    let left : numbers_left c.numbers.result ≡ numbers_at a.bytes.now 3 (a.count - 1) = c.numbers.ensures ∙ ap (λ (x : ℕ). numbers_at a.bytes.now x (a.count - 1)) c.span.ensures.at in
    let ran =
    cases_from_all c.all-fits.new.self _ _ (λ v. v ≡ e) (λ v. v ≡ e → ⊥)
    c.all-fits.ensures.ran (numbers-yield _ left) (λ x q k. search (rules, tests)) (λ x q k. search (rules, tests)) in
    λ n o. insert-fits o many refl c.number-set.ensures.value has c.all-fits.result
    (same_as z.records.now z.places.now n a.bytes.now (a.count - 1) e (has n o.stored (last-below o many refl c.number-set.ensures.value)).0 c.all-fits.result ran (front-over o many refl c.number-set.ensures.value))
    c.then_some.ensures
