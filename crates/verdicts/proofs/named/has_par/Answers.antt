-- The search through the sorts by number.
use Rattle.std.proofs.Common.{◌<◌, refl, arith, rules, tests}
use Rattle.std.proofs.lemmas.Iterator.{cases_from_any, YieldsList-from_range}
use Rattle.verdicts.proofs.NamedLaws.{IsPar, par-in, below-any}
use Rattle.verdicts.proofs.named.has_par.Goals as goal

pub returns : goal.returns
returns c =
    let b = c.args.entries.records.now in
    let p = c.args.entries.places.now in
    let n = c.args.count in
    par-in b p n c.any.result
    (below-any _ _ n c.any.result
    (cases_from_any _ _ c.any.result (λ k. k < n → IsPar b p n k) (λ k. k < n → IsPar b p n k → ⊥) c.any.ensures.ran (YieldsList-from_range 0 n n refl (omega arith))
    (λ x q k l. search (rules, tests)) (λ x q k. (search (rules, tests), λ l. search (rules, tests)))))
