-- The fit of a list of kinds, for every count of the store.
use Rattle.std.proofs.Common.{rules, tests, ap, ◌∙◌, true, false}
use Rattle.std.proofs.lemmas.Iterator.{YieldsList-from_slice, YieldsList-from_zip, cases_from_all}
use Rattle.std.proofs.lemmas.Iterator.Adapters.{serves_from_places}
use Rattle.record.specs.Numbers.{numbers_left, numbers-yield}
use Rattle.row_answer.specs.Heads.{HeadAsks}
use Rattle.check_operator.proofs.ArgumentLaws.{OfKind, zip_known, fixed_by}
use Rattle.check_operator.proofs.FitLaws.{fit-over, fixed-many, fixed-kinds, fixed-fits}
use Rattle.check_operator.proofs.op.fit_fixed.Goals as goal

pub all-fits-requires-clause-callable : goal.all-fits-requires-clause-callable
all-fits-requires-clause-callable c =
    let z = c.args.entries in
    let g = c.requires.args in
    let ks = c.args.kinds.now in
    let road = YieldsList-from_zip (numbers-yield {n = c.zip-pairs.result.a} _ (ap numbers_left c.zip-pairs.ensures.first ∙ c.numbers.ensures)) (YieldsList-from_slice {s = c.zip-pairs.result.b} ks c.zip-pairs.ensures.second.0) in
    serves_from_places road (λ x q k. search rules)
    (λ x k l e.
    let h : HeadAsks z.records.now z.places.now x.0 = (g.many, record { stored = g.over.stored; known = zip_known g.over ks (fixed-many ks c.args.res (fit-over c.requires g.over)) (x.0, x.1.now) k l e }) in search rules)

pub returns : goal.returns
returns c =
    let b = c.args.entries.records.now in
    let p = c.args.entries.places.now in
    let ks = c.args.kinds.now in
    let r = c.args.res in
    let road = YieldsList-from_zip (numbers-yield {n = c.zip-pairs.result.a} _ (ap numbers_left c.zip-pairs.ensures.first ∙ c.numbers.ensures)) (YieldsList-from_slice {s = c.zip-pairs.result.b} ks c.zip-pairs.ensures.second.0) in
    let ran = cases_from_all c.all-fits.new.self _ c.all-fits.result (λ x. OfKind b p x true) (λ x. OfKind b p x false) c.all-fits.ensures.ran road (λ x q k. search (rules, tests)) (λ x q k. search (rules, tests)) in
    λ n o. let f = fit-over c.requires o in
    fixed-fits ks r f c.all-fits.result (fixed_by o ks (fixed-many ks r f) (fixed-kinds ks r f) c.all-fits.result ran) c.then_some.ensures
