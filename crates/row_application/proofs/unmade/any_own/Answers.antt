-- Each bound name has an image.
-- One of them is its own variable, or none.
use Rattle.std.proofs.Common.{◌≡◌, ◌<◌, true, false, arith, rules, take, get_or}
use Rattle.std.proofs.lemmas.Iterator.{cases_from_any, YieldsList-from_slice}
use Rattle.std.proofs.lemmas.Iterator.Adapters.{serves_from_places}
use Rattle.row_application.specs.Contract.{own_of}
use Rattle.row_application.proofs.AnyLaws.{first-turn, first-any}
use Rattle.row_application.proofs.UnmadeLaws.{own-any}
use Rattle.row_application.proofs.unmade.any_own.Goals as goal

pub any-requires-clause-callable : goal.any-requires-clause-callable
any-requires-clause-callable c =
    let x = c.args.names.now in
    let d = x.bound.now in
    serves_from_places (YieldsList-from_slice (take x.many d) c.iter.ensures.rest) (λ v q k. search rules)
    (λ v k l e.
    let t = c.requires.mapped.tabled in
    let o = first-turn d x.many v.now k (omega (arith, t.few, t.order)) l e in
    let h : 0 < get_or x.images.now v.now 0 = rw o.1 (t.known k o.0) in
    search rules)

pub returns : goal.returns
returns c =
    let s = c.args.sorts.now in
    let x = c.args.names.now in
    let b = s.records.now in
    let p = s.places.now in
    let t = c.requires.mapped.tabled in
    let own = own_of b p s.count x.images.now in
    own-any b p s.count x.images.now x.bound.now x.many c.any.result
    (first-any (λ v. own v ≡ true) (λ v. own v ≡ false) x.bound.now x.many (omega (arith, t.few, t.order)) c.any.result
    (cases_from_any _ _ c.any.result (λ v. own v ≡ true) (λ v. own v ≡ false) c.any.ensures.ran (YieldsList-from_slice (take x.many x.bound.now) c.iter.ensures.rest)
    (λ v q k. search rules) (λ v q k. search rules)))
