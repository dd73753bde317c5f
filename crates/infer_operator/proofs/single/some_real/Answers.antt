-- Whether one of the sorts is Real: what the chain says of their numbers, of whatever store they are.
use Rattle.std.proofs.Common.{true, false, refl, sym, ◌∙◌, rules, tests}
use Rattle.std.proofs.lemmas.Iterator.{cases_from_any}
use Rattle.record.specs.Numbers.{numbers_left, numbers-yield}
use Rattle.record.specs.Sort.{same, real}
use Rattle.infer_operator.proofs.SingleLaws.{some-any}
use Rattle.infer_operator.proofs.WalkLaws.{Tested, any-tested}
use Rattle.infer_operator.proofs.single.some_real.Goals as goal

pub returns : goal.returns
returns c =
    let z = c.args.entries in
    let ks = numbers_left c.args.numbers in
    let Real = Tested z.records.now z.places.now (λ s. same s real) in
    let ran = cases_from_any c.any.new.self _ c.any.result (Real true) (Real false) c.any.ensures.ran (numbers-yield {n = c.args.numbers} ks refl) (λ x q k. search (rules, tests)) (λ x q k. search (rules, tests)) in
    λ n h. some-any z.records.now z.places.now n ks ∙ sym (any-tested z.records.now z.places.now (λ s. same s real) c.any.result ran n h)
