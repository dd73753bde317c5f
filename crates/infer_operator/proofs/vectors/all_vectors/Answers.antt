-- Whether all of the sorts are vectors: what the chain says of their numbers, of whatever store they are.
use Rattle.std.proofs.Common.{true, false, refl, sym, ap, ◌∙◌, rules, tests}
use Rattle.std.proofs.lemmas.Iterator.{cases_from_all}
use Rattle.record.specs.Numbers.{numbers_left, numbers-yield}
use Rattle.substitution.specs.MatchWith.{is_bit_vec}
use Rattle.infer_operator.specs.Vectors.{unknown_by}
use Rattle.infer_operator.proofs.WalkLaws.{Tested, all-tested, unknown-all}
use Rattle.infer_operator.proofs.vectors.all_vectors.Goals as goal

pub returns : goal.returns
returns c =
    let z = c.args.entries in
    let ks = numbers_left c.args.numbers in
    let Vector = Tested z.records.now z.places.now is_bit_vec in
    let ran = cases_from_all c.all.new.self _ c.all.result (Vector true) (Vector false) c.all.ensures.ran (numbers-yield {n = c.args.numbers} ks refl) (λ x q k. search (rules, tests)) (λ x q k. search (rules, tests)) in
    λ n h. unknown-all z.records.now z.places.now n ks ∙ ap unknown_by (sym (all-tested z.records.now z.places.now is_bit_vec c.all.result ran n h))
