-- Whether every argument is the first one.
use Rattle.std.proofs.Common.{rules, tests, ◌≡◌, ◌<◌, arith}
use Rattle.std.proofs.lemmas.Iterator.{cases_from_all}
use Rattle.std.proofs.lemmas.Iterator.Adapters.{serves_from_places}
use Rattle.record.specs.Codec.{length-numbers_at}
use Rattle.record.specs.Numbers.{numbers-yield}
use Rattle.check_operator.specs.Contract.{arg_at}
use Rattle.check_operator.proofs.ArgumentLaws.{same_all_by}
use Rattle.check_operator.proofs.op.all_same.Goals as goal

pub all-requires-clause-callable : goal.all-requires-clause-callable
all-requires-clause-callable c =
    let a = c.args.args.now in
    serves_from_places (numbers-yield _ c.numbers.ensures) (λ x q k. search rules)
    (λ x k l e. let h : 0 < a.count = omega (arith, length-numbers_at a.bytes.now 3 a.count) in search rules)

pub returns : goal.returns
returns c b p n o =
    let a = c.args.args.now in
    same_all_by b p n a.bytes.now a.count c.all.result
    (cases_from_all c.all.new.self _ _ (λ v. v ≡ arg_at a.bytes.now 0) (λ v. v ≡ arg_at a.bytes.now 0 → ⊥)
    c.all.ensures.ran (numbers-yield _ c.numbers.ensures) (λ x q k. search (rules, tests)) (λ x q k. search (rules, tests))) o
