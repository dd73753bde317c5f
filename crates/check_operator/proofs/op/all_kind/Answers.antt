-- Whether every argument is of the kind, for every count of the store.
use Rattle.std.proofs.Common.{rules, tests, true, false}
use Rattle.std.proofs.lemmas.Iterator.{cases_from_all}
use Rattle.std.proofs.lemmas.Iterator.Adapters.{serves_from_places}
use Rattle.record.specs.Kinds.{sort_number}
use Rattle.record.specs.Numbers.{numbers-yield}
use Rattle.row_answer.specs.Heads.{HeadAsks}
use Rattle.check_operator.specs.Contract.{KindIs}
use Rattle.check_operator.proofs.ArgumentLaws.{arg_known, kinds_by}
use Rattle.check_operator.proofs.op.all_kind.Goals as goal

pub all-requires-clause-callable : goal.all-requires-clause-callable
all-requires-clause-callable c =
    let z = c.args.entries in
    let f = c.requires in
    serves_from_places (numbers-yield _ c.numbers.ensures) (λ x q k. search rules)
    (λ x k l e. let h : HeadAsks z.records.now z.places.now x = (f.many, record { stored = f.over.stored; known = arg_known f.over x k l e }) in search rules)

pub returns : goal.returns
returns c =
    let z = c.args.entries in
    let a = c.args.args.now in
    let i = sort_number c.args.kind in
    let ran =
    cases_from_all c.all.new.self _ c.all.result (λ v. KindIs z.records.now z.places.now v i true) (λ v. KindIs z.records.now z.places.now v i false)
    c.all.ensures.ran (numbers-yield _ c.numbers.ensures) (λ x q k. search (rules, tests)) (λ x q k. search (rules, tests)) in
    λ n o. kinds_by z.records.now z.places.now n a.bytes.now a.count o i c.all.result ran
