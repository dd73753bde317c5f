-- The fit of a rule, by its cases.
use Rattle.std.proofs.Common.{subst}
use Rattle.check_operator.specs.declared.rule.Rule.{Rule}
use Rattle.check_operator.specs.Numbered.{result_number, rule_numbers}
use Rattle.check_operator.specs.Contract.{RuleAsks}
use Rattle.check_operator.proofs.OperatedLaws.{numbers_asks, vectors_asks}
use Rattle.check_operator.proofs.op.fit_rule.Goals as goal

pub fit_numbers-requires : goal.fit_numbers-requires
fit_numbers-requires c =
    let z = c.args.entries in
    let a = c.args.args.now in
    numbers_asks z.records.now z.places.now a.bytes.now a.count c.in-Numbers.field-0 (result_number c.in-Numbers.result)
    (subst (λ (r : Rule). RuleAsks z a (rule_numbers r)) c.in-Numbers.is c.requires)

pub fit_vectors-requires : goal.fit_vectors-requires
fit_vectors-requires c =
    let z = c.args.entries in
    let a = c.args.args.now in
    vectors_asks z.records.now z.places.now a.bytes.now a.count c.in-Vectors.field-0 c.in-Vectors.result
    (subst (λ (r : Rule). RuleAsks z a (rule_numbers r)) c.in-Vectors.is c.requires)
