-- The fit of a rule on sets, tuples and relations.
use Rattle.std.proofs.Common.{eqb-true, ltb-true}
use Rattle.check_operator.specs.Rule.{Sets}
use Rattle.check_operator.specs.Numbered.{result_number, set_numbers}
use Rattle.check_operator.specs.Contract.{RuleAsks}
use Rattle.check_operator.proofs.SetFits.{alike-asks, singleton-fits, tuple-fits, unit-fits}
use Rattle.check_operator.proofs.sets.fit_sets.Goals as goal

pub fit_alike-requires : goal.fit_alike-requires
fit_alike-requires c = alike-asks c.in-Alike.field-0 (result_number c.in-Alike.result) (rw c.in-Alike.is at c.requires)

pub returns-in-Alike : goal.returns-in-Alike
returns-in-Alike c = rw c.in-Alike.is (c.fit_alike.ensures c.in-Alike.field-0)

pub returns-in-Singleton : goal.returns-in-Singleton
returns-in-Singleton c =
    let f : RuleAsks c.args.entries c.args.args.now (Sets (set_numbers c.args.rule)) = c.requires in
    rw c.in-Singleton.is (λ n o. singleton-fits o (eqb-true c.args.args.now.count 1 (rw c.in-Singleton.is at f.counted)))

pub returns-in-Tuple : goal.returns-in-Tuple
returns-in-Tuple c = rw c.in-Tuple.is (λ n o. tuple-fits o (ltb-true 0 c.args.args.now.count (rw c.in-Tuple.is at c.requires.counted)))

pub returns-in-TupleUnit : goal.returns-in-TupleUnit
returns-in-TupleUnit c = rw c.in-TupleUnit.is (λ n o. unit-fits o)
