-- The rule of an operator that stands in one of two ranges that meet.
use Rattle.std.proofs.Common.{rules, tests}
use Rattle.check_operator.proofs.rule.rule_of_vectors_or_sets.Goals as goal

pub returns : goal.returns
returns c = search (rules, tests)
