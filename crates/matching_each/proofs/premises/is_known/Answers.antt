-- The walk, by the law of its test.
use Rattle.std.proofs.Common.{rules, []}
use Rattle.matching_tables.specs.Words.{one-in}
use Rattle.matching_each.specs.EveryLaws.{known-tests, found-by}
use Rattle.matching_each.proofs.premises.is_known.Goals as goal

pub each-requires : goal.each-requires
each-requires c = record { one = one-in c.args.sorts.now c.requires.0; asked = λ r k one h. search rules }

pub returns : goal.returns
returns c = found-by (known-tests [] []) (λ r k q one h s. search rules) c.requires.1 c.args.k c.each.ensures
