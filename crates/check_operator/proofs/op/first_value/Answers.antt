-- The first argument, looked at as a list of its own.
use Rattle.check_operator.proofs.ValueLaws.{first_had}
use Rattle.check_operator.proofs.op.first_value.Goals as goal

pub returns : goal.returns
returns c = first_had c.requires.within c.span.ensures.at c.min.ensures c.all_values.ensures
