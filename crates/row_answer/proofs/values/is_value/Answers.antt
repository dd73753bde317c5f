-- The kind of the sort decides.
use Rattle.std.proofs.Common.{rules, tests}
use Rattle.row_answer.proofs.ValueLaws.{valued-by}
use Rattle.row_answer.proofs.values.is_value.Goals as goal

pub returns : goal.returns
returns c = valued-by c.kind.ensures c.ne.result (λ e z. search (rules, tests)) (λ e. search (rules, tests))
