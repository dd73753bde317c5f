-- The head's three bytes are copied before the numbers.
use Rattle.std.proofs.Common.{◌∙◌, arith, rules}
use Rattle.row_answer.proofs.ListLaws.{head-written}
use Rattle.row_answer.proofs.arguments.Args.put_head.Goals as goal

pub returns-clause-bytes : goal.returns-clause-bytes
returns-clause-bytes c = c.copy_at.ensures ∙ head-written c.args.self.now.bytes.now 17 c.args.self.now.count (omega arith) (search rules)
