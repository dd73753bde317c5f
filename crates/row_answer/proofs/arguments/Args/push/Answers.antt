-- The number's two bytes are copied behind the others.
use Rattle.std.proofs.Common.{◌∙◌}
use Rattle.row_answer.proofs.ListLaws.{put-written}
use Rattle.row_answer.proofs.arguments.Args.push.Goals as goal

pub returns-clause-bytes : goal.returns-clause-bytes
returns-clause-bytes c = c.copy_at.ensures ∙ put-written c.requires c.to_le_bytes.ensures
