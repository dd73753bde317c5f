-- What `infer` gives is the row of the inferred column.
use Rattle.row_memo.proofs.RowLaws.{by-inferred}
use Rattle.row_memo.proofs.InferredJudge.judge.Goals as goal

pub returns-clause-row : goal.returns-clause-row
returns-clause-row c = by-inferred c.infer.ensures.answer
