-- The inferred row, then the checked one over the store after it, are the definition's.
-- Both are read off the rows before them, and written behind those; what they note stays true.
use Rattle.std.proofs.Common.{arith}
use Rattle.row_answer.specs.Answer.{answer}
use Rattle.row_answer.specs.AnswerLaws.{answer-code}
use Rattle.row_table.proofs.PastRows.{checked-asks, rows_written}
use Rattle.row_table.proofs.TableLaws.{first-judged}
use Rattle.row_table.proofs.rows_of.Goals as goal

pub guess_at-place-requires : goal.guess_at-place-requires
guess_at-place-requires c = first-judged c.requires.asked

pub row-checked-requires : goal.row-checked-requires
row-checked-requires c = checked-asks c.requires.asked c.row-inferred.ensures.row c.row-inferred.new.args.bytes.now (omega (arith, c.row-inferred.ensures.args.1, c.requires.room))

pub code-requires : goal.code-requires
code-requires c = answer-code _ _ _ _ _ _ _ (answer c.row-inferred.new.store c.row-inferred.result) c.row-inferred.ensures.row.row.answer

pub code-requires-2 : goal.code-requires-2
code-requires-2 c = answer-code _ _ _ _ _ _ _ (answer c.row-checked.new.store c.row-checked.result) c.row-checked.ensures.row.row.answer

pub returns-clause-rows : goal.returns-clause-rows
returns-clause-rows c = rows_written c.requires.asked c.row-inferred.ensures.row c.row-checked.ensures.row c.code.ensures c.code-2.ensures
