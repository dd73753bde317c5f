-- Yes, no, or a row is written.
-- The laws of an answer say which.
use Rattle.std.proofs.Common.{sym, ◌∙◌}
use Rattle.printout_sort.specs.Wrote.{wrote_as}
use Rattle.printout.specs.LineLaws.{answer-plain, answer-row}
use Rattle.printout.proofs.lines.put_answer.Goals as goal

pub put-requires : goal.put-requires
put-requires c = rw c.no_or_yes.ensures (rw (answer-plain _ _ _ _ c.if-kind.true) at c.requires.room)

pub put_row-requires-clause-room : goal.put_row-requires-clause-room
put_row-requires-clause-room c = rw (answer-row _ _ _ _ c.if-kind.false) at c.requires.room

pub returns-then-kind-clause-put : goal.returns-then-kind-clause-put
returns-then-kind-clause-put c = wrote_as (c.no_or_yes.ensures ∙ sym (answer-plain _ _ _ _ c.if-kind.true)) c.put.ensures.put

pub returns-else-kind-clause-put : goal.returns-else-kind-clause-put
returns-else-kind-clause-put c = wrote_as (sym (answer-row _ _ _ _ c.if-kind.false)) c.put_row.ensures.put
