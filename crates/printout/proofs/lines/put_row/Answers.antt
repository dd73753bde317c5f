-- A row is the text of its sort, or the number of its refusal behind a mark.
-- Each is written by the function for it.
use Rattle.std.proofs.Common.{sym}
use Rattle.printout_sort.specs.Wrote.{wrote_as}
use Rattle.printout.specs.LineLaws.{row-sort, row-text-refused}
use Rattle.printout.proofs.lines.put_row.Goals as goal

pub put_sort-requires-clause-room : goal.put_sort-requires-clause-room
put_sort-requires-clause-room c = rw c.in-Ok.ensures.sort.0 (rw (row-sort _ _ _ c.in-Ok.ensures.sort.1) at c.requires.room)

pub put_refusal-requires : goal.put_refusal-requires
put_refusal-requires c = rw c.in-Err.ensures.refusal.0 (rw (row-text-refused _ _ _ c.in-Err.ensures.refusal.1) at c.requires.room)

pub returns-in-Ok-clause-put : goal.returns-in-Ok-clause-put
returns-in-Ok-clause-put c = wrote_as (sym (row-sort _ _ _ c.in-Ok.ensures.sort.1)) (rw c.in-Ok.ensures.sort.0 at c.put_sort.ensures.put)

pub returns-in-Err-clause-put : goal.returns-in-Err-clause-put
returns-in-Err-clause-put c = wrote_as (sym (row-text-refused _ _ _ c.in-Err.ensures.refusal.1)) (rw c.in-Err.ensures.refusal.0 at c.put_refusal.ensures.put)
