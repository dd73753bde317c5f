-- The record that stands there is read again, and its rows are those of the sheet's term.
use Rattle.row_table.proofs.TableLaws.{stands_here, before_here, again-read, both-asks, turn_is}
use Rattle.row_table.proofs.term_rows.Goals as goal

pub term_again-term-requires : goal.term_again-term-requires
term_again-term-requires c = before_here c.requires.asked

pub rows_of-requires-clause-asked : goal.rows_of-requires-clause-asked
rows_of-requires-clause-asked c = let o = stands_here c.requires.asked in both-asks c.requires.asked c.term_again-term.result o.next (again-read c.requires.asked c.term_again-term.ensures)

pub returns-clause-rows : goal.returns-clause-rows
returns-clause-rows c = let o = stands_here c.requires.asked in turn_is c.requires.asked c.term_again-term.result o.next (again-read c.requires.asked c.term_again-term.ensures) c.rows_of.ensures.rows
