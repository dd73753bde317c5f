-- The lines of the rows passed and the lines still to go are the number asked for.
-- A row that is higher than what is to go has the line.
use Prim.Native.Nat.{◌+◌}
use mathlib.Core.Path.{◌≡◌}
use Rattle.page.specs.Numbered.{above}
use Rattle.page_lines.specs.Heights.{height_in}
use Rattle.page_lines.proofs.heights.find_row.Given as goal

abbrev pub invariant-loop-row : goal.invariant-loop-row
invariant-loop-row l = l.from ≡ above (height_in l.page.sizes.now l.page.rows.now) l.row + l.line
