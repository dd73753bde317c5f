-- The lines up to the next one are written; a step writes some lines of its row, or there is no room for one.
-- Each step comes nearer to the end of all rows.
use Prim.Native.Nat.{◌-◌}
use Rattle.printout_sort.specs.Buffer.{Same}
use Rattle.page.specs.Numbered.{above}
use Rattle.page_lines.specs.Heights.{height_in}
use Rattle.page_lines.specs.Rows.{number_of, Going}
use Rattle.page_lines.proofs.rows.put_rows.Given as goal

abbrev pub invariant-loop-at : goal.invariant-loop-at
invariant-loop-at l =
    Same l.initial.out l.out
    × Going l.page.entries.records.now l.page.entries.places.now l.page.sizes.now l.page.rows.now l.page.terms l.initial.at.row l.initial.at.line l.initial.out.bytes.now l.at.row l.at.line l.out.bytes.now l.out.end

abbrev pub decreases-loop-at : goal.decreases-loop-at
decreases-loop-at l = above (height_in l.page.sizes.now l.page.rows.now) l.page.terms - number_of l.page.sizes.now l.page.rows.now l.at.row l.at.line
