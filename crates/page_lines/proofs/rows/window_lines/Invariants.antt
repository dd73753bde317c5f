-- The lines written so far are those of the windows, and both windows are as many pieces further.
-- A line has 81 bytes, so there is room for each.
use Prim.Native.Nat.{◌*◌}
use mathlib.Core.Path.{◌≡◌}
use Rattle.printout_sort.specs.Buffer.{Same, Puts}
use Rattle.printout.specs.Whole.{lines_from}
use Rattle.page_lines.specs.Rows.{window_line}
use lib.ListN.{drop}
use Rattle.page_lines.proofs.rows.window_lines.Given as goal

abbrev pub invariant-loop-done : goal.invariant-loop-done
invariant-loop-done l =
    Same l.initial.out l.out
    × Puts l.initial.out (lines_from (window_line l.from.row l.from.line l.first l.second) 0 l.done) l.out
    × (l.one ≡ drop (36 * l.done) l.first)
    × (l.two ≡ drop (36 * l.done) l.second)
