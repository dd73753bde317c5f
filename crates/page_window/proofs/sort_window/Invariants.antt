-- The walk starts with the frame of the sort, and each step keeps what is left of the text.
-- A step uses up twice the nodes left but for the frames; at the end the window has all, or enough.
use Rattle.std.proofs.Common.{◌≡◌, ◌*◌, ◌-◌, length}
use Rattle.printout_sort.specs.Text.{text}
use Rattle.printout_sort.specs.Trees.{tree_at}
use Rattle.page_window.specs.Walk.{weight}
use Rattle.page_window.specs.WalkLaws.{Walking}
use Rattle.page_window.proofs.sort_window.Given as goal

abbrev pub invariant-loop-entries : goal.invariant-loop-entries
invariant-loop-entries l = (length l.stack ≡ length l.initial.stack) × (length l.out ≡ length l.initial.out) × Walking l.entries.records.now l.entries.places.now l.sizes (text (tree_at l.entries.records.now l.entries.places.now l.k)) l.skip l.want l.stack l.out l.walk

abbrev pub decreases-loop-entries : goal.decreases-loop-entries
decreases-loop-entries l = 2 * weight l.entries.records.now l.entries.places.now l.stack l.walk.depth - l.walk.depth
