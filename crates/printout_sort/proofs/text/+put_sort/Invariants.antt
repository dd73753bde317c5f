-- A text is its pieces one after the other; the loop writes the parts, a blank before each.
-- The measure is the tree size.
use Rattle.std.proofs.Common.{◌≡◌}
use Rattle.record.specs.Numbers.{numbers_left}
use Rattle.record.specs.Sort.{size}
use Rattle.printout_sort.specs.Text.{texts}
use Rattle.printout_sort.specs.Trees.{tree_at, trees_at}
use Rattle.printout_sort.specs.TreeLaws.{PartsLeft}
use Rattle.printout_sort.specs.Wrote.{TextLeft}
use Rattle.printout_sort.proofs.text.+put_sort.Given as goal

abbrev pub decreases-put_sort : goal.decreases-put_sort
decreases-put_sort l = size (tree_at l.entries.records.now l.entries.places.now l.k)

abbrev pub invariant-loop-part : goal.invariant-loop-part
invariant-loop-part l =
    PartsLeft l.entries.records.now l.entries.places.now (numbers_left l.initial.part-iterator) (numbers_left l.part-iterator)
    × TextLeft l.initial.out.bytes.now l.initial.out.end (texts (trees_at l.entries.records.now l.entries.places.now (numbers_left l.initial.part-iterator))) l.out.bytes.now
    l.out.end (texts (trees_at l.entries.records.now l.entries.places.now (numbers_left l.part-iterator)))
    × (l.out.bytes.ghost_name ≡ l.initial.out.bytes.ghost_name)
