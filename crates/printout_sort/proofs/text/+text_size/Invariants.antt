-- A text is as long as its pieces: the loop adds up the parts, a blank before each.
-- The measure is the tree size.
use Rattle.record.specs.Numbers.{numbers_left}
use Rattle.record.specs.Sort.{size}
use Rattle.printout_sort.specs.Trees.{tree_at}
use Rattle.printout_sort.specs.TreeLaws.{PartsSizeInv}
use Rattle.printout_sort.proofs.text.+text_size.Given as goal

abbrev pub decreases-text_size : goal.decreases-text_size
decreases-text_size l = size (tree_at l.entries.records.now l.entries.places.now l.k)

abbrev pub invariant-loop-part : goal.invariant-loop-part
invariant-loop-part l =
    PartsSizeInv l.entries.records.now l.entries.places.now (numbers_left l.initial.part-iterator) l.initial.sum l.sum (numbers_left l.part-iterator)
