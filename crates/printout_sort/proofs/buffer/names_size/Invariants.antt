-- The length of the names.
-- The loop keeps: what is counted and what is left make the whole.
use Rattle.record.specs.Number.{numbers_at}
use Rattle.record.specs.Numbers.{numbers_left}
use Rattle.printout_sort.specs.NameLaws.{NamesSizeInv}
use Rattle.printout_sort.proofs.buffer.names_size.Given as goal

abbrev pub invariant-loop-name : goal.invariant-loop-name
invariant-loop-name l = NamesSizeInv (numbers_at l.records l.fn.names.at l.fn.names.count) l.sum (numbers_left l.name-iterator)
