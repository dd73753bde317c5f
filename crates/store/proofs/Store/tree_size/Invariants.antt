-- The tree size of the record's sort.
-- The loop keeps: the sum so far and the sizes of the references that are left make the whole.
use Rattle.record.specs.Numbers.{numbers_left}
use Rattle.store.specs.Words.{store_in}
use Rattle.store.proofs.EntryLaws.{SumInv}
use Rattle.store.proofs.Store.tree_size.Given as goal

abbrev pub invariant-loop-k : goal.invariant-loop-k
invariant-loop-k l = SumInv (store_in l.self) l.self.count (numbers_left l.initial.k-iterator) l.sum (numbers_left l.k-iterator)
