-- By the number of the sort, which falls at every call. The loop keeps: what is listed so far, and what is left to be listed,
-- make the whole.
use Rattle.record.specs.Numbers.{numbers_left}
use Rattle.apply.proofs.OrderLaws.{OrderInv}
use Rattle.apply.proofs.deep.Order.+add.Given as goal

abbrev pub decreases-add : goal.decreases-add
decreases-add l = l.k

abbrev pub invariant-loop-part : goal.invariant-loop-part
invariant-loop-part l = OrderInv l.entries.records.now l.entries.places.now l.initial.self.seen l.initial.self.list.items l.count l.k l.self.seen l.self.list.items (numbers_left l.part-iterator)
