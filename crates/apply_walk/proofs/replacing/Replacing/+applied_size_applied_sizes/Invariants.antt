-- By the tree size of the sort walked, which falls at every call. The loop keeps: what is summed and what is left make
-- the whole, and the table of sizes says the truth.
use Rattle.std.proofs.Common.{◌+◌, ◌*◌}
use Rattle.record.specs.Number.{numbers_at}
use Rattle.record.specs.Numbers.{numbers_left}
use Rattle.record.specs.Sort.{size, sizes}
use Rattle.record.specs.Record.{sorts_of}
use Rattle.record.specs.Decode.{store_of, sort_at}
use Rattle.apply_walk.proofs.SizeLaws.{WeighInv}
use Rattle.apply_walk.proofs.replacing.Replacing.+applied_size_applied_sizes.Given as goal

abbrev pub decreases-applied_size : goal.decreases-applied_size
decreases-applied_size l = 2 * size (sort_at l.self.now.entries.records.now l.self.now.entries.places.now l.self.now.count l.k)

abbrev pub decreases-applied_sizes : goal.decreases-applied_sizes
decreases-applied_sizes l = 2 * sizes (sorts_of (store_of l.self.now.entries.records.now l.self.now.entries.places.now l.self.now.count) (numbers_at l.self.now.entries.records.now l.parts.at l.parts.count)) + 1

abbrev pub invariant-applied_sizes-loop-k : goal.invariant-applied_sizes-loop-k
invariant-applied_sizes-loop-k l = WeighInv l.self.entries.records.now l.self.entries.places.now l.self.count l.self.used l.self.images.now (numbers_at l.self.entries.records.now l.fn.parts.at l.fn.parts.count) (numbers_left l.k-iterator) l.weighed l.sum
