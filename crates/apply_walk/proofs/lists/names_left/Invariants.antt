-- The loop keeps: the names of out with those kept so far behind them, and those kept of what is left, make the whole.
use Rattle.std.proofs.Common.{◌≡◌, ◌≤◌, ◌++◌, take, length}
use Rattle.record.specs.Number.{numbers_at}
use Rattle.record.specs.Numbers.{numbers_left}
use Rattle.apply_walk.proofs.ListLaws.{NamesInv}
use Rattle.apply_walk.proofs.lists.names_left.Given as goal

abbrev pub invariant-loop-v : goal.invariant-loop-v
invariant-loop-v l = NamesInv l.images (numbers_at l.bytes l.fn.span.at l.fn.span.count) (numbers_left l.v-iterator) l.out.items (l.out.items ++ take l.kept l.names) × (l.kept ≤ 64) × (length l.names ≡ 64)
