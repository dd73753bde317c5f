-- The loop keeps: the names counted so far and those counted of what is left make the whole.
use Rattle.record.specs.Number.{numbers_at}
use Rattle.record.specs.Numbers.{numbers_left}
use Rattle.apply_walk.proofs.ListLaws.{CountInv}
use Rattle.apply_walk.proofs.lists.names_kept.Given as goal

abbrev pub invariant-loop-v : goal.invariant-loop-v
invariant-loop-v l = CountInv l.images (numbers_at l.bytes l.fn.span.at l.fn.span.count) (numbers_left l.v-iterator) l.kept
