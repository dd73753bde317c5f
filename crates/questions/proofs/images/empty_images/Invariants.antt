-- The loop keeps: with what is left unbound, the table is the one with all names unbound.
use Rattle.std.proofs.Common.{ℕ, ◌≡◌, ◌<◌, get_or, length}
use Rattle.record.specs.Number.{numbers_at}
use Rattle.record.specs.Numbers.{numbers_left}
use Rattle.questions.specs.Fill.{emptied}
use Rattle.questions.proofs.images.empty_images.Given as goal

abbrev pub invariant-loop-name : goal.invariant-loop-name
invariant-loop-name l =
    (length l.images ≡ length l.initial.images)
    × (emptied l.images (numbers_left l.name-iterator) ≡ emptied l.initial.images (numbers_at l.sheet l.fn.names.at l.fn.names.count))
    × ((j : ℕ) → get_or (numbers_left l.name-iterator) j 0 < 65536)
