-- The sizes of the sorts before stand in the table, so the next one can be found and goes behind them.
-- A size is below 456 times 4,096, so it fits 32 bits.
use Rattle.std.proofs.Common.{◌≡◌, length}
use Rattle.page_window.specs.Sizes.{Measured}
use Rattle.page_window.proofs.sort_sizes.Given as goal

abbrev pub invariant-loop-k : goal.invariant-loop-k
invariant-loop-k l = (length l.sizes ≡ length l.initial.sizes) × Measured l.entries.records.now l.entries.places.now l.k l.sizes
