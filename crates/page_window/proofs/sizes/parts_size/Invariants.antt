-- What is summed and what the table says of the parts left is what it says of them all.
-- A size has 32 bits and there are at most 64, so the sum fits.
use Rattle.record.specs.Numbers.{numbers_left}
use Rattle.page_window.specs.SizeLaws.{PartsInv}
use Rattle.page_window.proofs.sizes.parts_size.Given as goal

abbrev pub invariant-loop-k : goal.invariant-loop-k
invariant-loop-k l = PartsInv l.sizes (numbers_left l.initial.k-iterator) l.sum (numbers_left l.k-iterator)
