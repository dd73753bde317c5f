-- The result is `hash_by` the multipliers and the bytes.
-- The loop keeps: the two halves so far, carried on over what is left, give the hash of the whole.
use Rattle.record.specs.Numbers.{numbers_left}
use Rattle.store.proofs.HashLaws.{HashInv}
use Rattle.store.proofs.hashes.hash_by.Given as goal

abbrev pub invariant-loop-v : goal.invariant-loop-v
invariant-loop-v l = HashInv l.one l.two l.rec l.low l.high (numbers_left l.v-iterator)
