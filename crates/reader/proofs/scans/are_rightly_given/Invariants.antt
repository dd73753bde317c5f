-- The pairs left are given rightly exactly where all of them are: the name of each one passed is a parameter and stands nowhere behind it,
-- and one of which that is not so ends the loop.
use Rattle.std.proofs.Common.{◌≡◌, map}
use Rattle.record.specs.Numbers.{numbers_left, pairs_left}
use Rattle.reader.specs.Reader.{rightly_given}
use Rattle.reader.proofs.scans.are_rightly_given.Given as goal

abbrev pub invariant-loop-name : goal.invariant-loop-name
invariant-loop-name l =
    rightly_given (map (λ p. p.0) (pairs_left l.pairs)) (numbers_left l.names) ≡ rightly_given (map (λ p. p.0) (pairs_left l.initial.pairs)) (numbers_left l.names)
