-- The first vector of known width, or why there is none: the one among the numbers that are left is the first of all.
use Rattle.record.specs.Numbers.{numbers_left}
use Rattle.infer_rules.specs.Inferred.{first_vector}
use Rattle.infer_operator.proofs.WalkLaws.{Walking}
use Rattle.infer_operator.proofs.vectors.scan_vectors.Given as goal

abbrev pub invariant-loop-k : goal.invariant-loop-k
invariant-loop-k l =
    (goal.iterator-loop-k).can_next l.k-iterator × (goal.iterator-loop-k).is_finite l.k-iterator
    × Walking first_vector first_vector l.entries.records.now l.entries.places.now (numbers_left l.fn.numbers) (numbers_left l.k-iterator)
