-- The arguments before the iterator are numbers, and `sum` is the kind of their sum.
use Rattle.record.specs.Numbers.{numbers_left}
use Rattle.check_operator.specs.Numbered.{result_number}
use Rattle.check_operator.proofs.NumberLaws.{Summing}
use Rattle.check_operator.proofs.op.fit_numbers.Given as goal

abbrev pub invariant-loop-k : goal.invariant-loop-k
invariant-loop-k l =
    Summing l.entries.records.now l.entries.places.now l.args.bytes.now l.args.count (result_number l.res) l.sum (numbers_left l.k-iterator)
