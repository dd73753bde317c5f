-- The sum of the widths, or why there is none: with the sum so far the numbers that are left give the verdict on all.
use Rattle.std.proofs.Common.{◌+◌, ◌*◌, ◌≤◌, length}
use Rattle.record.specs.Numbers.{numbers_left}
use Rattle.infer_rules.specs.Inferred.{concat_from}
use Rattle.infer_operator.proofs.WalkLaws.{Walking}
use Rattle.infer_operator.proofs.vectors.add_widths.Given as goal

abbrev pub invariant-loop-k : goal.invariant-loop-k
invariant-loop-k l = record {
  walk : Walking (concat_from l.sum) (concat_from 0) l.entries.records.now l.entries.places.now (numbers_left l.fn.numbers) (numbers_left l.numbers);
  low : l.sum + 65535 * length (numbers_left l.numbers) ≤ 65535 * 64;
}

abbrev pub decreases-loop-k : goal.decreases-loop-k
decreases-loop-k l = length (numbers_left l.numbers)
