-- The numbers of the bindings' sorts in the array.
-- The loop keeps: the array has those of the pairs seen so far.
use Rattle.std.proofs.Common.{◌≡◌, length}
use Rattle.row_answer.specs.Arguments.{binding_at, Filled}
use Rattle.row_answer.specs.Args.{SameArgs}
use Rattle.row_answer.proofs.arguments.Args.put_bindings.Given as goal

abbrev pub invariant-loop-sort : goal.invariant-loop-sort
invariant-loop-sort l =
    record {
      same : SameArgs l.fn.self l.self;
      count : l.self.count ≡ length l.yielded;
      filled : Filled l.self.bytes.now (binding_at l.sheet.bytes.now l.fn.pairs.at l.sheet.table.now) (length l.yielded);
    }
