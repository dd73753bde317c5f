-- The numbers of the sorts in the array, or a row that is refused.
-- The loop keeps: the rows seen so far are numbers of the store, and the array has them.
use Rattle.std.proofs.Common.{◌≡◌, ℕ, ◌<◌, length}
use Rattle.row_answer.specs.Arguments.{column_number, row_at, Filled}
use Rattle.row_answer.specs.Args.{SameArgs}
use Rattle.row_answer.proofs.arguments.Args.gather.Given as goal

abbrev pub invariant-loop-t : goal.invariant-loop-t
invariant-loop-t l =
    record {
      same : SameArgs l.fn.self l.self;
      count : l.self.count ≡ length l.yielded;
      below : (j : ℕ) → j < length l.yielded → row_at l.sheet l.fn.list.at l.rows (column_number l.column) j < 65536;
      filled : Filled l.self.bytes.now (row_at l.sheet l.fn.list.at l.rows (column_number l.column)) (length l.yielded);
    }
