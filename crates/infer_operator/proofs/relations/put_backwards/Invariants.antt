-- The array filled by the numbers that stand in the store, the last first: the loop keeps this of the numbers so far.
use Rattle.std.proofs.Common.{◌≡◌, ◌+◌, length}
use Rattle.row_answer.specs.Arguments.{Filled}
use Rattle.infer_operator.specs.Relations.{back_at}
use Rattle.infer_operator.proofs.relations.put_backwards.Given as goal

abbrev pub invariant-loop-i : goal.invariant-loop-i
invariant-loop-i l = record {
  name : l.args.bytes.ghost_name ≡ l.initial.args.bytes.ghost_name;
  long : length l.args.bytes.now ≡ length l.initial.args.bytes.now;
  count : l.args.count + l.i ≡ l.columns.count;
  put : Filled l.args.bytes.now (back_at l.records l.columns.at l.columns.count) l.args.count;
}
