-- The array filled on by the numbers that stand in the store: the loop keeps this of the numbers so far.
use Rattle.std.proofs.Common.{◌≡◌, ◌+◌, length}
use Rattle.infer_operator.specs.Relations.{PutHas}
use Rattle.infer_operator.proofs.relations.put_columns.Given as goal

abbrev pub invariant-loop-k : goal.invariant-loop-k
invariant-loop-k l = record {
  name : l.args.bytes.ghost_name ≡ l.initial.args.bytes.ghost_name;
  long : length l.args.bytes.now ≡ length l.initial.args.bytes.now;
  count : l.args.count ≡ l.initial.args.count + length l.yielded;
  put : PutHas l.records l.fn.columns.at (length l.yielded) l.initial.args.bytes.now l.initial.args.count l.args.bytes.now;
}
