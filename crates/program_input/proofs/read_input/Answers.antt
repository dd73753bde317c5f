-- The bytes read so far stay where they are, and the next ones stand behind them.
use Rattle.std.proofs.Common.{arith}
use Rattle.program_input.specs.InputLaws.{read-more}
use Rattle.program_input.proofs.read_input.Goals as goal

pub loop-done-preserved : goal.loop-done-preserved
loop-done-preserved g c =
    let l = c.loop-done in
    let e = c.in_ok-n.ensures in
    let w = rw c.in-Some.is at e.within in
    let b = rw c.in-Some.is at e.bytes in
    record {
      within = omega (arith, w.1);
      bytes = read-more _ _ _ _ _ l.done _ c.in-Some.n l.invariant.within w.1 l.invariant.bytes b;
    }
