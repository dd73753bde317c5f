-- The lines below the next one are written, and the output holds their bytes behind its own: so each piece is the next lines, and one that
-- does not go on says that all are written.
use Rattle.std.proofs.Common.{◌-◌, ◌≤◌, ◌≡◌, false}
use Rattle.std.specs.Io.KnownBytes.{Appends}
use Rattle.judge_rules.specs.Judged.{judged}
use Rattle.printout.specs.Printed.{program_lengths}
use Rattle.written.specs.Written.{count_in, line_in, handed}
use Rattle.written.proofs.write_lines.Given as goal

abbrev pub invariant-loop-done : goal.invariant-loop-done
invariant-loop-done g l = record {
  good : l.done.failed ≡ false;
  next : g.L.Lines.next l.lines ≡ l.done.lines;
  most : l.done.lines ≤ count_in g.L.Lines.layout (judged (g.L.Lines.sheet l.initial.lines) program_lengths);
  same : g.L.Lines.sheet l.lines ≡ g.L.Lines.sheet l.initial.lines;
  can : g.L.Lines.can_show l.lines;
  held : Appends (g.W.Write.contents l.initial.output) (g.W.Write.contents l.output) (handed (line_in g.L.Lines.layout (judged (g.L.Lines.sheet l.initial.lines) program_lengths)) l.done);
}

abbrev pub decreases-loop-done : goal.decreases-loop-done
decreases-loop-done g l = count_in g.L.Lines.layout (judged (g.L.Lines.sheet l.initial.lines) program_lengths) - l.done.lines
