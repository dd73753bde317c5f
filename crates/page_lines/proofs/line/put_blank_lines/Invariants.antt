-- The lines are written one by one.
-- The loop keeps: so many of them are written.
use Rattle.printout_sort.specs.Buffer.{Same, Puts}
use Rattle.printout.specs.Whole.{lines_from}
use Rattle.page.specs.Numbered.{blank_line}
use Rattle.page_lines.proofs.line.put_blank_lines.Given as goal

abbrev pub invariant-loop-i : goal.invariant-loop-i
invariant-loop-i l = Same l.initial.out l.out × Puts l.initial.out (lines_from (λ k. blank_line) 0 l._i) l.out
