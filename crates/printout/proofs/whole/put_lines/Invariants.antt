-- The loop keeps: the lines up to k are written. It ends where none is left or the next one does not fit.
-- One line more is the piece with that line behind it.
use Rattle.std.proofs.Common.{◌≡◌}
use Rattle.printout.specs.WholeLaws.{Showing}
use Rattle.printout.proofs.whole.put_lines.Given as goal

abbrev pub invariant-loop-k : goal.invariant-loop-k
invariant-loop-k l =
    Showing l.sheet.entries.records.now l.sheet.entries.places.now l.sheet.rows.now l.sheet.kinds.now l.sheet.answers.now l.sheet.totals.terms l.sheet.totals.questions l.from l.initial.out.bytes.now
    l.out.bytes.now l.k l.out.end
    × (l.out.bytes.ghost_name ≡ l.initial.out.bytes.ghost_name)
