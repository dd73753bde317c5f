-- The names are written, each behind a blank.
-- The loop keeps: what is left to write gives the whole.
use Rattle.std.proofs.Common.{◌≡◌}
use Rattle.record.specs.Number.{numbers_at}
use Rattle.record.specs.Numbers.{numbers_left}
use Rattle.printout_sort.specs.Text.{more_names}
use Rattle.printout_sort.specs.Wrote.{TextLeft}
use Rattle.printout_sort.proofs.buffer.TextBuffer.put_names.Given as goal

abbrev pub invariant-loop-name : goal.invariant-loop-name
invariant-loop-name l =
    TextLeft l.initial.self.bytes.now l.initial.self.end (more_names (numbers_at l.records l.fn.names.at l.fn.names.count)) l.self.bytes.now l.self.end
    (more_names (numbers_left l.name-iterator))
    × (l.self.bytes.ghost_name ≡ l.initial.self.bytes.ghost_name)
