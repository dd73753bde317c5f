-- Each record that was read starts at its place, and the next is read behind it; a refusal ends the reading.
-- The loop keeps: the records before the index are read.
use Rattle.std.proofs.Common.{length, ◌≡◌}
use Rattle.sheet.specs.Contract.{EachRead}
use Rattle.sheet.proofs.terms.read_each.Given as goal

abbrev pub invariant-loop-i : goal.invariant-loop-i
invariant-loop-i g l = (length l.places ≡ length l.initial.places) × EachRead (goal.F-post g l.read) l.fn.start l.i l.places l.cursor
