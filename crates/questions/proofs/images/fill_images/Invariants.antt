-- The loop keeps: what is bound so far are the last names, each with its sort.
-- A name and its sort go before those that were bound.
use Rattle.questions.specs.Fill.{Filling}
use Rattle.questions.proofs.images.fill_images.Given as goal

abbrev pub invariant-loop-i : goal.invariant-loop-i
invariant-loop-i l = Filling l.initial.images l.sheet.bytes.now l.sheet.table.now l.names.at l.at l.names.count l.images l.i
