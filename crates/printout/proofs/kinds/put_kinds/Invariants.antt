-- The loop keeps: the kinds of the first questions are written.
-- A question record that stands has its kind in its second byte.
use Rattle.printout.specs.Kinds.{KindsPut}
use Rattle.printout.proofs.kinds.put_kinds.Given as goal

abbrev pub invariant-loop-q : goal.invariant-loop-q
invariant-loop-q l = KindsPut l.sheet l.asked l.q l.initial.kinds l.kinds
