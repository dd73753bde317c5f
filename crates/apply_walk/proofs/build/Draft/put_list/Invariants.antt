-- The loop keeps: the numbers so far stand behind what was there.
use Rattle.apply_walk.proofs.DraftLaws.{ListInv}
use Rattle.apply_walk.proofs.build.Draft.put_list.Given as goal

abbrev pub invariant-loop-v : goal.invariant-loop-v
invariant-loop-v l = ListInv l.numbers l.initial.self l.self l.v-index
