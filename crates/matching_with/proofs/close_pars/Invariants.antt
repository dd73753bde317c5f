-- Down the way from p: the names of the sorts behind are taken off, and those before are still listed.
use Rattle.matching_tables.specs.Names.{SameMap, SameNames}
use Rattle.matching_with.proofs.WayLaws.{Closing}
use Rattle.matching_with.proofs.close_pars.Given as goal

abbrev pub invariant-loop-i : goal.invariant-loop-i
invariant-loop-i l = let s = l.sorts in let o = l.initial.names in
    Closing s.records.now s.places.now s.count o.params.now l.p l.steps l.names.params.now l.k l._i × SameMap o l.names × SameNames o l.names
