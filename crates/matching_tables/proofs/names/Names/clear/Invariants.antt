-- What has an image stands behind i, and bnd is zero before i.
use Rattle.matching_tables.proofs.NamesLaws.{Clearing}
use Rattle.matching_tables.proofs.names.Names.clear.Given as goal

abbrev pub invariant-loop-i : goal.invariant-loop-i
invariant-loop-i l = Clearing l.i-end l.images l.bound l.i
