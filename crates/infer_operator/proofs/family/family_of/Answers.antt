-- The family of the operator that was found; a number past the last operator's is none's.
use Rattle.infer_operator.proofs.FamilyLaws.{family-found}
use Rattle.infer_operator.proofs.family.family_of.Goals as goal

pub returns : goal.returns
returns c = family-found c.args.op c.try_from.result c.try_from.ensures c.map_or.result c.map_or.ensures
