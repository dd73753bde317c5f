-- The entry under a name is its image (`find-is`).
use Rattle.matching_tables.specs.MapLaws.{look-by}
use Rattle.matching_tables.proofs.names.Names.look_up.Goals as goal

pub returns : goal.returns
returns c = look-by c.args.self.now.images.now c.args.name c.checked_sub.result (rw c.from.ensures at c.checked_sub.ensures)
