-- The lines are those of a printout.
use Rattle.written.specs.WrittenLaws.{hand-asks}
use Rattle.written.proofs.hand_lines.Goals as goal

pub hand-requires : goal.hand-requires
hand-requires g c = hand-asks c.requires
