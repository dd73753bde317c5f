-- The line of a refusal is the first of its printout, and the only one; a refusal has at most two digits, so it fits the buffer.
use Rattle.std.proofs.Common.{arith}
use Rattle.written.specs.WrittenLaws.{refused-text}
use Rattle.written.proofs.print_refusal.Goals as goal

pub hand_refusal-requires : goal.hand_refusal-requires
hand_refusal-requires g c = refused-text c.args.e _ c.refused_line-piece.new.out c.refused_line-piece.result c.refused_line-piece.ensures (omega arith)
