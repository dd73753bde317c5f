-- The line is the only one of its printout.
use Rattle.std.proofs.Common.{sym, subst}
use Rattle.written.specs.declared.Written.{Written}
use Rattle.written.specs.Written.{HandAsks}
use Rattle.written.specs.WrittenLaws.{refusal-asks}
use Rattle.written.proofs.hand_refusal.Goals as goal

pub hand-requires : goal.hand-requires
hand-requires g c = subst (λ (w : Written). HandAsks w 1 c.args.text.now) (sym c.nothing_written.ensures) (refusal-asks c.args.e c.args.text.now c.requires)
