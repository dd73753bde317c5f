-- Field by field; kinds by their numbers.
use Rattle.std.proofs.Common.{refl, ◌∙◌}
use Rattle.matching_tables.specs.Usable.{same_head}
use Rattle.matching_tables.specs.KindTests.{same-kinds}
use Rattle.matching_tables.proofs.heads.same_head.Goals as goal

pub returns : goal.returns
unfolding same_head
returns c = c.eq.ensures ∙ rw (same-kinds c.args.p.kind c.args.t.kind) refl
