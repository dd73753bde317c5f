-- The kind that was read decides it.
use mathlib.Core.Path.{◌∙◌}
use Rattle.infer_operator.proofs.SingleLaws.{is-real}
use Rattle.infer_operator.proofs.single.is_real.Goals as goal

pub returns : goal.returns
returns c = let z = c.args.entries in λ n st l. c.eq.ensures ∙ is-real z.records.now z.places.now n c.args.k st l c.kind.result c.kind.ensures
