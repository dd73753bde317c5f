-- The fit of two or more of one kind.
use Rattle.record.specs.Kinds.{sort_number}
use Rattle.check_operator.proofs.FitLaws.{fit-over, all-fits}
use Rattle.check_operator.proofs.op.fit_all.Goals as goal

pub returns : goal.returns
returns c = λ n o. all-fits (sort_number c.args.kind) c.args.res (fit-over c.requires o) c.all_kind.result (c.all_kind.ensures n o) c.then_some.ensures
