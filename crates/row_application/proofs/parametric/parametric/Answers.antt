-- The call by match_with, and the answer to it.
-- The head has parameters, so the tables have all names.
use mathlib.Core.Path.{refl}
use Rattle.row_application.proofs.CalledLaws.{app-delivered}
use Rattle.row_application.proofs.ParametricLaws.{patterns-ask}
use Rattle.row_application.proofs.parametric.parametric.Goals as goal

pub match_arguments-call-requires : goal.match_arguments-call-requires
match_arguments-call-requires c =
    let e = c.sorts.ensures in
    rw (e.records, e.places, e.count) (patterns-ask c.requires.0, c.requires.1)

pub returns-clause-answer : goal.returns-clause-answer
returns-clause-answer c =
    let e = c.sorts.ensures in
    let h = c.requires.0 in
    let d = c.deliver.ensures.answer in
    rw d.1 (app-delivered h.called h.fewer h.parameters (rw (e.records, e.places, e.count) at c.match_arguments-call.ensures.call) refl d.0)
