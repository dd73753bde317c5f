-- A Let's last argument and a Match's last body.
use Rattle.std.proofs.Common.{ap, ◌∙◌}
use Rattle.record.specs.Kinds.{term_number}
use Rattle.row_answer.specs.AnswerLaws.{judged-as}
use Rattle.infer_operator.specs.Single.{last-all, last-body}
use Rattle.infer_row.proofs.TermLaws.{composed-let, composed-match}
use Rattle.infer_row.proofs.inferred_composed.Goals as goal

pub returns-in-Let-clause-answer : goal.returns-in-Let-clause-answer
returns-in-Let-clause-answer c = judged-as (composed-let c.requires (ap term_number c.in-Let.is) ∙ last-all _) (c.last_of.ensures _ _ _ _ _ c.requires.args)

pub returns-in-Match-clause-answer : goal.returns-in-Match-clause-answer
returns-in-Match-clause-answer c = judged-as (composed-match c.requires (ap term_number c.in-Match.is) ∙ last-body _) (c.last_of-in-Match.ensures _ _ _ _ _ c.requires.args)
