-- The answer to the columns of both sides: they are put together in the array, the right ones behind the left ones.
use Rattle.std.proofs.Common.{◌∙◌}
use Rattle.row_answer.specs.AnswerLaws.{judged-as}
use Rattle.infer_operator.proofs.RelationLaws.{sides-put}
use Rattle.infer_operator.proofs.relations.side_by_side.Goals as goal

pub relation-requires : goal.relation-requires
relation-requires c =
    (sides-put c.requires _ _ c.put_columns-2.new.args.bytes.now c.entries.ensures.records c.put_columns.ensures.put c.put_columns-2.ensures.put c.clear.ensures.count
    c.put_columns.ensures.count c.put_columns-2.ensures.count (c.put_columns-2.ensures.same.1 ∙ c.put_columns.ensures.same.1 ∙ c.clear.ensures.same.1)).0

pub returns-clause-answer : goal.returns-clause-answer
returns-clause-answer c =
    judged-as
    (sides-put c.requires _ _ c.put_columns-2.new.args.bytes.now c.entries.ensures.records c.put_columns.ensures.put c.put_columns-2.ensures.put c.clear.ensures.count
    c.put_columns.ensures.count c.put_columns-2.ensures.count (c.put_columns-2.ensures.same.1 ∙ c.put_columns.ensures.same.1 ∙ c.clear.ensures.same.1)).1
    c.relation.ensures.answer
