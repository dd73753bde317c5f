-- The columns of both arguments; Panics where one has none.
use Rattle.std.proofs.Common.{◌≡◌, Err, rules, sym, ◌∙◌}
use Rattle.row_rules.specs.declared.Cause.TheVariants.{Panics}
use Rattle.row_answer.specs.AnswerLaws.{judged-as}
use Rattle.infer_rules.specs.Inferred.{join_of}
use Rattle.infer_operator.specs.Asks.{arguments}
use Rattle.infer_operator.specs.Relations.{BothIs, Having}
use Rattle.infer_operator.proofs.AnswerWays.{answer-passed, both-is}
use Rattle.infer_operator.proofs.RelationLaws.{both-missing, both-read}
use Rattle.infer_operator.proofs.relations.join.Goals as goal
use Rattle.infer_operator.proofs.relations.join.Goals.{After-both_columns, In_ok-left}

both : (c : After-both_columns) → let s = c.args.store.now in BothIs s.records.now s.places.now s.count (arguments s c.args.args.now) c.both_columns.result
both c = let z = c.entries in both-is z.result c.args.store.now z.ensures.records z.ensures.places c.args.args.now c.requires c.both_columns.result c.both_columns.ensures

found : (c : In_ok-left)
    → let s = c.args.store.now in
    let x = c.in_ok-left.left in
    let y = c.in_ok-left.right in
    Having s.records.now s.places.now s.count (arguments s c.args.args.now) x.at x.count y.at y.count
found c = both-read _ _ _ _ c.both_columns.result (both (goal.at.In_ok-left c).After-both_columns) (sym c.ok_or.ensures.value ∙ c.in_ok-left.was)

pub returns-in_err-left-clause-answer : goal.returns-in_err-left-clause-answer
returns-in_err-left-clause-answer c =
    let s = c.args.store.now in
    let e : c.from_residual.result ≡ Err Panics = search rules in
    let is = both (goal.at.returns-in_err-left-clause-answer c).After-both_columns in
    answer-passed s e (both-missing s.records.now s.places.now s.count (arguments s c.args.args.now) c.both_columns.result is (sym c.ok_or.ensures.value ∙ c.in_err-left.was) join_of)

pub join_columns-requires : goal.join_columns-requires
join_columns-requires c = let has = found (goal.at.join_columns-requires c).In_ok-left in record { good = c.args.store.now.good; room = c.requires.room; left = has.left; right = has.right }

pub returns-clause-answer : goal.returns-clause-answer
returns-clause-answer c = judged-as ((found (goal.at.returns-clause-answer c).In_ok-left).is join_of) c.join_columns.ensures.answer
