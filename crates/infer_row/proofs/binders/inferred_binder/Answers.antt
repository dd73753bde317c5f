-- The answer to a Binder, by its name; the body is read before its place is used for the bindings.
use Rattle.std.proofs.Common.{◌∷◌, ◌≡◌, Err, rules, sym, ◌∙◌, get_or, arith}
use Rattle.record.specs.Number.{pairs_at}
use Rattle.record.specs.Numbers.{pairs_left}
use Rattle.record.specs.declared.kinds.Binder.TheVariants.{Lambda, Choice}
use Rattle.row_rules.specs.declared.Cause.TheVariants.{Panics}
use Rattle.row_answer.specs.AnswerLaws.{judged-as}
use Rattle.infer_operator.proofs.AnswerWays.{answer-passed, answer-sort}
use Rattle.infer_row.proofs.TermLaws.{pair-taken, pair-missing, lambda-is, choice-none, choice-in, choice-known, choice-is, binder-is}
use Rattle.infer_row.proofs.binders.inferred_binder.Goals as goal
use Rattle.infer_row.proofs.binders.inferred_binder.Goals.{In-Choice, In_ok-sort-in-Choice}

-- Choice by its number, and its first binding.
choice : (c : In-Choice) → c.args.term.number ≡ 2
choice c = binder-is c.args.term.number c.try_from.result c.try_from.ensures Choice (sym c.unwrap_or.ensures ∙ c.in-Choice.is) (λ e. cc)

first : (c : In_ok-sort-in-Choice) → pairs_at c.args.sheet.now.bytes.now c.args.term.pairs.at c.args.term.pairs.count ≡ (c.in_ok-sort-in-Choice.field-0-0, c.in_ok-sort-in-Choice.sort) ∷ pairs_left c.next.new.self
first c =
    sym c.pairs-pairs.ensures ∙ pair-taken c.pairs-pairs.result c.next.result c.next.new.self c.next.ensures.steps (sym c.ok_or.ensures.value ∙ c.in_ok-sort-in-Choice.was)

pub returns-in-Lambda-clause-answer : goal.returns-in-Lambda-clause-answer
returns-in-Lambda-clause-answer c =
    judged-as
    (lambda-is c.requires c.number-body.ensures.value (binder-is c.args.term.number c.try_from.result c.try_from.ensures Lambda (sym c.unwrap_or.ensures ∙ c.in-Lambda.is) (λ e. cc)))
    c.lambda.ensures.answer

pub returns-in_err-sort-in-Choice-clause-answer : goal.returns-in_err-sort-in-Choice-clause-answer
returns-in_err-sort-in-Choice-clause-answer c =
    let e : c.from_residual.result ≡ Err Panics = search rules in
    let missing = pair-missing c.pairs-pairs.result c.next.result c.next.new.self c.next.ensures.steps (sym c.ok_or.ensures.value ∙ c.in_err-sort-in-Choice.was) in
    answer-passed c.args.store.now e (choice-none c.requires (choice (goal.at.returns-in_err-sort-in-Choice-clause-answer c).In-Choice) (sym c.pairs-pairs.ensures ∙ missing))

pub offset_bounds-sheet-sort : goal.offset_bounds-sheet-sort
offset_bounds-sheet-sort c = omega (arith, choice-in c.requires (first (goal.at.offset_bounds-sheet-sort c).In_ok-sort-in-Choice))

pub bounds-sheet-sort : goal.bounds-sheet-sort
bounds-sheet-sort c = choice-in c.requires (first (goal.at.bounds-sheet-sort c).In_ok-sort-in-Choice)

pub returns-in_ok-sort-in-Choice-clause-answer : goal.returns-in_ok-sort-in-Choice-clause-answer
returns-in_ok-sort-in-Choice-clause-answer c =
    let here = goal.at.returns-in_ok-sort-in-Choice-clause-answer c in
    let one = first here.In_ok-sort-in-Choice in
    answer-sort c.args.store.now (get_or c.args.sheet.now.table.now c.in_ok-sort-in-Choice.sort 0) (choice-known c.requires one) (choice-is c.requires one (choice here.In-Choice))
