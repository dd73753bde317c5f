-- The widths together: the sum is a width of its own, within its limit or not.
use Rattle.std.proofs.Common.{◌≡◌, Err, rules}
use Rattle.record.specs.Numbers.{numbers_left}
use Rattle.row_answer.specs.AnswerLaws.{judged-as}
use Rattle.infer_rules.specs.Inferred.{concat_from}
use Rattle.infer_operator.specs.Asks.{arguments}
use Rattle.infer_operator.specs.Vectors.{WidthAsks, widths_of}
use Rattle.infer_operator.proofs.AnswerWays.{answer-passed, lent, numbers-are}
use Rattle.infer_operator.proofs.WalkLaws.{args-known, few-numbers}
use Rattle.infer_operator.proofs.vectors.concat.Goals as goal
use Rattle.infer_operator.proofs.vectors.concat.Goals.{After-add_widths}

added : (c : After-add_widths) → concat_from 0 (arguments c.args.store.now c.args.args.now) ≡ widths_of c.add_widths.result
added c =
    let z = c.entries in
    numbers-are z.result c.args.store.now z.ensures.records z.ensures.places c.args.args.now c.requires c.numbers.ensures (λ b p n ss. concat_from 0 ss ≡ widths_of c.add_widths.result) c.add_widths.ensures

pub add_widths-requires : goal.add_widths-requires
add_widths-requires c =
    let s = c.args.store.now in
    let a = c.args.args.now in
    lent c.entries.result s c.entries.ensures.records c.entries.ensures.places (λ b p. WidthAsks b p (numbers_left c.numbers.result))
    (s.count, record { known = args-known s a c.requires c.numbers.ensures; few = few-numbers s a c.requires c.numbers.ensures })

pub returns-in_err-width-clause-answer : goal.returns-in_err-width-clause-answer
returns-in_err-width-clause-answer c =
    let e : c.from_residual.result ≡ Err c.in_err-width.field-0.0 = search rules in
    answer-passed c.args.store.now e (rw c.in_err-width.was at (added (goal.at.returns-in_err-width-clause-answer c).After-add_widths))

pub returns-clause-answer : goal.returns-clause-answer
returns-clause-answer c = judged-as (rw c.in_ok-width.was at (added (goal.at.returns-clause-answer c).After-add_widths)) c.vector.ensures.answer
