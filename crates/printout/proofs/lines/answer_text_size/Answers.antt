-- Yes and no have three and two bytes; another answer is a row.
-- The laws of an answer say which.
use Rattle.std.proofs.Common.{arith, sym, ap, length, ◌∙◌}
use Rattle.printout.specs.LineLaws.{answer-plain, plain-short, answer-row}
use Rattle.printout.proofs.lines.answer_text_size.Goals as goal

pub returns-then-kind : goal.returns-then-kind
returns-then-kind c =
    let n = ap length c.no_or_yes.ensures in
    (n ∙ sym (ap length (answer-plain _ _ _ _ c.if-kind.true)), omega (arith, n, plain-short c.args.code))

pub returns-else-kind : goal.returns-else-kind
returns-else-kind c = (c.row_size.ensures.0 ∙ sym (ap length (answer-row _ _ _ _ c.if-kind.false)), c.row_size.ensures.1)
