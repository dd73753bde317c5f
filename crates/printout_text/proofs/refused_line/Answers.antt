-- A refusal has at most two digits; its line is the whole printout of the refused sheet.
-- It is written or does not fit, and a line behind it is not there.
use Rattle.std.proofs.Common.{arith, rules, subst, List, ℕ, length}
use Rattle.std.proofs.Math.Path.{ap}
use Rattle.printout_sort.specs.Wrote.{wrote_as}
use Rattle.printout.specs.Lines.{refusal_line}
use Rattle.printout_text.specs.Text.{RefusedLines}
use Rattle.printout_text.specs.TextLaws.{lines_none, refused-written, refused_full}
use Rattle.printout_text.proofs.refused_line.Goals as goal

pub returns-then-from-gt0 : goal.returns-then-from-gt0
returns-then-from-gt0 c = λ room small. lines_none _ _ (omega (arith, c.if-from-gt0.true))

pub returns-in-Ok : goal.returns-in-Ok
returns-in-Ok c =
    let o = c.refusal_line.new.out in
    let w = c.in-Ok.ensures in
    subst (λ (v : List ℕ). RefusedLines c.args.e c.args.from c.args.out.now v record { next = 1; end = o.end }) (search rules)
    (refused-written c.args.e _ _ o.bytes.now o.end (omega (arith, c.if-from-gt0.false)) (wrote_as (ap refusal_line c.from-number.ensures) w.line))

pub returns-in-Err : goal.returns-in-Err
returns-in-Err c =
    let o = c.refusal_line.new.out in
    let w = c.in-Err.ensures.line in
    subst (λ (v : List ℕ). RefusedLines c.args.e c.args.from c.args.out.now v record { next = 0; end = 0 }) (search rules)
    (refused_full c.args.e _ _ o.bytes.now (omega (arith, c.if-from-gt0.false)) w.0 (omega (arith, w.1, ap (λ (i : ℕ). length (refusal_line i)) c.from-number.ensures)))
