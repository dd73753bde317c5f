-- What `judge` left of an accepted sheet can be printed, with the kinds of its questions, and its lines are those of the judgement.
-- A piece of them goes on, since the longest line fits a buffer of `line_room` bytes.
use Rattle.std.proofs.Common.{arith}
use Rattle.std.specs.Prelude.{replicate}
use Rattle.printout_text.specs.LeftLaws.{judge-left, piece-goes}
use Rattle.printout_text.specs.TextLaws.{lines_none, lines_left}
use Rattle.printout_text.proofs.accepted_lines.Goals as goal

pub overflow_add-totals : goal.overflow_add-totals
overflow_add-totals c =
    let l = judge-left _ _ _ _ _ c.requires (replicate 1024 0) _ _ (omega arith) c.question_kinds-totals.ensures in
    omega (arith, l.good.few, l.good.fewer)

pub returns-then-totals-from : goal.returns-then-totals-from
returns-then-totals-from c =
    let l = judge-left _ _ _ _ _ c.requires (replicate 1024 0) _ _ (omega arith) c.question_kinds-totals.ensures in
    lines_none _ _ (omega (arith, l.count, c.if-totals-from.true))

pub show_lines-requires : goal.show_lines-requires
show_lines-requires c =
    let l = judge-left _ _ _ _ _ c.requires (replicate 1024 0) _ _ (omega arith) c.question_kinds-totals.ensures in
    record { many = l.many; judged = l.good; number = omega (arith, c.if-totals-from.false) }

pub returns : goal.returns
returns c =
    let s = c.args.sheet.now in
    let t = c.question_kinds-totals.result in
    let l = judge-left _ _ _ _ _ c.requires (replicate 1024 0) _ t (omega arith) c.question_kinds-totals.ensures in
    let o = c.args.out.now in
    let o' = c.show_lines.new.out in
    let r = c.show_lines.result in
    let piece = c.show_lines.ensures l.many l.good in
    lines_left _ _ _ _ _ _ t l c.args.from o o' r piece
    (λ long u.
    piece-goes _ _ _ _ _ t.terms t.questions l.many l.good l.one s.ranges.bytes s.ranges.rows s.ranges.answers c.args.from o o' r piece u long)
