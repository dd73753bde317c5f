-- A row is the text of its sort, or the number of its refusal behind a mark.
-- A sort of at most 4,096 nodes has at most 456 bytes for each.
use Rattle.std.proofs.Common.{arith, sym, ap, length, ◌∙◌}
use Rattle.printout.specs.LineLaws.{row-sort, row-text-refused, refusal-length}
use Rattle.printout.proofs.lines.row_size.Goals as goal

pub returns-in-Ok : goal.returns-in-Ok
returns-in-Ok c =
    let r = c.in-Ok.ensures.sort in
    let s = rw r.0 at c.text_size.ensures in
    (s.is ∙ sym (ap length (row-sort _ _ _ r.1)), omega (arith, s.most, (c.requires r.1).small))

pub returns-in-Err : goal.returns-in-Err
returns-in-Err c =
    let r = c.in-Err.ensures.refusal in
    let d = rw r.0 at c.digits.ensures in
    (rw (row-text-refused _ _ _ r.1, refusal-length) (omega (arith, d.0)), omega (arith, d.1 (omega arith)))
