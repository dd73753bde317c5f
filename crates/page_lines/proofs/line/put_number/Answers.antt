-- Below the first line there are blanks; on it the blanks that the digits leave, and the number.
-- The digits are counted, so the blanks are as many as the definition has.
use Rattle.std.proofs.Common.{arith, ap, ℕ, ◌-◌, ◌++◌}
use Rattle.printout_sort.specs.Text.{decimal}
use Rattle.printout_sort.specs.Wrote.{wrote_as, wrote-more, wrote-long}
use Rattle.page.specs.Page.{blanks}
use Rattle.page_lines.specs.LineRoomLaws.{number-first, blanks-long}
use Rattle.page_lines.proofs.line.put_number.Goals as goal

pub put_decimal-requires : goal.put_decimal-requires
put_decimal-requires c =
    let w = c.put_blanks.ensures.put in
    omega (arith, c.requires.1, w.next, wrote-long w, blanks-long (6 - c.digits.result), c.digits.ensures.0, c.digits.ensures.1)

pub returns-then-at-eq0-clause-put : goal.returns-then-at-eq0-clause-put
returns-then-at-eq0-clause-put c =
    let e = ap (λ (k : ℕ). blanks (6 - k) ++ decimal c.args.at.row) c.digits.ensures.0 in
    wrote_as (number-first _ _ c.if-at-eq0.true) (wrote_as e (wrote-more c.put_blanks.ensures.put c.put_decimal.ensures.put))
