-- A row with a sort has the size that the table has for it; a refused one an exclamation mark and digits.
-- So the length is the one that the definition gives by the same test.
use Rattle.std.proofs.Common.{arith, ap, ◌∙◌, ℕ, length}
use Rattle.std.specs.Prelude.{get_or}
use Rattle.printout_sort.specs.Text.{decimal}
use Rattle.page_lines.specs.HeightLaws.{length-sort, length-refused}
use Rattle.page_lines.proofs.heights.row_length.Goals as goal

pub returns-in-Ok : goal.returns-in-Ok
returns-in-Ok c =
    let z = c.args.sizes.now in
    let e = c.in-Ok.ensures.sort in
    ap (λ (k : ℕ). get_or z k 0) e.0 ∙ length-sort z c.args.code e.1

pub returns-in-Err : goal.returns-in-Err
returns-in-Err c =
    let e = c.in-Err.ensures.refusal in
    omega (arith, c.digits.ensures.0, ap (λ (k : ℕ). length (decimal k)) e.0, length-refused c.args.sizes.now c.args.code e.1)
