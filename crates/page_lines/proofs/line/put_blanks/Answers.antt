-- The part of the buffer that is as long as the blanks is filled with them.
-- So they stand behind what was written.
use Rattle.std.proofs.Common.{arith, ap, sym, ◌∙◌, ℕ, drop, length-take, length-drop, replicate}
use Rattle.printout_sort.specs.Wrote.{wrote_part}
use Rattle.page_lines.specs.LineRoomLaws.{blanks-long}
use Rattle.page_lines.proofs.line.put_blanks.Goals as goal

pub returns-clause-put : goal.returns-clause-put
returns-clause-put c =
    let o = c.args.out.now in
    let n = c.args.n in
    wrote_part (c.fill.ensures.after (λ y e. e) ∙ ap (λ (i : ℕ). replicate i 32) (omega (arith, c.requires, length-take n (drop o.end o.bytes.now), length-drop o.end o.bytes.now)))
    (sym (blanks-long n)) (omega (arith, c.requires, blanks-long n))
