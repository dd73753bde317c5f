-- The lines of the rows are written from the line asked for on, as far as they fit; behind the last row lines of blanks.
-- A line has 81 bytes, so the bytes written tell how many lines they are.
use Rattle.std.proofs.Common.{rules, arith, subst, List, ℕ, ◌+◌, ◌/◌}
use Rattle.printout.specs.declared.whole.Piece.{Piece}
use Rattle.page_lines.specs.PageLaws.{next_fits, rows_left, last_fits, rows-done}
use Rattle.page_lines.specs.Words.{PageShown}
use Rattle.page_lines.proofs.pages.show_pages.Goals as goal

pub overflow_add-next : goal.overflow_add-next
overflow_add-next c =
    let s = c.args.page.now in
    omega (arith, next_fits c.requires c.find_row-start.ensures c.put_rows-reached.ensures.reached s.sizes32 s.rows32 (omega arith))

pub returns-then-reached-page : goal.returns-then-reached-page
returns-then-reached-page c =
    let o = c.put_rows-reached.new.out in
    let r : Piece = record { next = c.args.from + o.end / 81; end = o.end } in
    subst (λ (v : List ℕ). PageShown c.args.page.now c.args.from c.args.out.now v r) (search rules)
    (rows_left c.requires c.find_row-start.ensures c.put_rows-reached.ensures.reached c.if-reached-page.true)

pub overflow_add-result : goal.overflow_add-result
overflow_add-result c =
    let s = c.args.page.now in
    omega (
      arith,
      last_fits c.requires c.find_row-start.ensures c.put_rows-reached.ensures.reached c.if-reached-page.false (rw c.room.ensures at c.blanks_next-n.ensures) s.sizes32 s.rows32
          (omega arith),
    )

pub returns : goal.returns
returns c =
    let o = c.put_blank_lines.new.out in
    let r : Piece = record { next = c.args.from + c.put_rows-reached.new.out.end / 81 + c.blanks_next-n.result; end = o.end } in
    subst (λ (v : List ℕ). PageShown c.args.page.now c.args.from c.args.out.now v r) (search rules)
    (rows-done c.requires c.find_row-start.ensures c.put_rows-reached.ensures.reached c.if-reached-page.false (rw c.room.ensures at c.blanks_next-n.ensures) c.put_blank_lines.ensures.put)
