-- A row with a sort has the text of that sort; a refused one a short text, which is written whole.
-- So the window of that text is one of the row.
use Rattle.std.proofs.Common.{rules, arith, sym, ap, ◌∙◌, subst, List, ℕ, length}
use Rattle.printout_sort.specs.Text.{text}
use Rattle.printout_sort.specs.Trees.{tree_at}
use Rattle.printout_sort.specs.Wrote.{wrote_as}
use Rattle.printout.specs.Lines.{refusal_text}
use Rattle.printout.specs.LineAsks.{row_text_at}
use Rattle.printout.specs.LineLaws.{row-sort}
use Rattle.page_window.specs.Window.{WindowIs}
use Rattle.page_lines.specs.RowLaws.{window-as, refused-window, refused-short}
use Rattle.page_lines.proofs.rows.row_window.Goals as goal

pub put_refusal-requires : goal.put_refusal-requires
put_refusal-requires c =
    let e = c.in-Err.ensures.refusal in
    omega (arith, refused-short c.args.code (omega arith), c.requires.fits, ap (λ (i : ℕ). length (refusal_text i)) e.0)

pub returns-in-Ok : goal.returns-in-Ok
returns-in-Ok c =
    let s = c.args.page.now.entries in
    let e = c.in-Ok.ensures.sort in
    window-as (ap (λ (k : ℕ). text (tree_at s.records.now s.places.now k)) e.0 ∙ sym (row-sort s.records.now s.places.now c.args.code e.1))
    c.sort_window.ensures

pub returns-in-Err : goal.returns-in-Err
returns-in-Err c =
    let s = c.args.page.now.entries in
    let e = c.in-Err.ensures.refusal in
    let o = c.put_refusal.new.out in
    subst (λ (v : List ℕ). WindowIs (row_text_at s.records.now s.places.now c.args.code) c.args.skip c.args.want v (record { lead = c.args.skip; end = o.end }))
    (search rules)
    (refused-window s.records.now s.places.now c.args.code c.args.skip c.args.want e.1 (wrote_as (ap refusal_text e.0) c.put_refusal.ensures.put))
