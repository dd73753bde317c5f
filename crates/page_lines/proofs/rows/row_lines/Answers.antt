-- Both texts of the row stand in windows from the piece of the line i on, for n lines.
-- So the lines written from the windows are those of the row.
use Rattle.std.proofs.Common.{arith, ap₂, ◌∙◌, ◌+◌, ◌*◌, ℕ, List}
use Rattle.printout_sort.specs.Wrote.{wrote_as}
use Rattle.printout.specs.Whole.{lines_from}
use Rattle.page_lines.specs.Rows.{window_line}
use Rattle.page_lines.specs.RowLaws.{window-rows}
use Rattle.page_lines.specs.GoingLaws.{window-asks}
use Rattle.page_lines.proofs.rows.row_lines.Goals as goal

pub row_window-first-requires : goal.row_window-first-requires
row_window-first-requires c =
    let a = c.args in
    window-asks (2 * a.from.row) a.n a.windows.now.stack.now a.windows.now.one.now c.requires.page (omega (arith, c.requires.row)) c.requires.few
    a.windows.now.deep a.windows.now.first

pub row_window-second-requires : goal.row_window-second-requires
row_window-second-requires c =
    let a = c.args in
    window-asks (2 * a.from.row + 1) a.n c.row_window-first.new.stack a.windows.now.two.now c.requires.page (omega (arith, c.requires.row)) c.requires.few
    (omega (arith, c.row_window-first.auto.stack, a.windows.now.deep)) a.windows.now.second

pub returns-clause-put : goal.returns-clause-put
returns-clause-put c =
    let a = c.args in
    let shown = window-rows a.from.row a.from.line a.n c.row_window-first.ensures c.row_window-second.ensures in
    wrote_as (ap₂ (λ (x y : List ℕ). lines_from (window_line a.from.row a.from.line x y) 0 a.n) c.seen-left.ensures c.seen-right.ensures ∙ shown)
    c.window_lines.ensures.put
