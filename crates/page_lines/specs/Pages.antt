-- What writing the lines of the pages gives.
use Rattle.std.specs.Prelude.{ℕ, ◌+◌, ◌*◌, ◌-◌, ◌<◌, ◌≤◌, List, length, take}
use Rattle.record.specs.Decode.{store_of}
use Rattle.printout.specs.declared.whole.Piece.{Piece}
use Rattle.printout_text.specs.Text.{LinesBy}
use Rattle.page.specs.Page.{padding, pages, table_lines}
use Rattle.page.specs.Numbered.{page_line}
use Rattle.page_lines.specs.Rows.{RowsJudged}

-- How many lines fill the last page after n lines.
unfoldable pub padding_of : ℕ → ℕ
padding_of n = padding n

-- How many lines of blanks come next, of those that fill the last page after so many lines, `done` of them left out.
pub record BlanksIs (lines done room r : ℕ) : Type 0 where
  pub most : r ≤ padding_of lines - done
  pub fits : 81 * r ≤ room
  pub full : r < padding_of lines - done → room < 81 * r + 81

-- THE LINES OF THE PAGES of t terms, over any store that their rows are of; in a buffer of 81 bytes one at least is written, where one
-- is left.
abbrev pub PageHas : List ℕ → List ℕ → List ℕ → ℕ → ℕ → List ℕ → List ℕ → Piece → Type 0
PageHas b p rows t from o o' r =
    (n : ℕ) → RowsJudged b p rows t n
    → LinesBy (length (pages (table_lines (store_of b p n) 0 (take (2 * t) rows)))) (page_line (store_of b p n) (take (2 * t) rows)) 81 from o o' r
