-- What writing the lines of rows asks and gives: windows of a row's two texts, some lines of a row, and the lines of all rows.
use Rattle.std.specs.Prelude.{ℕ, ◌+◌, ◌*◌, ◌-◌, ◌≤◌, ◌<◌, ◌≡◌, List, ◌++◌, length, get_or, take, drop}
use Rattle.record.specs.Sort.{size}
use Rattle.record.specs.Decode.{store_of, sort_at, Stored}
use Rattle.printout_sort.specs.Text.{ascii, decimal}
use Rattle.printout_sort.specs.Wrote.{Wrote}
use Rattle.printout.specs.LineAsks.{row_text_at, RowKnown}
use Rattle.printout.specs.Whole.{lines_from}
use Rattle.page.specs.Page.{line_of}
use Rattle.page.specs.Numbered.{number_on, piece_on, above, page_line}
use Rattle.page_lines.specs.declared.heights.Spot.{Spot}
use Rattle.page_window.specs.declared.Window.{Window}
use Rattle.page_lines.specs.Heights.{height_in}
use Rattle.page_window.specs.Window.{SizesAre, window_slack, WindowAsks}

---------------------------------------------------------------- a judged sheet's rows
-- A store of n sorts within the limit of their trees, and t terms whose rows are of it.
pub record RowsJudged (b p rows : List ℕ) (t n : ℕ) : Type 0 where
  pub stored : Stored b p n
  pub small : (k : ℕ) → k < n → size (sort_at b p n k) ≤ 4096
  pub terms : 2 * t ≤ length rows
  pub few : t ≤ 4096
  pub row : (i : ℕ) → i < 2 * t → RowKnown n (get_or rows i 0)

-- The two texts of the row t.
abbrev pub inferred_in : List ℕ → List ℕ → List ℕ → ℕ → List ℕ
inferred_in b p rows t = row_text_at b p (get_or rows (2 * t) 0)

abbrev pub checked_in : List ℕ → List ℕ → List ℕ → ℕ → List ℕ
checked_in b p rows t = row_text_at b p (get_or rows (2 * t + 1) 0)

-- HOW MUCH ROOM A WINDOW'S BUFFER HAS, in bytes: pieces of 36 for 1,024 lines, and what a window needs besides.
abbrev pub window_room : ℕ
window_room = 36 * 1024 + window_slack

-- The rows of a judged sheet with the table z of the sizes of its texts.
pub record PageAsks (b p z rows : List ℕ) (t : ℕ) : Type 0 where
  pub many : ℕ
  pub judged : RowsJudged b p rows t many
  pub table : SizesAre b p many z
  pub short : length b ≤ 65536

---------------------------------------------------------------- windows
pub record RowWindowAsks (b p z : List ℕ) (code want : ℕ) (stack o : List ℕ) : Type 0 where
  pub sort : code < 65536 → WindowAsks b p z code want stack o
  pub fits : want + window_slack ≤ length o

-- What stands in a window.
abbrev pub seen : List ℕ → Window → List ℕ
seen o w = drop w.lead (take w.end o)

---------------------------------------------------------------- lines of a row
-- The line of the row t with the number i + k, of texts that start with their piece i.
unfoldable pub window_line : ℕ → ℕ → List ℕ → List ℕ → ℕ → List ℕ
unfolding line_of decimal
window_line t i a b k = line_of (number_on t (i + k)) (piece_on k a) (piece_on k b) ++ ascii "\n"

pub record RowLinesAsk (b p z rows : List ℕ) (t i n : ℕ) (o : List ℕ) (to : ℕ) : Type 0 where
  pub count : ℕ
  pub page : PageAsks b p z rows count
  pub row : t < count
  pub low : i + n ≤ 4294967296
  pub few : n ≤ 1024
  pub fits : to + 81 * n ≤ length o

-- How many lines are written next, of those left of a row: none only where none is left or has room.
pub record StretchIs (left room r : ℕ) : Type 0 where
  pub most : r ≤ left
  pub fits : 81 * r ≤ room
  pub few : r ≤ 1024
  pub none : r ≡ 0 → 0 < left → room < 81

-- The line behind some lines of a row that is so high.
pub record GoneOn (row line high : ℕ) (r : Spot) : Type 0 where
  pub same : line < high → r ≡ record { row = row; line = line }
  pub next : high ≤ line → r ≡ record { row = row + 1; line = 0 }

---------------------------------------------------------------- the lines of all rows
-- The number of a line among those of all rows.
abbrev pub number_of : List ℕ → List ℕ → ℕ → ℕ → ℕ
number_of z rows row line = above (height_in z rows) row + line

-- A line of a row, or one behind the last.
pub record Within (z rows : List ℕ) (t row line : ℕ) : Type 0 where
  pub last : row ≤ t
  pub inside : row < t → line < height_in z rows row

pub record RowsAsk (b p z rows : List ℕ) (t : ℕ) (from : Spot) : Type 0 where
  pub page : PageAsks b p z rows t
  pub spot : Within z rows t from.row from.line

-- The lines of the rows from one line on up to another are written, from the start of the buffer on: those of the pages, over any store
-- that the rows are of. Behind the last row no line is counted that is not written.
pub record Going (b p z rows : List ℕ) (t row line : ℕ) (o : List ℕ) (row' line' : ℕ) (o' : List ℕ) (end : ℕ) : Type 0 where
  pub spot : Within z rows t row' line'
  pub on : number_of z rows row line ≤ number_of z rows row' line'
  pub lines : (n : ℕ) → RowsJudged b p rows t n
      → Wrote o 0 (lines_from (page_line (store_of b p n) (take (2 * t) rows)) (number_of z rows row line) (number_of z rows row' line' - number_of z rows row line)) o' end
  pub behind : t ≤ row' → number_of z rows row line < number_of z rows row' line' → line' ≡ 0
  pub long : length o' ≡ length o
  pub within : end ≤ length o

-- How far the lines of the rows have come: the next line's row and its number in the row, and the place behind what was written.
pub record Reached : Type 0 where
  pub row : ℕ
  pub line : ℕ
  pub end : ℕ

-- THE LINES OF THE ROWS from the line `from` on are written, as many as fit.
pub record ReachedIs (b p z rows : List ℕ) (t : ℕ) (from : Spot) (o o' : List ℕ) (r : Reached) : Type 0 where
  pub going : Going b p z rows t from.row from.line o r.row r.line o' r.end
  pub full : r.row < t → length o < r.end + 81
