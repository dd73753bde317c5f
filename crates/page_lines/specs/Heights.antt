-- How high rows are, by a table of the sizes of the store's texts; and where a line of the pages stands among them.
use Rattle.std.specs.Prelude.{ℕ, suc, ◌+◌, ◌*◌, ◌-◌, ◌/◌, ◌≤◌, ◌<◌, ◌≡◌, cond, List, length, get_or, ltb}
use Rattle.printout_sort.specs.Text.{decimal}
use Rattle.printout.specs.LineAsks.{RowKnown}
use Rattle.page.specs.Page.{larger}
use Rattle.page.specs.Numbered.{above}
use Rattle.page_lines.specs.declared.heights.Spot.{Spot}

-- The length of the text of a row, by the table z.
unfoldable pub length_by : List ℕ → ℕ → ℕ
unfolding decimal
length_by z code = cond (ltb code 65536) (get_or z code 0) (1 + length (decimal (code / 65536)))

-- How many lines a row has whose two texts are so long.
abbrev pub height_by : ℕ → ℕ → ℕ
height_by m n = suc (larger ((m - 1) / 36) ((n - 1) / 36))

-- How many lines the row t has, by the table.
unfoldable pub height_in : List ℕ → List ℕ → ℕ → ℕ
unfolding length_by
height_in z rows t = height_by (length_by z (get_or rows (2 * t) 0)) (length_by z (get_or rows (2 * t + 1) 0))

-- Rows whose sorts have a place in the table.
pub record HeightAsks (z : List ℕ) (i c : ℕ) : Type 0 where
  pub inferred : RowKnown (length z) i
  pub checked : RowKnown (length z) c

pub record HeightsAsk (z rows : List ℕ) (t : ℕ) : Type 0 where
  pub terms : 2 * t ≤ length rows
  pub few : t ≤ 4096
  pub row : (i : ℕ) → i < 2 * t → RowKnown (length z) (get_or rows i 0)

-- THE LINE n stands in the row r .row, as its line r .line; behind the last of t rows, r.line lines behind its end.
pub record SpotIs (z rows : List ℕ) (t n : ℕ) (r : Spot) : Type 0 where
  pub is : n ≡ above (height_in z rows) r.row + r.line
  pub last : r.row ≤ t
  pub inside : r.row < t → r.line < height_in z rows r.row
