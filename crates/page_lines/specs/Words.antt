-- The words of Heights.antt, Rows.antt and Pages.antt over the rows of a judged sheet and the buffer that is written. Definitions only.
use Rattle.std.specs.Prelude.{ℕ, ◌+◌, ◌*◌, List, get_or}
use Rattle.printout_sort.specs.declared.buffer.TextBuffer.{TextBuffer}
use Rattle.printout.specs.declared.whole.Piece.{Piece}
use Rattle.printout.specs.LineAsks.{row_text_at}
use Rattle.page.specs.Numbered.{row_line}
use Rattle.page_lines.specs.declared.heights.Spot.{Spot}
use Rattle.page_lines.specs.declared.paged.PagedRows.{PagedRows}
use Rattle.page_lines.specs.Heights.{height_in, HeightAsks, HeightsAsk, SpotIs}
use Rattle.page_lines.specs.Rows.{PageAsks, RowWindowAsks, RowLinesAsk, inferred_in, checked_in, RowsAsk, ReachedIs}
use Rattle.page_lines.specs.Pages.{PageHas}

---------------------------------------------------------------- heights
-- Asked of the two codes of the row t alone, and of all rows.
abbrev pub HeightAsked : PagedRows → ℕ → Type 0
HeightAsked p t = HeightAsks p.sizes.now (get_or p.rows.now (2 * t) 0) (get_or p.rows.now (2 * t + 1) 0)

abbrev pub HeightsAsked : PagedRows → Type 0
HeightsAsked p = HeightsAsk p.sizes.now p.rows.now p.terms

abbrev pub height_of : PagedRows → ℕ → ℕ
height_of p t = height_in p.sizes.now p.rows.now t

abbrev pub SpotFound : PagedRows → ℕ → Spot → Type 0
SpotFound p n r = SpotIs p.sizes.now p.rows.now p.terms n r

---------------------------------------------------------------- rows
-- The text of a row, and the line i of the row t.
abbrev pub row_text_in : PagedRows → ℕ → List ℕ
row_text_in p code = row_text_at p.entries.records.now p.entries.places.now code

abbrev pub row_line_in : PagedRows → ℕ → ℕ → List ℕ
row_line_in p t i = row_line t (inferred_in p.entries.records.now p.entries.places.now p.rows.now t) (checked_in p.entries.records.now p.entries.places.now p.rows.now t) i

abbrev pub RowWindowAsked : PagedRows → ℕ → ℕ → List ℕ → List ℕ → Type 0
RowWindowAsked p code want stack o = RowWindowAsks p.entries.records.now p.entries.places.now p.sizes.now code want stack o

abbrev pub RowLinesAsked : PagedRows → Spot → ℕ → TextBuffer → Type 0
RowLinesAsked p from n o = RowLinesAsk p.entries.records.now p.entries.places.now p.sizes.now p.rows.now from.row from.line n o.bytes.now o.end

abbrev pub RowsAsked : PagedRows → Spot → Type 0
RowsAsked p from = RowsAsk p.entries.records.now p.entries.places.now p.sizes.now p.rows.now p.terms from

-- The lines from `from` on up to the line r are written.
abbrev pub RowsPut : PagedRows → Spot → TextBuffer → TextBuffer → Spot → Type 0
RowsPut p from o o' r =
    ReachedIs p.entries.records.now p.entries.places.now p.sizes.now p.rows.now p.terms from o.bytes.now o'.bytes.now (record { row = r.row; line = r.line; end = o'.end })

---------------------------------------------------------------- pages
abbrev pub PageAsked : PagedRows → Type 0
PageAsked p = PageAsks p.entries.records.now p.entries.places.now p.sizes.now p.rows.now p.terms

abbrev pub PageShown : PagedRows → ℕ → List ℕ → List ℕ → Piece → Type 0
PageShown p from o o' r = PageHas p.entries.records.now p.entries.places.now p.rows.now p.terms from o o' r
