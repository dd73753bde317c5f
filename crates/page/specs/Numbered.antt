-- The page by the numbers of its lines: which line of which row has a number. Definitions only; `NumberedLaws` ties them to the page.
use Rattle.std.specs.Prelude.{ℕ, zero, suc, ◌+◌, ◌*◌, List, [], ◌++◌, length, get_or, take, drop}
use Rattle.record.specs.Sort.{Sort}
use Rattle.reader.specs.Reader.{refusal_number}
use Rattle.judge_rules.specs.Judged.{Judgement, sheet_refused, accepted}
use Rattle.printout_sort.specs.Text.{ascii, decimal}
use Rattle.printout.specs.Lines.{row_text, refusal_line}
use Rattle.page.specs.Page.{blanks, justified, line_of, continued, larger, table_lines, pages}

-- The number column on the line i of the row t: its number on the first, blanks below.
abbrev pub number_on : ℕ → ℕ → List ℕ
number_on t zero = justified 6 (decimal t)
number_on t (suc i) = blanks 6

-- The piece of a text on the line i of its row.
abbrev pub piece_on : ℕ → List ℕ → List ℕ
piece_on i t = take 36 (drop (36 * i) t)

-- How many lines a row with these two texts has.
abbrev pub height_of : List ℕ → List ℕ → ℕ
height_of a b = suc (larger (continued a) (continued b))

-- The line i of a row, with its newline: the term number t, the two texts.
unfoldable pub row_line : ℕ → List ℕ → List ℕ → ℕ → List ℕ
unfolding line_of decimal
row_line t a b i = line_of (number_on t i) (piece_on i a) (piece_on i b) ++ ascii "\n"

-- The two texts of the row t, among coded rows over a store.
abbrev pub inferred_of : List Sort → List ℕ → ℕ → List ℕ
inferred_of st rows t = row_text st (get_or rows (2 * t) 0)

abbrev pub checked_of : List Sort → List ℕ → ℕ → List ℕ
checked_of st rows t = row_text st (get_or rows (2 * t + 1) 0)

abbrev pub height_at : List Sort → List ℕ → ℕ → ℕ
height_at st rows t = height_of (inferred_of st rows t) (checked_of st rows t)

-- How many lines stand above the row t, from the heights of the rows.
unfoldable pub above : (ℕ → ℕ) → ℕ → ℕ
above h zero = 0
above h (suc t) = above h t + h t

-- A line of 80 blanks, with its newline.
abbrev pub blank_line : List ℕ
blank_line = blanks 80 ++ ascii "\n"

-- THE LINE n OF THE PAGES of these rows, with its newline.
unfoldable pub page_line : List Sort → List ℕ → ℕ → List ℕ
unfolding pages table_lines
page_line st rows n = get_or (pages (table_lines st 0 rows)) n [] ++ ascii "\n"

-- How many lines the pages of a judgement have, one for a refused sheet; and the line n of them, with its newline.
abbrev pub page_count : Judgement → ℕ
page_count (sheet_refused e) = 1
page_count (accepted h st rows answers) = length (pages (table_lines st 0 rows))

abbrev pub page_line_of : Judgement → ℕ → List ℕ
page_line_of (sheet_refused e) n = refusal_line (refusal_number e)
page_line_of (accepted h st rows answers) n = page_line st rows n
