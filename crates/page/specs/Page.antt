-- The page for the rule meeting (document 02, A.13): "A second program prints the rows, a refused sheet as before, on lines of exactly
-- 80 columns". Definitions only.
use Rattle.std.specs.Prelude.{ℕ, zero, suc, ◌-◌, ◌/◌, ◌%◌, cond, List, [], ◌∷◌, ◌++◌, length, take, drop, replicate, leb}
use Rattle.record.specs.Sort.{Sort}
use Rattle.reader.specs.Reader.{refusal_number}
use Rattle.judge_rules.specs.Judged.{Judgement, sheet_refused, accepted}
use Rattle.printout_sort.specs.Text.{ascii, decimal}
use Rattle.printout.specs.Lines.{row_text, refusal_line}

---------------------------------------------------------------- a line
-- Blanks: bytes 32.
abbrev pub blanks : ℕ → List ℕ
blanks n = replicate n 32

-- "right-justified in 6", for a width w.
abbrev pub justified : ℕ → List ℕ → List ℕ
justified w t = blanks (w - length t) ++ t

-- "in 36 .. blanks filling", for a width w.
abbrev pub filled : ℕ → List ℕ → List ℕ
filled w t = t ++ blanks (w - length t)

-- "term number without T right-justified in 6, a space, inferred sort in 36, a space, checked sort in 36": a line, from its number
-- column and a piece of each text.
unfoldable pub line_of : List ℕ → List ℕ → List ℕ → List ℕ
line_of number a b = number ++ (ascii " " ++ (filled 36 a ++ (ascii " " ++ filled 36 b)))

---------------------------------------------------------------- a row
-- "A longer text goes on below in its column, broken at exactly 36, the number column blank": n lines of what is left of both texts.
unfoldable pub lines_below : ℕ → List ℕ → List ℕ → List (List ℕ)
unfolding line_of
lines_below zero a b = []
lines_below (suc n) a b = line_of (blanks 6) (take 36 a) (take 36 b) ∷ lines_below n (drop 36 a) (drop 36 b)

-- How many lines a text needs below its first.
abbrev pub continued : List ℕ → ℕ
continued t = (length t - 1) / 36

abbrev pub larger : ℕ → ℕ → ℕ
larger m n = cond (leb m n) n m

-- THE LINES OF A ROW: the term number t, the texts of the inferred and the checked sort. It is as high as the longer text needs.
unfoldable pub row_lines : ℕ → List ℕ → List ℕ → List (List ℕ)
unfolding line_of lines_below decimal
row_lines t a b =
    line_of (justified 6 (decimal t)) (take 36 a) (take 36 b)
    ∷ lines_below (larger (continued a) (continued b)) (drop 36 a) (drop 36 b)

-- The lines of the rows from term number t on, over a store.
unfoldable pub table_lines : List Sort → ℕ → List ℕ → List (List ℕ)
unfolding row_lines row_text
table_lines st t [] = []
table_lines st t (inferred ∷ []) = []
table_lines st t (inferred ∷ (checked ∷ rows)) = row_lines t (row_text st inferred) (row_text st checked) ++ table_lines st (suc t) rows

---------------------------------------------------------------- pages
-- How many lines fill the last page after n lines.
abbrev pub padding : ℕ → ℕ
padding n = (60 - n % 60) % 60

-- "Sixty lines make a page, the last one padded with lines of 80 blanks; without rows there is none."
unfoldable pub pages : List (List ℕ) → List (List ℕ)
pages ls = ls ++ replicate (padding (length ls)) (blanks 80)

-- Each line ends in a newline, which is no column.
unfoldable pub bytes_of : List (List ℕ) → List ℕ
bytes_of [] = []
bytes_of (l ∷ ls) = l ++ (ascii "\n" ++ bytes_of ls)

-- THE PAGES OF AN ACCEPTED SHEET, from its store and its 2T coded rows.
unfoldable pub page_of : List Sort → List ℕ → List ℕ
unfolding bytes_of pages table_lines
page_of st rows = bytes_of (pages (table_lines st 0 rows))

-- WHAT THE SECOND PROGRAM PRINTS: "the rows, a refused sheet as before". Questions are judged and not printed.
unfoldable pub paged : Judgement → List ℕ
unfolding page_of refusal_line
paged (sheet_refused e) = refusal_line (refusal_number e)
paged (accepted h st rows answers) = page_of st rows
