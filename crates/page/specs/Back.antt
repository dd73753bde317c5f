-- A page read back: "Joining a column's pieces gives the printed text, without its filling blanks." What a reader of the page does,
-- written without the printing: a line with a number starts a row, one without goes on with it. Definitions only.
use Rattle.std.specs.Prelude.{ℕ, suc, ◌+◌, Bool, true, cond, ◌&&◌, List, [], ◌∷◌, ◌++◌, get_or, take, drop, eqb}
use Rattle.record.specs.Sort.{Sort}
use Rattle.printout_sort.specs.Text.{decimal}
use Rattle.printout.specs.Lines.{row_text}
use Rattle.printout.specs.Whole.{lines_from}

-- A text without the blanks at its end.
abbrev pub ending : ℕ → List ℕ → List ℕ
ending b [] = cond (eqb b 32) [] (b ∷ [])
ending b (c ∷ cs) = b ∷ c ∷ cs

unfoldable pub stripped : List ℕ → List ℕ
stripped [] = []
stripped (b ∷ bs) = ending b (stripped bs)

-- A text without the blanks before it.
unfoldable pub unled : List ℕ → List ℕ
unled [] = []
unled (b ∷ bs) = cond (eqb b 32) (unled bs) (b ∷ bs)

unfoldable pub all_blank : List ℕ → Bool
all_blank [] = true
all_blank (b ∷ bs) = eqb b 32 && all_blank bs

-- Columns 1 to 6, 8 to 43 and 45 to 80 of a line.
abbrev pub number_column : List ℕ → List ℕ
number_column l = take 6 l

abbrev pub inferred_column : List ℕ → List ℕ
inferred_column l = take 36 (drop 7 l)

abbrev pub checked_column : List ℕ → List ℕ
checked_column l = take 36 (drop 44 l)

-- The pieces of a column on m lines from the line n on, joined.
abbrev pub joined : (List ℕ → List ℕ) → List (List ℕ) → ℕ → ℕ → List ℕ
joined column ls n m = lines_from (λ i. column (get_or ls (n + i) [])) 0 m

-- A row as it is read: the number and the two texts.
pub record Entry : Type 0 where
  pub number : List ℕ
  pub inferred : List ℕ
  pub checked : List ℕ

-- The rows that start on some lines, and the two columns above the first of them, which belong to a row that starts before these
-- lines.
pub record Reading : Type 0 where
  pub left : List ℕ
  pub right : List ℕ
  pub entries : List Entry

abbrev pub read_line : List ℕ → Reading → Reading
read_line l r =
    cond (all_blank (number_column l))
    (record { left = inferred_column l ++ r.left; right = checked_column l ++ r.right; entries = r.entries })
    (record {
      left = [];
      right = [];
      entries = record {
        number = unled (number_column l);
        inferred = stripped (inferred_column l ++ r.left);
        checked = stripped (checked_column l ++ r.right);
      } ∷ r.entries;
    })

-- THE ROWS ON THESE LINES.
unfoldable pub read_lines : List (List ℕ) → Reading
unfolding all_blank unled stripped
read_lines [] = record { left = []; right = []; entries = [] }
read_lines (l ∷ ls) = read_line l (read_lines ls)

-- The rows as the first program prints them, from term number t on.
unfoldable pub entries_of : List Sort → ℕ → List ℕ → List Entry
unfolding decimal row_text
entries_of st t [] = []
entries_of st t (i ∷ []) = []
entries_of st t (i ∷ (c ∷ rows)) = record { number = decimal t; inferred = row_text st i; checked = row_text st c } ∷ entries_of st (suc t) rows

-- The lines of printed bytes: what stands before each newline, and what stands behind the last one, if anything.
abbrev pub on_first : ℕ → List (List ℕ) → List (List ℕ)
on_first c [] = (c ∷ []) ∷ []
on_first c (l ∷ ls) = (c ∷ l) ∷ ls

unfoldable pub lines_in : List ℕ → List (List ℕ)
lines_in [] = []
lines_in (c ∷ s) = cond (eqb c 10) ([] ∷ lines_in s) (on_first c (lines_in s))
