-- What document 02 says of the page (A.13), of the bytes that are printed. The lines are those that newlines end (Back.lines_in), the
-- rows those that a reader finds on them (Back.read_lines).
use Rattle.std.specs.Prelude.{ℕ, zero, suc, ◌+◌, ◌*◌, ◌%◌, ◌≤◌, ◌<◌, ◌≡◌, refl, List, [], ◌∷◌, ◌++◌, length, get_or, drop, eqb}
use Rattle.std.proofs.Common.{arith, sym, ap, ◌∙◌, length-append, drop_of_length-le, drop-drop}
use Rattle.record.specs.Cases.{by_test}
use Rattle.record.specs.Sort.{Sort}
use Rattle.printout_sort.specs.Text.{ascii}
use Rattle.printout.specs.Newlines.{newlines}
use Rattle.printout.specs.PlainLaws.{Plain}
use Rattle.printout.specs.Whole.{lines_from}
use Rattle.page.specs.Page.{blanks, filled, line_of, table_lines, padding, pages, bytes_of, page_of}
use Rattle.page.specs.Numbered.{number_on, piece_on, inferred_of, checked_of, height_at, above}
use Rattle.page.specs.Back.{stripped, inferred_column, checked_column, joined, read_lines, entries_of, on_first, lines_in}
use Rattle.page.proofs.EndLaws.{row-tight}
use Rattle.page.proofs.LineLaws.{take_short, number-length, line-inferred, line-checked}
use Rattle.page.proofs.RowTheorems.{row-holds}
use Rattle.page.proofs.EachLine.{Each, pages-wide, pages-plain}
use Rattle.page.proofs.NumberedLaws.{page-count, pages-row, pages-blank}
use Rattle.page.proofs.ReadLaws.{column-joined, pages-read}

---------------------------------------------------------------- lines and newlines
line-in : (l s : List ℕ) → Plain l → lines_in (l ++ (10 ∷ s)) ≡ l ∷ lines_in s
unfolding lines_in newlines
line-in [] s h = refl
line-in (c ∷ l) s h =
    by_test (eqb c 10) (λ q. absurd (omega (arith, rw q at h))) (λ q. rw q (ap (on_first c) (line-in l s (rw q at h))))

lines-in : (ls : List (List ℕ)) → Each Plain ls → lines_in (bytes_of ls) ≡ ls
unfolding bytes_of lines_in
lines-in [] h = refl
lines-in (l ∷ ls) h =
    line-in l (bytes_of ls) (h 0 (omega arith)) ∙ ap (λ (r : List (List ℕ)). l ∷ r) (lines-in ls (λ n m. h (suc n) (omega arith)))

-- The lines that newlines end are the lines of the definition, and every byte is one of theirs.
pub page-lines : (st : List Sort) (rows : List ℕ) → lines_in (page_of st rows) ≡ pages (table_lines st 0 rows)
unfolding page_of
page-lines st rows = lines-in (pages (table_lines st 0 rows)) (λ n h. pages-plain st rows n)

pub page-whole : (st : List Sort) (rows : List ℕ) → bytes_of (lines_in (page_of st rows)) ≡ page_of st rows
unfolding page_of
page-whole st rows = ap bytes_of (page-lines st rows)

---------------------------------------------------------------- 80 columns
-- "on lines of exactly 80 columns": each has 80 bytes before its newline.
pub page-wide : (st : List Sort) (rows : List ℕ) → length rows ≤ 2000000 → (n : ℕ) → n < length (lines_in (page_of st rows))
    → length (get_or (lines_in (page_of st rows)) n []) ≡ 80
page-wide st rows h = rw (page-lines st rows) (pages-wide st rows h)

bytes-length : (ls : List (List ℕ)) → Each (λ l. length l ≡ 80) ls → length (bytes_of ls) ≡ 81 * length ls
unfolding bytes_of
bytes-length [] h = refl
bytes-length (l ∷ ls) h =
    omega (arith, length-append l (ascii "\n" ++ bytes_of ls), h 0 (omega arith), bytes-length ls (λ n m. h (suc n) (omega arith)))

pub page-length : (st : List Sort) (rows : List ℕ) → length rows ≤ 2000000
    → length (page_of st rows) ≡ 81 * length (lines_in (page_of st rows))
page-length st rows h = ap length (sym (page-whole st rows)) ∙ bytes-length (lines_in (page_of st rows)) (page-wide st rows h)

---------------------------------------------------------------- pages of sixty
-- "without rows there is none"
pub page-none : (st : List Sort) → page_of st [] ≡ []
unfolding page_of
page-none st = refl

module _ (st : List Sort) (rows : List ℕ) (T : ℕ) (even : length rows ≡ 2 * T) where
  lines-many : length (lines_in (page_of st rows)) ≡ above (height_at st rows) T + padding (above (height_at st rows) T)
  lines-many = ap length (page-lines st rows) ∙ page-count st rows T even

  -- "Sixty lines make a page": the lines are whole pages,
  pub page-sixty : length (lines_in (page_of st rows)) % 60 ≡ 0
  page-sixty = omega (arith, lines-many)

  -- they hold the rows' lines, and any whole pages that hold these are as many or more;
  pub page-holds : above (height_at st rows) T ≤ length (lines_in (page_of st rows))
  page-holds = omega (arith, lines-many)

  pub page-fewest : (m : ℕ) → m % 60 ≡ 0 → above (height_at st rows) T ≤ m → length (lines_in (page_of st rows)) ≤ m
  page-fewest m e h = omega (arith, lines-many)

  -- so that less than sixty lines are padding.
  pub page-short : length (lines_in (page_of st rows)) < above (height_at st rows) T + 60
  page-short = omega (arith, lines-many)

  ---------------------------------------------------------------- what stands on a line
  -- "term number without T right-justified in 6, a space, inferred sort in 36, a space, checked sort in 36, blanks filling. A longer
  -- text goes on below in its column, broken at exactly 36, the number column blank": the line i of the row t.
  pub page-row-line : (t i : ℕ) → t < T → i < height_at st rows t
      → get_or (lines_in (page_of st rows)) (above (height_at st rows) t + i) []
      ≡ line_of (number_on t i) (piece_on i (inferred_of st rows t)) (piece_on i (checked_of st rows t))
  page-row-line t i l m = rw (page-lines st rows) (pages-row st rows T even t i l m)

  -- "the last one padded with lines of 80 blanks"
  pub page-blank-line : (n : ℕ) → above (height_at st rows) T ≤ n → n < length (lines_in (page_of st rows))
      → get_or (lines_in (page_of st rows)) n [] ≡ blanks 80
  page-blank-line = rw (page-lines st rows) (pages-blank st rows T even)

---------------------------------------------------------------- joining
-- Pieces from the line k of a text on, joined.
pieces-joined : (a : List ℕ) (f : ℕ → List ℕ) (m k : ℕ) → ((i : ℕ) → i < k + m → f i ≡ filled 36 (piece_on i a)) → length a ≤ 36 * (k + m)
    → stripped (lines_from f k m) ≡ stripped (drop (36 * k) a)
unfolding lines_from
pieces-joined a f zero k h l = ap stripped (sym (drop_of_length-le a {i = 36 * k} (omega arith)))
pieces-joined a f (suc m) k h l =
    let e : 36 * suc k ≡ 36 * k + 36 = omega arith in
    ap (λ (x : List ℕ). stripped (x ++ lines_from f (suc k) m)) (h k (omega arith))
    ∙ column-joined (drop (36 * k) a) (lines_from f (suc k) m)
    (pieces-joined a f m (suc k) (λ i o. h i (omega arith)) (omega arith)
    ∙ ap stripped (ap (λ (j : ℕ). drop j a) e ∙ sym (drop-drop 36 (36 * k) a)))

-- "Joining a column's pieces gives the printed text, without its filling blanks", in both columns of the row t.
module _ (st : List Sort) (rows : List ℕ) (T : ℕ) (even : length rows ≡ 2 * T) (few : T ≤ 1000000) (t : ℕ) (low : t < T) where
  pub page-inferred : stripped (joined inferred_column (lines_in (page_of st rows)) (above (height_at st rows) t) (height_at st rows t))
      ≡ inferred_of st rows t
  page-inferred =
      let a = inferred_of st rows t in
      let b = checked_of st rows t in
      pieces-joined a (λ i. inferred_column (get_or (lines_in (page_of st rows)) (above (height_at st rows) t + i) [])) (height_at st rows t) 0
      (λ i m.
      ap inferred_column (page-row-line st rows T even t i low (omega arith))
      ∙ line-inferred (number_on t i) (piece_on i a) (piece_on i b) (number-length t i (omega arith)) (take_short 36 (drop (36 * i) a)))
      (omega (arith, (row-holds a b).0))
      ∙ row-tight st (get_or rows (2 * t) 0)

  pub page-checked : stripped (joined checked_column (lines_in (page_of st rows)) (above (height_at st rows) t) (height_at st rows t))
      ≡ checked_of st rows t
  page-checked =
      let a = inferred_of st rows t in
      let b = checked_of st rows t in
      pieces-joined b (λ i. checked_column (get_or (lines_in (page_of st rows)) (above (height_at st rows) t + i) [])) (height_at st rows t) 0
      (λ i m.
      ap checked_column (page-row-line st rows T even t i low (omega arith))
      ∙ line-checked (number_on t i) (piece_on i a) (piece_on i b) (number-length t i (omega arith)) (take_short 36 (drop (36 * i) a))
      (take_short 36 (drop (36 * i) b)))
      (omega (arith, (row-holds a b).1))
      ∙ row-tight st (get_or rows (2 * t + 1) 0)

-- And without knowing where a row starts: a reader who takes a line with a number for the start of a row, and joins the pieces below
-- it, finds every row in order, with its number and both texts as the first program prints them.
pub page-read : (st : List Sort) (rows : List ℕ) → length rows ≤ 2000000
    → (read_lines (lines_in (page_of st rows))).entries ≡ entries_of st 0 rows
page-read st rows h = rw (page-lines st rows) (pages-read st rows h)
