-- The page by the numbers of its lines: how many there are, which line of which row has a number, and that they are the printed bytes.
use Prim.Native.Nat.{ℕ, zero, suc, ◌+◌, ◌*◌, ◌-◌, ◌≤◌, ◌<◌}
use native.Mathlib.Omega.{arith}
use Rattle.std.specs.Prelude.{◌≡◌, drop, ltb}
use Rattle.std.proofs.Math.Path.{refl, sym, ap, ap₂}
use Rattle.std.proofs.Common.{◌∙◌, drop_of_length-le, ltb-true, ltb-false}
use mathlib.Core.List.{List, [], ◌∷◌, ◌++◌, append-nil, append_assoc}
use Rattle.std.proofs.Math.ListN.{length, get_or, replicate, length-append, length-replicate, get_or-replicate, get_or-append}
use Rattle.std.proofs.Math.Seq.{drop-cons, get_or-append-add}
use Rattle.record.specs.Cases.{by_test}
use Rattle.record.specs.Sort.{Sort}
use Rattle.reader.specs.Reader.{refusal_number}
use Rattle.judge_rules.specs.Judged.{Judgement, sheet_refused, accepted}
use Rattle.printout_sort.specs.Text.{ascii}
use Rattle.printout.specs.Lines.{row_text, refusal_line}
use Rattle.printout.specs.Newlines.{newlines}
use Rattle.printout.specs.PlainLaws.{before, refusal-newline}
use Rattle.printout.specs.Whole.{lines_from}
use Rattle.page.specs.Page.{blanks, line_of, row_lines, table_lines, padding, pages, bytes_of, page_of, paged}
use Rattle.page.specs.Numbered.{number_on, piece_on, row_line, inferred_of, checked_of, height_at, above}
use Rattle.page.specs.Numbered.{blank_line, page_line, page_count, page_line_of}
use Rattle.page.proofs.LineLaws.{row-wide}
use Rattle.page.proofs.RowTheorems.{row_count, row-line}
use Rattle.page.proofs.EachLine.{pages-wide, pages-plain}

---------------------------------------------------------------- lines above a row
pub above_low : (h : ℕ → ℕ) (t T : ℕ) → t < T → above h t + h t ≤ above h T
unfolding above
above_low h t zero l = absurd (omega arith)
above_low h t (suc T) l =
    by_test (ltb t T) (λ q. omega (arith, above_low h t T (ltb-true t T q)))
    (λ q. let e : t ≡ T = omega (arith, ltb-false t T q) in rw e (omega arith))

pub above-mono : (h : ℕ → ℕ) (t T : ℕ) → t ≤ T → above h t ≤ above h T
above-mono h t T l =
    by_test (ltb t T) (λ q. omega (arith, above_low h t T (ltb-true t T q)))
    (λ q. let e : t ≡ T = omega (arith, ltb-false t T q) in rw e (omega arith))

---------------------------------------------------------------- a line with its newline
ended-length : (l : List ℕ) → length l ≡ 80 → length (l ++ ascii "\n") ≡ 81
ended-length l h = omega (arith, length-append l (ascii "\n"))

pub row-line-length : (t : ℕ) (a b : List ℕ) (i : ℕ) → t < 100000 → length (row_line t a b i) ≡ 81
unfolding row_line
row-line-length t a b i h = ended-length (line_of (number_on t i) (piece_on i a) (piece_on i b)) (row-wide t i a b (omega arith))

pub blank-line-length : length blank_line ≡ 81
blank-line-length = refl

---------------------------------------------------------------- the rows' lines
-- The lines of the rows below t, one row more at the end.
unfoldable rows_above : List Sort → List ℕ → ℕ → List (List ℕ)
unfolding row_lines row_text
rows_above st rows zero = []
rows_above st rows (suc t) = rows_above st rows t ++ row_lines t (inferred_of st rows t) (checked_of st rows t)

above-count : (st : List Sort) (rows : List ℕ) (t : ℕ) → length (rows_above st rows t) ≡ above (height_at st rows) t
unfolding rows_above above
above-count st rows zero = refl
above-count st rows (suc t) =
    length-append (rows_above st rows t) (row_lines t (inferred_of st rows t) (checked_of st rows t))
    ∙ ap₂ ◌+◌ (above-count st rows t) (row_count t (inferred_of st rows t) (checked_of st rows t))

module _ (st : List Sort) (rows : List ℕ) (T : ℕ) (even : length rows ≡ 2 * T) where
  -- The row t comes first on what is left of the table there.
  row_first : (t : ℕ) → t < T
      → table_lines st t (drop (2 * t) rows)
      ≡ row_lines t (inferred_of st rows t) (checked_of st rows t) ++ table_lines st (suc t) (drop (2 * suc t) rows)
  unfolding table_lines
  row_first t l =
      let e : suc (2 * t) ≡ 2 * t + 1 = omega arith in
      let d : suc (2 * t + 1) ≡ 2 * suc t = omega arith in
      rw (drop-cons rows (2 * t) 0 (omega arith), e, drop-cons rows (2 * t + 1) 0 (omega arith), d) refl

  -- THE TABLE IN TWO, above a row and from it on.
  table_at : (t : ℕ) → t ≤ T → table_lines st 0 rows ≡ rows_above st rows t ++ table_lines st t (drop (2 * t) rows)
  unfolding rows_above
  table_at zero l = refl
  table_at (suc t) l =
      table_at t (omega arith)
      ∙ ap (λ (ls : List (List ℕ)). rows_above st rows t ++ ls) (row_first t (omega arith))
      ∙ sym
      (append_assoc (rows_above st rows t) (row_lines t (inferred_of st rows t) (checked_of st rows t))
      (table_lines st (suc t) (drop (2 * suc t) rows)))

  table-rows : table_lines st 0 rows ≡ rows_above st rows T
  unfolding table_lines
  table-rows =
      table_at T (omega arith)
      ∙ ap (λ (l : List ℕ). rows_above st rows T ++ table_lines st T l) (drop_of_length-le rows {i = 2 * T} (omega arith))
      ∙ append-nil (rows_above st rows T)

  -- HOW MANY LINES THE ROWS HAVE,
  pub table-count : length (table_lines st 0 rows) ≡ above (height_at st rows) T
  table-count = ap length table-rows ∙ above-count st rows T

  -- and how many the pages.
  pub page-count : length (pages (table_lines st 0 rows)) ≡ above (height_at st rows) T + padding (above (height_at st rows) T)
  unfolding pages
  page-count =
      let n = length (table_lines st 0 rows) in
      length-append (table_lines st 0 rows) (replicate (padding n) (blanks 80))
      ∙ ap (λ (k : ℕ). n + k) (length-replicate {A = List ℕ} (padding n) (blanks 80))
      ∙ ap (λ (k : ℕ). k + padding k) table-count

  -- THE LINE OF A ROW: the lines of the rows stand in order, each row's below those of the rows before it.
  pub pages-row : (t i : ℕ) → t < T → i < height_at st rows t
      → get_or (pages (table_lines st 0 rows)) (above (height_at st rows) t + i) []
      ≡ line_of (number_on t i) (piece_on i (inferred_of st rows t)) (piece_on i (checked_of st rows t))
  unfolding pages
  pages-row t i l m =
      let n = above (height_at st rows) t in
      let front = rows_above st rows t in
      let row = row_lines t (inferred_of st rows t) (checked_of st rows t) in
      let behind = table_lines st (suc t) (drop (2 * suc t) rows) in
      let s : table_lines st 0 rows ≡ front ++ (row ++ behind) =
      table_at t (omega arith) ∙ ap (λ (ls : List (List ℕ)). front ++ ls) (row_first t l) in
      get_or-append (table_lines st 0 rows) (replicate (padding (length (table_lines st 0 rows))) (blanks 80)) [] (n + i)
      (omega (arith, table-count, above_low (height_at st rows) t T l))
      ∙ ap₂ (λ (ls : List (List ℕ)) (k : ℕ). get_or ls (k + i) []) s (sym (above-count st rows t))
      ∙ get_or-append-add front (row ++ behind) i []
      ∙ get_or-append row behind [] i (omega (arith, row_count t (inferred_of st rows t) (checked_of st rows t)))
      ∙ row-line t (inferred_of st rows t) (checked_of st rows t) i m

  -- "the last one padded with lines of 80 blanks"
  pub pages-blank : (n : ℕ) → above (height_at st rows) T ≤ n → n < length (pages (table_lines st 0 rows))
      → get_or (pages (table_lines st 0 rows)) n [] ≡ blanks 80
  unfolding pages
  pages-blank n l m =
      let ls = table_lines st 0 rows in
      let k = padding (length ls) in
      let d : n ≡ length ls + (n - length ls) = omega (arith, table-count) in
      let f : n - length ls < k =
      omega (arith, table-count, length-append ls (replicate k (blanks 80)), length-replicate {A = List ℕ} k (blanks 80)) in
      ap (λ (j : ℕ). get_or (ls ++ replicate k (blanks 80)) j []) d
      ∙ get_or-append-add ls (replicate k (blanks 80)) (n - length ls) []
      ∙ get_or-replicate k (n - length ls) (blanks 80) [] f

  -- The same, of lines with their newlines.
  pub page-row : (t i : ℕ) → t < T → i < height_at st rows t
      → page_line st rows (above (height_at st rows) t + i) ≡ row_line t (inferred_of st rows t) (checked_of st rows t) i
  unfolding page_line row_line
  page-row t i l m = ap (λ (x : List ℕ). x ++ ascii "\n") (pages-row t i l m)

  pub page-blank : (n : ℕ) → above (height_at st rows) T ≤ n → n < length (pages (table_lines st 0 rows)) → page_line st rows n ≡ blank_line
  unfolding page_line
  page-blank n l m = ap (λ (x : List ℕ). x ++ ascii "\n") (pages-blank n l m)

  pub page-line-length : T ≤ 100000 → (n : ℕ) → n < length (pages (table_lines st 0 rows)) → length (page_line st rows n) ≡ 81
  unfolding page_line
  page-line-length l n m =
      ended-length (get_or (pages (table_lines st 0 rows)) n []) (pages-wide st rows (omega arith) n m)

---------------------------------------------------------------- the bytes
bytes-by : (f : ℕ → List ℕ) (k : ℕ) (ls : List (List ℕ)) → ((i : ℕ) → i < length ls → f (k + i) ≡ get_or ls i [] ++ ascii "\n")
    → bytes_of ls ≡ lines_from f k (length ls)
unfolding bytes_of lines_from
bytes-by f k [] h = refl
bytes-by f k (l ∷ ls) h =
    let e : k ≡ k + 0 = omega arith in
    sym (append_assoc l (ascii "\n") (bytes_of ls))
    ∙ ap₂ ◌++◌ (sym (ap f e ∙ h 0 (omega arith)))
    (bytes-by f (suc k) ls (λ i m. let d : suc k + i ≡ k + suc i = omega arith in ap f d ∙ h (suc i) (omega arith)))

-- THE PRINTED BYTES ARE THE LINES IN ORDER.
pub lines-paged : (j : Judgement) → paged j ≡ lines_from (page_line_of j) 0 (page_count j)
unfolding paged page_of page_line lines_from
lines-paged (sheet_refused e) = sym (append-nil (refusal_line (refusal_number e)))
lines-paged (accepted h st rows answers) =
    let ls = pages (table_lines st 0 rows) in
    bytes-by (page_line st rows) 0 ls (λ i m. let d : 0 + i ≡ i = omega arith in ap (page_line st rows) d)

-- Each line has one newline, its last byte.
pub page-newline : (j : Judgement) (n : ℕ) → newlines (page_line_of j n) ≡ 1
unfolding newlines page_line
page-newline (sheet_refused e) n = refusal-newline (refusal_number e)
page-newline (accepted h st rows answers) n = before 1 (get_or (pages (table_lines st 0 rows)) n []) (ascii "\n") (pages-plain st rows n) refl
