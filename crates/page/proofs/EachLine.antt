-- What holds of every line of the pages: it is enough that it holds of the lines of a row, and of a line of blanks.
use Rattle.std.specs.Prelude.{ℕ, zero, suc, ◌+◌, ◌*◌, ◌-◌, ◌≤◌, ◌<◌, ◌≡◌, refl, length, get_or, take, drop, replicate, ltb}
use Rattle.std.proofs.Common.{arith, ap, length-append, take-append-drop, get_or-append-add, ltb-true, ltb-false}
use mathlib.Core.List.{List, [], ◌∷◌, ◌++◌}
use Rattle.std.proofs.Math.ListN.{length-replicate, get_or-append, get_or-eq_default}
use Rattle.std.proofs.lemmas.List.{get_or-replicate}
use Rattle.record.specs.Cases.{by_test}
use Rattle.record.specs.Sort.{Sort}
use Rattle.printout_sort.specs.Text.{ascii, decimal}
use Rattle.printout.specs.Lines.{row_text}
use Rattle.printout.specs.Newlines.{newlines}
use Rattle.printout.specs.PlainLaws.{newlines-append, Plain, before, plain-decimal, plain_row}
use Rattle.page.specs.Page.{blanks, filled, line_of, row_lines, table_lines, padding, pages}
use Rattle.page.specs.Numbered.{number_on, piece_on}
use Rattle.page.proofs.LineLaws.{row-wide}
use Rattle.page.proofs.RowTheorems.{row_count, row-line}

abbrev pub Each : (List ℕ → Type 0) → List (List ℕ) → Type 0
Each P ls = (n : ℕ) → n < length ls → P (get_or ls n [])

module _ (P : List ℕ → Type 0) where
  each-joined : (ks ls : List (List ℕ)) → Each P ks → Each P ls → Each P (ks ++ ls)
  each-joined ks ls f g n h =
      by_test (ltb n (length ks))
      (λ q. let l : n < length ks = ltb-true n (length ks) q in rw (get_or-append ks ls [] n l) (f n l))
      (λ q.
      let i = n - length ks in
      let e : length ks + i ≡ n = omega (arith, ltb-false n (length ks) q) in
      let l : i < length ls = omega (arith, length-append ks ls) in
      rw (← e) (rw (get_or-append-add ks ls i []) (g i l)))

  pub table-each : (st : List Sort) (t : ℕ) (rows : List ℕ)
      → ((j i x y : ℕ) → 2 * j + 2 ≤ 2 * t + length rows → P (line_of (number_on j i) (piece_on i (row_text st x)) (piece_on i (row_text st y))))
      → Each P (table_lines st t rows)
  unfolding table_lines
  table-each st t [] f = λ n h. absurd (omega arith)
  table-each st t (x ∷ []) f = λ n h. absurd (omega arith)
  table-each st t (x ∷ (y ∷ rows)) f =
      let a = row_text st x in
      let b = row_text st y in
      each-joined (row_lines t a b) (table_lines st (suc t) rows)
      (λ i l. rw (row-line t a b i (omega (arith, row_count t a b))) (f t i x y (omega arith)))
      (table-each st (suc t) rows (λ j i u v l. f j i u v (omega arith)))

  pub pages-each : (ls : List (List ℕ)) → Each P ls → P (blanks 80) → Each P (pages ls)
  unfolding pages
  pages-each ls f b =
      let k = padding (length ls) in
      each-joined ls (replicate k (blanks 80)) f
      (λ i l. rw (get_or-replicate k i (blanks 80) [] (omega (arith, length-replicate {A = List ℕ} k (blanks 80)))) b)

-- EVERY LINE HAS 80 BYTES, of a million rows at most.
pub pages-wide : (st : List Sort) (rows : List ℕ) → length rows ≤ 2000000 → (n : ℕ) → n < length (pages (table_lines st 0 rows))
    → length (get_or (pages (table_lines st 0 rows)) n []) ≡ 80
pages-wide st rows h =
    pages-each (λ l. length l ≡ 80) (table_lines st 0 rows)
    (table-each (λ l. length l ≡ 80) st 0 rows (λ j i x y l. row-wide j i (row_text st x) (row_text st y) (omega arith))) refl

---------------------------------------------------------------- no newline in a line
plain-blanks : (n : ℕ) → Plain (blanks n)
unfolding newlines
plain-blanks zero = refl
plain-blanks (suc n) = plain-blanks n

plain-piece : (i : ℕ) (t : List ℕ) → Plain t → Plain (piece_on i t)
plain-piece i t h =
    let d = drop (36 * i) t in
    omega (
      arith,
      newlines-append (take 36 d) (drop 36 d),
      newlines-append (take (36 * i) t) d,
      ap newlines (take-append-drop 36 d),
      ap newlines (take-append-drop (36 * i) t),
    )

plain-number : (t i : ℕ) → Plain (number_on t i)
plain-number t zero = simp newlines-append (omega (arith, plain-blanks (6 - length (decimal t)), plain-decimal t))
plain-number t (suc i) = plain-blanks 6

plain-filled : (w : ℕ) (t : List ℕ) → Plain t → Plain (filled w t)
plain-filled w t h = simp newlines-append (omega (arith, plain-blanks (w - length t)))

plain-line : (n a b : List ℕ) → Plain n → Plain a → Plain b → Plain (line_of n a b)
unfolding newlines line_of
plain-line n a b h f g =
    before 0 n (ascii " " ++ (filled 36 a ++ (ascii " " ++ filled 36 b))) h
    (before 0 (ascii " ") (filled 36 a ++ (ascii " " ++ filled 36 b)) refl
    (before 0 (filled 36 a) (ascii " " ++ filled 36 b) (plain-filled 36 a f)
    (before 0 (ascii " ") (filled 36 b) refl (plain-filled 36 b g))))

-- NO LINE HOLDS A NEWLINE; nor does the empty text behind the last.
pub pages-plain : (st : List Sort) (rows : List ℕ) (n : ℕ) → Plain (get_or (pages (table_lines st 0 rows)) n [])
unfolding newlines
pages-plain st rows n =
    let ls = pages (table_lines st 0 rows) in
    by_test (ltb n (length ls))
    (λ q.
    pages-each Plain (table_lines st 0 rows)
    (table-each Plain st 0 rows
    (λ j i x y l.
    plain-line (number_on j i) (piece_on i (row_text st x)) (piece_on i (row_text st y)) (plain-number j i)
    (plain-piece i (row_text st x) (plain_row st x)) (plain-piece i (row_text st y) (plain_row st y))))
    (plain-blanks 80) n (ltb-true n (length ls) q))
    (λ q. ap newlines (get_or-eq_default ls [] (ltb-false n (length ls) q)))
