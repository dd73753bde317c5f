-- What a reader of the page finds on the lines of a row, of the rows, and of the padding.
use Rattle.std.specs.Prelude.{ℕ, zero, suc, ◌+◌, ◌*◌, ◌-◌, ◌/◌, ◌%◌, ◌≤◌, ◌<◌, ◌≡◌, refl, true, false, List, [], ◌∷◌, ◌++◌, length, get_or, take, drop, replicate, eqb, leb}
use Rattle.std.proofs.Common.{arith, sym, ap, ◌∙◌, append-nil, append_assoc, length-drop, take-append-drop, drop_of_length-le, length-take-le, leb-true, leb-false, ne_eqb}
use Rattle.record.specs.Cases.{by_test}
use Rattle.record.specs.Sort.{Sort}
use Rattle.printout_sort.specs.Text.{ahead, digits, decimal}
use Rattle.printout_sort.specs.DecimalLaws.{decimal-divided}
use Rattle.printout.specs.Lines.{row_text}
use Rattle.page.specs.Page.{blanks, filled, line_of, lines_below, continued, larger, row_lines, table_lines, padding, pages}
use Rattle.page.specs.Numbered.{number_on}
use Rattle.page.specs.Back.{stripped, unled, all_blank, inferred_column, checked_column, Entry, Reading, read_line, read_lines, entries_of}
use Rattle.page.proofs.EndLaws.{stripped-joined, stripped-blanks, row-tight}
use Rattle.page.proofs.LineLaws.{take_short, number-length, line-number, line-inferred, line-checked}
use Rattle.page.proofs.RowTheorems.{larger-both}

---------------------------------------------------------------- joining
-- A PIECE AND WHAT IS JOINED BELOW IT give the text, without blanks at its end.
pub column-joined : (a x : List ℕ) → stripped x ≡ stripped (drop 36 a) → stripped (filled 36 (take 36 a) ++ x) ≡ stripped a
unfolding stripped
column-joined a x e =
    let k = 36 - length (take 36 a) in
    ap stripped (append_assoc (take 36 a) (blanks k) x)
    ∙ stripped-joined (take 36 a) (blanks k ++ x) (drop 36 a)
    (by_test (leb (length a) 36)
    (λ q.
    let n : stripped (drop 36 a) ≡ [] = ap stripped (drop_of_length-le a (leb-true (length a) 36 q)) in
    stripped-blanks k x (e ∙ n) ∙ sym n)
    (λ q.
    let z : k ≡ 0 = omega (arith, leb-false (length a) 36 q, length-take-le 36 a (omega (arith, leb-false (length a) 36 q))) in
    ap (λ (j : ℕ). stripped (blanks j ++ x)) z ∙ e))
    ∙ ap stripped (take-append-drop 36 a)

---------------------------------------------------------------- lines below the first
-- Above the rows es stand these texts of a row that starts before them.
pub record Below (a b : List ℕ) (es : List Entry) (r : Reading) : Type 0 where
  pub left_is : stripped r.left ≡ stripped a
  pub right_is : stripped r.right ≡ stripped b
  pub same : r.entries ≡ es

no_bytes : (l : List ℕ) → length l ≤ 0 → l ≡ []
no_bytes [] h = refl
no_bytes (x ∷ xs) h = absurd (omega arith)

blank-number : all_blank (blanks 6) ≡ true
unfolding all_blank
blank-number = refl

-- One line more of a row below its first.
step-below : (a b : List ℕ) (es : List Entry) (r : Reading) → Below (drop 36 a) (drop 36 b) es r
    → Below a b es (read_line (line_of (blanks 6) (take 36 a) (take 36 b)) r)
step-below a b es r h =
    let x = take 36 a in
    let y = take 36 b in
    let i : stripped (inferred_column (line_of (blanks 6) x y) ++ r.left) ≡ stripped a =
    ap (λ (c : List ℕ). stripped (c ++ r.left)) (line-inferred (blanks 6) x y refl (take_short 36 a))
    ∙ column-joined a r.left h.left_is in
    let c : stripped (checked_column (line_of (blanks 6) x y) ++ r.right) ≡ stripped b =
    ap (λ (c : List ℕ). stripped (c ++ r.right)) (line-checked (blanks 6) x y refl (take_short 36 a) (take_short 36 b))
    ∙ column-joined b r.right h.right_is in
    rw (ap all_blank (line-number (blanks 6) x y refl) ∙ blank-number) (record { left_is = i; right_is = c; same = h.same })

below-read : (n : ℕ) (a b : List ℕ) (es : List Entry) (ls : List (List ℕ)) → length a ≤ 36 * n → length b ≤ 36 * n
    → Below [] [] es (read_lines ls) → Below a b es (read_lines (lines_below n a b ++ ls))
unfolding lines_below read_lines
below-read zero a b es ls f g h = rw (no_bytes a f, no_bytes b g) h
below-read (suc n) a b es ls f g h =
    step-below a b es (read_lines (lines_below n (drop 36 a) (drop 36 b) ++ ls))
    (below-read n (drop 36 a) (drop 36 b) es ls (omega (arith, length-drop 36 a)) (omega (arith, length-drop 36 b)) h)

---------------------------------------------------------------- the number
-- The first byte, if any, is no blank.
abbrev Solid : List ℕ → Type 0
Solid l = eqb (get_or l 0 0) 32 ≡ false

solid-joined : (xs : List ℕ) (y : ℕ) → Solid xs → eqb y 32 ≡ false → Solid (xs ++ (y ∷ []))
solid-joined [] y e f = f
solid-joined (x ∷ xs) y e f = e

solid-ahead : (F : ℕ → List ℕ) (q : ℕ) → ((p : ℕ) → Solid (F p)) → Solid (ahead q F)
solid-ahead F zero h = refl
solid-ahead F (suc q) h = h (suc q)

solid-digits : (f n : ℕ) → Solid (digits f n)
unfolding digits
solid-digits zero n = refl
solid-digits (suc f) n =
    solid-joined (ahead (n / 10) (λ q. digits f q)) (48 + n % 10) (solid-ahead (λ q. digits f q) (n / 10) (solid-digits f))
    (ne_eqb (48 + n % 10) 32 (λ e. omega arith))

solid-decimal : (n : ℕ) → Solid (decimal n)
unfolding decimal
solid-decimal n = solid-digits (suc n) n

unled-blanks : (k : ℕ) (l : List ℕ) → Solid l → unled (blanks k ++ l) ≡ l
unfolding unled
unled-blanks zero [] h = refl
unled-blanks zero (x ∷ xs) h = rw h refl
unled-blanks (suc k) l h = unled-blanks k l h

not-blank : (k : ℕ) (l : List ℕ) → Solid l → 0 < length l → all_blank (blanks k ++ l) ≡ false
unfolding all_blank
not-blank zero [] h p = absurd (omega arith)
not-blank zero (x ∷ xs) h p = rw h refl
not-blank (suc k) l h p = not-blank k l h p

---------------------------------------------------------------- rows
assembled : {n n' i i' c c' : List ℕ} {es es' : List Entry} → n ≡ n' → i ≡ i' → c ≡ c' → es ≡ es'
    → ◌≡◌ {A = List Entry} (record { number = n; inferred = i; checked = c } ∷ es)
    (record { number = n'; inferred = i'; checked = c' } ∷ es')
assembled x y v s = λ j. record { number = x j; inferred = y j; checked = v j } ∷ s j

-- THE LINES OF A ROW give back its number and, without blanks at their ends, its texts, and leave the rows behind it.
row_read : (t : ℕ) (a b : List ℕ) (es : List Entry) (ls : List (List ℕ)) → t < 1000000 → Below [] [] es (read_lines ls)
    → Below [] [] (record { number = decimal t; inferred = stripped a; checked = stripped b } ∷ es) (read_lines (row_lines t a b ++ ls))
unfolding row_lines read_lines
row_read t a b es ls h z =
    let n = number_on t 0 in
    let w = number-length t 0 h in
    let m = larger (continued a) (continued b) in
    let g = larger-both (continued a) (continued b) in
    let r = read_lines (lines_below m (drop 36 a) (drop 36 b) ++ ls) in
    let R = below-read m (drop 36 a) (drop 36 b) es ls (omega (arith, length-drop 36 a, g.0)) (omega (arith, length-drop 36 b, g.1)) z in
    let e = line-number n (take 36 a) (take 36 b) w in
    let k = 6 - length (decimal t) in
    let number = ap unled e ∙ unled-blanks k (decimal t) (solid-decimal t) in
    let inferred = ap (λ (c : List ℕ). stripped (c ++ r.left)) (line-inferred n (take 36 a) (take 36 b) w (take_short 36 a))
    ∙ column-joined a r.left R.left_is in
    let checked = ap (λ (c : List ℕ). stripped (c ++ r.right))
    (line-checked n (take 36 a) (take 36 b) w (take_short 36 a) (take_short 36 b))
    ∙ column-joined b r.right R.right_is in
    rw (ap all_blank e ∙ not-blank k (decimal t) (solid-decimal t) (omega (arith, decimal-divided t)))
    (record { left_is = refl; right_is = refl; same = assembled number inferred checked R.same })

table-read : (st : List Sort) (t : ℕ) (rows : List ℕ) (es : List Entry) (ls : List (List ℕ)) → 2 * t + length rows ≤ 2000000
    → Below [] [] es (read_lines ls) → Below [] [] (entries_of st t rows ++ es) (read_lines (table_lines st t rows ++ ls))
unfolding table_lines entries_of
table-read st t [] es ls h z = z
table-read st t (i ∷ []) es ls h z = z
table-read st t (i ∷ (c ∷ rows)) es ls h z =
    let R = row_read t (row_text st i) (row_text st c) (entries_of st (suc t) rows ++ es) (table_lines st (suc t) rows ++ ls) (omega arith)
    (table-read st (suc t) rows es ls (omega arith) z) in
    rw (append_assoc (row_lines t (row_text st i) (row_text st c)) (table_lines st (suc t) rows) ls) (rw (row-tight st i, row-tight st c) at R)

-- Padding holds no row, and nothing of the row before it.
padding-read : (k : ℕ) → Below [] [] [] (read_lines (replicate k (blanks 80)))
unfolding read_lines line_of
padding-read zero = record { left_is = refl; right_is = refl; same = refl }
padding-read (suc k) = step-below [] [] [] (read_lines (replicate k (blanks 80))) (padding-read k)

-- THE ROWS THAT A READER FINDS on the pages are those that were printed.
pub pages-read : (st : List Sort) (rows : List ℕ) → length rows ≤ 2000000
    → (read_lines (pages (table_lines st 0 rows))).entries ≡ entries_of st 0 rows
unfolding pages
pages-read st rows h =
    let k = padding (length (table_lines st 0 rows)) in
    (table-read st 0 rows [] (replicate k (blanks 80)) (omega arith) (padding-read k)).same ∙ append-nil (entries_of st 0 rows)
