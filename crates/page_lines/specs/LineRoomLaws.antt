-- Laws of the lines that are written: a blank more, what stands in a column, how long a line is.
use Rattle.std.specs.Prelude.{ℕ, zero, suc, ◌+◌, ◌*◌, ◌-◌, ◌≤◌, ◌<◌, ◌≡◌, refl, List, [], ◌∷◌, ◌++◌, length, take, drop}
use Rattle.std.proofs.Common.{sym, ap, ◌∙◌, arith, add-one, length-append, length-take, take_all}
use Rattle.std.proofs.lemmas.List.{length-replicate, replicate-append-replicate}
use native.Mathlib.Decide.{dec_lt}
use Rattle.printout_sort.specs.Text.{ascii, decimal}
use Rattle.printout_sort.specs.DecimalLaws.{ten, decimal-most}
use Rattle.printout_sort.specs.Wrote.{Wrote, TextRoom, total, wrote_as, wrote_none, wrote-more}
use Rattle.printout.specs.Whole.{lines_from}
use Rattle.printout.specs.WholeLaws.{lines_more}
use Rattle.page.specs.Page.{blanks, justified, filled, line_of}
use Rattle.page.specs.Numbered.{number_on, blank_line}
use Rattle.page.proofs.NumberedLaws.{blank-line-length}
use Rattle.page_lines.specs.Line.{LineRoom}

---------------------------------------------------------------- blanks
pub blanks-long : (n : ℕ) → length (blanks n) ≡ n
blanks-long n = length-replicate {A = ℕ} n 32

-- One blank more.
pub blanks-more : {o : List ℕ} {to : ℕ} (n : ℕ) {o₁ : List ℕ} {e : ℕ} {o₂ : List ℕ} {d : ℕ} → Wrote o to (blanks n) o₁ e → Wrote o₁ e (32 ∷ []) o₂ d
    → Wrote o to (blanks (n + 1)) o₂ d
blanks-more n v w = wrote_as (replicate-append-replicate n 1 32) (wrote-more v w)

---------------------------------------------------------------- the number column
pub decimal-few : (t : ℕ) → t < 100000 → length (decimal t) ≤ 5
unfolding ten
decimal-few t h = decimal-most 4 t h

pub number-long : (t i : ℕ) → t < 100000 → length (number_on t i) ≡ 6
number-long t zero h =
    omega (arith, decimal-few t h, length-append (blanks (6 - length (decimal t))) (decimal t), blanks-long (6 - length (decimal t)))
number-long t (suc i) h = blanks-long 6

-- On the first line the number stands behind blanks; below there are blanks only.
pub number-first : (t i : ℕ) → i ≡ 0 → justified 6 (decimal t) ≡ number_on t i
number-first t zero e = refl
number-first t (suc i) e = absurd (omega arith)

pub number-below : (t i : ℕ) → (i ≡ 0 → ⊥) → blanks 6 ≡ number_on t i
number-below t zero h = absurd (h refl)
number-below t (suc i) h = refl

---------------------------------------------------------------- a column
-- A piece is as much of a text as its column holds.
pub piece-is : (l : List ℕ) {n : ℕ} → n ≤ 36 → n ≤ length l → (n < 36 → length l ≤ n) → take n l ≡ take 36 l
piece-is l {n} few within whole = go (dec_lt n 36)
  where
    go : Dec (n < 36) → take n l ≡ take 36 l
    go (yes h) = take_all n l (whole h) ∙ sym (take_all 36 l (omega (arith, whole h)))
    go (no h) = let e : n ≡ 36 = omega arith in ap (λ (k : ℕ). take k l) e

pub column-long : (l : List ℕ) → length (filled 36 (take 36 l)) ≡ 36
column-long l =
    let t = take 36 l in
    omega (arith, length-take 36 l, length-append t (blanks (36 - length t)), blanks-long (36 - length t))

-- A piece, and the blanks behind it.
pub column-some : (l : List ℕ) (n : ℕ) {o : List ℕ} {to : ℕ} {o₁ : List ℕ} {e : ℕ} {o₂ : List ℕ} {d : ℕ} → take n l ≡ take 36 l → Wrote o to (take n l) o₁ e
    → Wrote o₁ e (blanks (36 - length (take n l))) o₂ d → Wrote o to (filled 36 (take 36 l)) o₂ d
column-some l n q v w = wrote_as (ap (filled 36) q) (wrote-more v w)

---------------------------------------------------------------- a line
-- The texts of a line, one behind the other, and room for them.
abbrev pub line_texts : List ℕ → List ℕ → List ℕ → List (List ℕ)
line_texts number a b = number ∷ ascii " " ∷ filled 36 a ∷ ascii " " ∷ filled 36 b ∷ ascii "\n" ∷ []

pub line-room : {t : ℕ} {o : List ℕ} {to : ℕ} (i : ℕ) (one two : List ℕ) → LineRoom t o to
    → TextRoom o to (line_texts (number_on t i) (take 36 one) (take 36 two))
unfolding total
line-room {t} i one two r =
    record { fits = omega (arith, r.fits, number-long t i r.few, column-long one, column-long two) }

pub line_wrote : (a b : List ℕ) {n o : List ℕ} {to : ℕ} {o₁ : List ℕ} {e₁ : ℕ} {o₂ : List ℕ} {e₂ : ℕ} {o₃ : List ℕ} {e₃ : ℕ} {o₄ : List ℕ} {e₄ : ℕ} {o₅ : List ℕ} {e₅ : ℕ}
    {o₆ : List ℕ} {e₆ : ℕ} → Wrote o to n o₁ e₁ → Wrote o₁ e₁ (ascii " ") o₂ e₂ → Wrote o₂ e₂ (filled 36 a) o₃ e₃
    → Wrote o₃ e₃ (ascii " ") o₄ e₄ → Wrote o₄ e₄ (filled 36 b) o₅ e₅ → Wrote o₅ e₅ (ascii "\n") o₆ e₆
    → Wrote o to (line_of n a b ++ ascii "\n") o₆ e₆
unfolding line_of
line_wrote a b w₁ w₂ w₃ w₄ w₅ w₆ = wrote-more (wrote-more w₁ (wrote-more w₂ (wrote-more w₃ (wrote-more w₄ w₅)))) w₆

---------------------------------------------------------------- lines of blanks
pub blank-lines-long : (k n : ℕ) → length (lines_from (λ i. blank_line) k n) ≡ 81 * n
unfolding lines_from
blank-lines-long k zero = refl
blank-lines-long k (suc n) =
    omega (arith, length-append blank_line (lines_from (λ i. blank_line) (suc k) n), blank-line-length, blank-lines-long (suc k) n)

pub blank-lines-none : (o : List ℕ) (to : ℕ) → to ≤ length o → Wrote o to (lines_from (λ i. blank_line) 0 0) o to
unfolding lines_from
blank-lines-none o to h = wrote_none o to h

pub blank-lines-more : {o : List ℕ} {to : ℕ} (n : ℕ) {o₁ : List ℕ} {e : ℕ} {o₂ : List ℕ} {d : ℕ} → Wrote o to (lines_from (λ i. blank_line) 0 n) o₁ e
    → Wrote o₁ e blank_line o₂ d → Wrote o to (lines_from (λ i. blank_line) 0 (n + 1)) o₂ d
blank-lines-more n v w =
    wrote_as (sym (lines_more (λ i. blank_line) 0 n) ∙ ap (lines_from (λ i. blank_line) 0) (sym (add-one n))) (wrote-more v w)
