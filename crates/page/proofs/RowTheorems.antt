-- The lines of one row: how many they are, and which piece of each text stands on which line.
use Rattle.std.specs.Prelude.{ℕ, zero, suc, ◌+◌, ◌*◌, ◌-◌, ◌≤◌, ◌<◌, ◌≡◌, refl, List, [], length, get_or, drop, leb}
use Rattle.std.proofs.Common.{arith, ap, ◌∙◌, drop-drop, leb-true, leb-false}
use Rattle.record.specs.Cases.{by_test}
use Rattle.page.specs.Page.{blanks, line_of, lines_below, continued, larger, row_lines}
use Rattle.page.specs.Numbered.{number_on, piece_on, height_of}

below-count : (n : ℕ) (a b : List ℕ) → length (lines_below n a b) ≡ n
unfolding lines_below
below-count zero a b = refl
below-count (suc n) a b = ap suc (below-count n _ _)

pub larger-both : (m n : ℕ) → (m ≤ larger m n) × (n ≤ larger m n)
larger-both m n =
    by_test (leb m n) (λ q. rw q (leb-true m n q, omega arith)) (λ q. rw q (omega arith, omega (arith, leb-false m n q)))

larger-least : (m n k : ℕ) → m ≤ k → n ≤ k → larger m n ≤ k
larger-least m n k f g = by_test (leb m n) (λ q. rw q g) (λ q. rw q f)

-- How many lines a row has.
pub row_count : (t : ℕ) (a b : List ℕ) → length (row_lines t a b) ≡ height_of a b
unfolding row_lines
row_count t a b = ap suc (below-count (larger (continued a) (continued b)) (drop 36 a) (drop 36 b))

-- A ROW HAS LINES FOR BOTH TEXTS,
pub row-holds : (a b : List ℕ) → (length a ≤ 36 * height_of a b) × (length b ≤ 36 * height_of a b)
row-holds a b = let l = larger-both (continued a) (continued b) in (omega (arith, l.0), omega (arith, l.1))

-- one at least, and no more than they need: "A longer text goes on below in its column".
pub row-least : (a b : List ℕ) (m : ℕ) → 0 < m → length a ≤ 36 * m → length b ≤ 36 * m → height_of a b ≤ m
row-least a b m p f g = omega (arith, larger-least (continued a) (continued b) (m - 1) (omega arith) (omega arith))

-- What is left of a text below a line, 36 bytes further down.
down : (i : ℕ) (a : List ℕ) → drop (36 * i) (drop 36 a) ≡ drop (36 * suc i) a
down i a = let e : 36 + 36 * i ≡ 36 * suc i = omega arith in drop-drop (36 * i) 36 a ∙ ap (λ (k : ℕ). drop k a) e

below-line : (n i : ℕ) (a b : List ℕ) → i < n → get_or (lines_below n a b) i [] ≡ line_of (blanks 6) (piece_on i a) (piece_on i b)
unfolding lines_below
below-line zero i a b h = absurd (omega arith)
below-line (suc n) zero a b h = refl
below-line (suc n) (suc i) a b h = rw (below-line n i (drop 36 a) (drop 36 b) (omega arith), down i a, down i b) refl

-- WHICH BYTES STAND ON WHICH LINE OF A ROW: "broken at exactly 36, the number column blank" below the first.
pub row-line : (t : ℕ) (a b : List ℕ) (i : ℕ) → i < height_of a b
    → get_or (row_lines t a b) i [] ≡ line_of (number_on t i) (piece_on i a) (piece_on i b)
unfolding row_lines
row-line t a b zero h = refl
row-line t a b (suc i) h =
    rw (below-line (larger (continued a) (continued b)) i (drop 36 a) (drop 36 b) (omega arith), down i a, down i b) refl
