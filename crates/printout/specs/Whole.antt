-- The printout of a whole sheet, line by line: what is asked of the buffers that a judged sheet leaves, and what a piece of the
-- printout is.
use Rattle.std.specs.Prelude.{ℕ, zero, suc, ◌+◌, ◌*◌, ◌-◌, ◌≤◌, ◌<◌, ◌≡◌, cond, List, [], ◌++◌, length, get_or, ltb}
use Rattle.record.specs.Sort.{Sort, size}
use Rattle.record.specs.Decode.{store_of, sort_at, Stored}
use Rattle.printout_sort.specs.Wrote.{Wrote}
use Rattle.printout.specs.declared.whole.Piece.{Piece}
use Rattle.printout.specs.Lines.{term_line, question_line}
use Rattle.printout.specs.LineAsks.{Shown, ShownIs, RowKnown}

-- The line with the number k of a sheet of t terms: its terms' lines, then its questions'.
unfoldable pub line_at : List Sort → List ℕ → List ℕ → List ℕ → ℕ → ℕ → List ℕ
unfolding term_line question_line
line_at st rows kinds answers t k =
    cond (ltb k t) (term_line st k (get_or rows (2 * k) 0) (get_or rows (2 * k + 1) 0)) (question_line st (k - t) (get_or kinds (k - t) 0) (get_or answers (k - t) 0))

-- m lines from the number k on.
unfoldable pub lines_from : (ℕ → List ℕ) → ℕ → ℕ → List ℕ
lines_from f k zero = []
lines_from f k (suc m) = f k ++ lines_from f (suc k) m

-- A store of n sorts within the limit of their trees, and t terms and q questions whose rows and answers are of it.
pub record Judged (b p rows kinds answers : List ℕ) (t q n : ℕ) : Type 0 where
  pub stored : Stored b p n
  pub small : (k : ℕ) → k < n → size (sort_at b p n k) ≤ 4096
  pub terms : 2 * t ≤ length rows
  pub questions : q ≤ length answers
  pub asked : q ≤ length kinds
  pub few : t ≤ 4096
  pub fewer : q ≤ 1024
  pub row : (i : ℕ) → i < 2 * t → RowKnown n (get_or rows i 0)
  pub answer : (i : ℕ) → i < q → (get_or kinds i 0 ≡ 0 → ⊥) → RowKnown n (get_or answers i 0)

pub record LineAsks (b p rows kinds answers : List ℕ) (t q k : ℕ) : Type 0 where
  pub many : ℕ
  pub judged : Judged b p rows kinds answers t q many
  pub number : k < t + q

abbrev pub LineHas : List ℕ → List ℕ → List ℕ → List ℕ → List ℕ → ℕ → ℕ → ℕ → List ℕ → ℕ → List ℕ → Shown → Type 0
LineHas b p rows kinds answers t q k o to o' r =
    (n : ℕ) → Judged b p rows kinds answers t q n → ShownIs o to (line_at (store_of b p n) rows kinds answers t k) o' r

pub record PieceAsks (b p rows kinds answers : List ℕ) (t q from : ℕ) : Type 0 where
  pub many : ℕ
  pub judged : Judged b p rows kinds answers t q many
  pub number : from ≤ t + q

-- A PIECE: the lines from `from` on up to another one, from the start of the buffer on. It goes on where a line is left that fits
-- the buffer.
pub record PieceIs (b p rows kinds answers : List ℕ) (t q from : ℕ) (o o' : List ℕ) (n : ℕ) (r : Piece) : Type 0 where
  pub lines : from ≤ r.next
  pub last : r.next ≤ t + q
  pub text : Wrote o 0 (lines_from (λ k. line_at (store_of b p n) rows kinds answers t k) from (r.next - from)) o' r.end
  pub full : r.next < t + q → length o < r.end + length (line_at (store_of b p n) rows kinds answers t r.next)

abbrev pub PieceHas : List ℕ → List ℕ → List ℕ → List ℕ → List ℕ → ℕ → ℕ → ℕ → List ℕ → List ℕ → Piece → Type 0
PieceHas b p rows kinds answers t q from o o' r = (n : ℕ) → Judged b p rows kinds answers t q n → PieceIs b p rows kinds answers t q from o o' n r
