-- How long rows, answers and lines are at most: a row fits `sort_room` bytes, a checked one `checked_room`, a line `line_room`.
use Rattle.std.specs.Prelude.{ℕ, ◌/◌, ◌≤◌, ◌<◌, ◌≡◌, refl, Bool, true, false, cond, List, ◌++◌, length, eqb, ltb}
use Rattle.std.proofs.Common.{ap, ltb-true, ltb-false}
use native.Mathlib.Omega.{arith}
use Rattle.std.proofs.Math.ListN.{length-append}
use Rattle.std.proofs.lemmas.Bool.{eqb-false}
use Rattle.record.specs.Sort.{Sort, size}
use Rattle.record.specs.Decode.{store_of, sort_at, Stored}
use Rattle.record.specs.Codec.{Bytes}
use Rattle.printout_sort.specs.Text.{ascii, decimal, text}
use Rattle.printout_sort.specs.Trees.{sort_room, checked_room}
use Rattle.printout_sort.specs.TextLaws.{pars, decimal-short, text-fits, text-fits-one}
use Rattle.printout.specs.Lines.{row_text, answer_text, term_line, question_line, line_room}
use Rattle.printout.specs.LineAsks.{RowKnown}
use Rattle.printout.specs.LineLaws.{sort-by, refused-by, refusal-length}

-- The rows and the lines of terms over a well-formed store.
module _ (b p : List ℕ) (n : ℕ) (stored : Stored b p n) (bytes : Bytes b) where
  row_by : (m code : ℕ) → code < 4294967296 → 7 ≤ m → (code < 65536 → length (text (sort_at b p n code)) < m) → length (row_text (store_of b p n) code) < m
  row_by m code u32 some h = go (ltb code 65536) refl
    where
      go : (t : Bool) → ltb code 65536 ≡ t → length (row_text (store_of b p n) code) < m
      go true e = let o = ltb-true code 65536 e in omega (arith, ap length (sort-by b p n code o), h o)
      go false e =
          let o = ltb-false code 65536 e in
          omega (
            arith,
            ap length (refused-by (store_of b p n) code o),
            refusal-length (code / 65536),
            decimal-short (code / 65536) (omega arith),
          )

  module _ (code : ℕ) (u32 : code < 4294967296) (known : RowKnown n code) (small : code < 65536 → size (sort_at b p n code) ≤ 4096) where
    pub row_fits : length (row_text (store_of b p n) code) < sort_room
    row_fits = row_by sort_room code u32 (omega arith) (λ h. text-fits b p n stored bytes code (known h) (small h))

    pub row-fits-one : (code < 65536 → pars (sort_at b p n code) ≤ 1) → length (row_text (store_of b p n) code) < checked_room
    row-fits-one one = row_by checked_room code u32 (omega arith) (λ h. text-fits-one b p n stored bytes code (known h) (small h) (one h))

  -- `line_room` bytes hold the line of a term whose checked sort has at most one Par.
  pub term_fits : (t i c : ℕ) → t < 65536 → length (row_text (store_of b p n) i) < sort_room → length (row_text (store_of b p n) c) < checked_room
      → length (term_line (store_of b p n) t i c) ≤ line_room
  unfolding term_line
  term_fits t i c h fi fc =
      let x = row_text (store_of b p n) i in
      let y = row_text (store_of b p n) c in
      omega (
        arith,
        decimal-short t h,
        length-append (decimal t) (ascii " " ++ (x ++ (ascii " " ++ (y ++ ascii "\n")))),
        length-append x (ascii " " ++ (y ++ ascii "\n")),
        length-append y (ascii "\n"),
      )

-- An answer and the line of a question are shorter.
answer-by : (s t : Bool) (x : List ℕ) → (s ≡ false → length x < sort_room) → length (cond s (cond t (ascii "no") (ascii "yes")) x) < sort_room
answer-by true true x h = omega arith
answer-by true false x h = omega arith
answer-by false t x h = h refl

pub answer-fits : (st : List Sort) (kind code : ℕ) → ((kind ≡ 0 → ⊥) → length (row_text st code) < sort_room) → length (answer_text st kind code) < sort_room
unfolding answer_text
answer-fits st kind code h = answer-by (eqb kind 0) (eqb code 0) (row_text st code) (λ e. h (eqb-false kind 0 e))

pub question-fits : (st : List Sort) (q kind code : ℕ) → q < 65536 → length (answer_text st kind code) < sort_room → length (question_line st q kind code) ≤ line_room
unfolding question_line
question-fits st q kind code h f =
    let x = answer_text st kind code in
    omega (arith, decimal-short q h, length-append (decimal q) (ascii " " ++ (x ++ ascii "\n")), length-append x (ascii "\n"))
