-- What writing rows, answers and lines asks and gives.
use Rattle.std.specs.Prelude.{ℕ, suc, ◌+◌, ◌<◌, ◌≡◌, cond, List, ◌∷◌, ◌++◌, length, eqb, Result, Ok, Err}
use Rattle.record.specs.Decode.{store_of}
use Rattle.printout_sort.specs.Text.{ascii, decimal}
use Rattle.printout_sort.specs.Wrote.{Wrote}
use Rattle.printout_sort.specs.Trees.{TextAsks}
use Rattle.printout.specs.declared.NoRoom.{NoRoom}
use Rattle.printout.specs.Lines.{row_text, answer_text, term_line, question_line}

-- What showing a text came to: it stands up to a place, or it did not fit.
pub data Shown : Type 0 where
  To : ℕ → Shown
  Full : Shown

-- That of a call that left the end of the text at e.
abbrev pub shown : ℕ → Result (Unit {0}) NoRoom → Shown
shown e (Ok _) = To e
shown e (Err _) = Full

-- WHAT SHOWING A TEXT GIVES: it was written; or it does not fit, and the buffer is as it was.
abbrev pub ShownIs : List ℕ → ℕ → List ℕ → List ℕ → Shown → Type 0
ShownIs o to t o' (To e) = Wrote o to t o' e
ShownIs o to t o' Full = (o' ≡ o) × (length o < to + length t)

-- A row and an answer, over as much of the store as they name.
abbrev pub row_text_at : List ℕ → List ℕ → ℕ → List ℕ
row_text_at b p code = row_text (store_of b p (suc code)) code

abbrev pub answer_text_at : List ℕ → List ℕ → ℕ → ℕ → List ℕ
answer_text_at b p kind code = answer_text (store_of b p (suc code)) kind code

-- A row that names a sort of the store, or none.
abbrev pub RowAsks : List ℕ → List ℕ → ℕ → Type 0
RowAsks b p code = code < 65536 → TextAsks b p code

-- The answer to a question whether two sorts are compatible.
abbrev pub no_or_yes : ℕ → List ℕ
no_or_yes code = cond (eqb code 0) (ascii "no") (ascii "yes")

-- An answer to a question of a kind that is not answered by yes or no is such a row.
abbrev pub AnswerAsks : List ℕ → List ℕ → ℕ → ℕ → Type 0
AnswerAsks b p kind code = (kind ≡ 0 → ⊥) → RowAsks b p code

-- The row is of a store of n sorts.
abbrev pub RowKnown : ℕ → ℕ → Type 0
RowKnown n code = code < 65536 → code < n

-- WHAT A LINE SHOWS, over the store of n sorts that its rows or its answer are of.
abbrev pub TermHas : List ℕ → List ℕ → ℕ → ℕ → ℕ → List ℕ → ℕ → List ℕ → Shown → Type 0
TermHas b p t i c o to o' r =
    (n : ℕ) → RowKnown n i → RowKnown n c → ShownIs o to (term_line (store_of b p n) t i c) o' r

abbrev pub QuestionHas : List ℕ → List ℕ → ℕ → ℕ → ℕ → List ℕ → ℕ → List ℕ → Shown → Type 0
QuestionHas b p q kind code o to o' r =
    (n : ℕ) → ((kind ≡ 0 → ⊥) → RowKnown n code) → ShownIs o to (question_line (store_of b p n) q kind code) o' r

pub record TermLineAsks (b p : List ℕ) (t i c : ℕ) : Type 0 where
  pub number : t < 100000
  pub inferred : RowAsks b p i
  pub checked : RowAsks b p c

pub record QuestionLineAsks (b p : List ℕ) (q kind code : ℕ) : Type 0 where
  pub number : q < 100000
  pub answer : AnswerAsks b p kind code

-- "Tk " and "Qk ": a mark, a number and a blank.
unfoldable pub label_text : ℕ → ℕ → List ℕ
unfolding decimal
label_text mark v = (mark ∷ decimal v) ++ ascii " "

-- The lines, over as much of the store as each row names.
unfoldable pub term_line_at : List ℕ → List ℕ → ℕ → ℕ → ℕ → List ℕ
unfolding label_text
term_line_at b p t i c = label_text 84 t ++ (row_text_at b p i ++ (ascii " " ++ (row_text_at b p c ++ ascii "\n")))

unfoldable pub question_line_at : List ℕ → List ℕ → ℕ → ℕ → ℕ → List ℕ
unfolding label_text
question_line_at b p q kind code = label_text 81 q ++ (answer_text_at b p kind code ++ ascii "\n")
