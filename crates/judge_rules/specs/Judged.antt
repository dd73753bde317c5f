-- The judgement of a whole sheet: what the entry point returns, and what the four lent buffers then hold.
use Rattle.std.specs.Prelude.{ℕ, List, replicate}
use Rattle.record.specs.Sort.{Sort}
use Rattle.record.specs.Store.{padded, store_bytes, store_places}
use Rattle.reader.specs.declared.Refusal.{Refusal}
use Rattle.reader.specs.Reader.{refusal_number}
use Rattle.sheet.specs.Sheet.{Lengths, Sheet, Reading, read_sheet}
use Rattle.sheet.specs.Sheet.Reading.{read_refused as unread, got}
use Rattle.check_rules.specs.Rank.{Rank}
use Rattle.check_rules.specs.Ranks.{smt_lib}
use Rattle.judge_rules.specs.Rows.{RowsSoFar, rows_of}
use Rattle.judge_rules.specs.Questions.{AnswersSoFar, answers_of}

-- A refused sheet, or an accepted one with the store, the coded rows and the coded answers that it gets.
pub data Judgement : Type 0 where
  sheet_refused : Refusal → Judgement
  accepted : Sheet → (store : List Sort) → (rows answers : List ℕ) → Judgement

abbrev pub with_answers : Sheet → List ℕ → AnswersSoFar → Judgement
with_answers h rows a = accepted h a.store rows a.answers

abbrev pub with_rows : Lengths → Sheet → RowsSoFar → Judgement
with_rows l h m = with_answers h m.rows (answers_of l m.store h.questions)

abbrev pub judged_sheet : (ℕ → List Rank) → Lengths → Reading Sheet → Judgement
judged_sheet R l (unread e) = sheet_refused e
judged_sheet R l (got h x) = with_rows l h (rows_of R l h.store h.terms)

-- THE JUDGEMENT OF THE BYTES s with these lent lengths, over the ranks R.
unfoldable pub judged_by : (ℕ → List Rank) → List ℕ → Lengths → Judgement
unfolding read_sheet rows_of answers_of
judged_by R s l = judged_sheet R l (read_sheet s l)

-- Over the ranks of the table.
unfoldable pub judged : List ℕ → Lengths → Judgement
unfolding judged_by smt_lib
judged s l = judged_by smt_lib s l

-- The number that tells the outcome: 0 for an accepted sheet, else the number of the refusal.
abbrev pub outcome_number : Judgement → ℕ
outcome_number (sheet_refused e) = refusal_number e
outcome_number (accepted h st rows answers) = 0

-- THE FOUR LENT BUFFERS AT EXIT, over their whole length: zeros for a refused sheet, else what was found with zeros behind.
unfoldable pub records_after : Lengths → Judgement → List ℕ
unfolding store_bytes
records_after l (sheet_refused e) = replicate l.records 0
records_after l (accepted h st rows answers) = store_bytes l.records st

unfoldable pub places_after : Lengths → Judgement → List ℕ
unfolding store_places
places_after l (sheet_refused e) = replicate l.places 0
places_after l (accepted h st rows answers) = store_places l.places st

unfoldable pub rows_after : Lengths → Judgement → List ℕ
unfolding padded
rows_after l (sheet_refused e) = replicate l.rows 0
rows_after l (accepted h st rows answers) = padded l.rows rows

unfoldable pub answers_after : Lengths → Judgement → List ℕ
unfolding padded
answers_after l (sheet_refused e) = replicate l.answers 0
answers_after l (accepted h st rows answers) = padded l.answers answers
