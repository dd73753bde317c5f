-- THE JUDGEMENT OVER ANY TEST OF ROOM and any reading of the sheet's sorts, and where its store had space, for document 02's "as before
-- wherever both stores had space" (A.6). Behind the sorts room is tested at 23 only.
use Rattle.std.specs.Prelude.{ℕ, ◌*◌, Bool, true, not, cond, ◌&&◌, List, [], ◌∷◌, length, leb, eqb}
use Rattle.record.specs.Number.{u16_at}
use Rattle.record.specs.Sort.{Sort}
use Rattle.record.specs.Store.{intern, index_of, room}
use Rattle.reader.specs.Reader.{refusal_number, demand}
use Rattle.reader.specs.declared.Refusal.{Refusal}
use Rattle.reader.specs.declared.Refusal.TheVariants.{Length, Header, Trailing, Lent}
use Rattle.sheet.specs.Sheet.{Lengths, TermFields, QuestionFields, SortsRead, Sheet, Reading, read_refused, got, and_read, read_terms, read_questions, sort_count, term_count, question_count}
use Rattle.row_rules.specs.declared.Cause.TheVariants.{Limit, Full}
use Rattle.row_rules.specs.Verdict.{Verdict, sort, refused, need, number_of}
use Rattle.row_rules.specs.Term.{Site, verdict_at}
use Rattle.row_rules.specs.Meaning.{all_of}
use Rattle.row_rules.specs.Outcome.{within, in_limits, CodedStore, numbered, row_sort}
use Rattle.infer_rules.specs.Inferred.{inferred}
use Rattle.check_rules.specs.Rank.{Rank}
use Rattle.check_rules.specs.Checked.{checked}
use Rattle.substitution.specs.Compatible.{compatible}
use Rattle.judge_rules.specs.Rows.{RowsSoFar, rows_added}
use Rattle.judge_rules.specs.Questions.{AnswersSoFar, first_sort, rest_sorts, yes_no, answer_verdict, answer_added}
use Rattle.judge_rules.specs.Judged.{Judgement, sheet_refused, accepted, with_answers}

---------------------------------------------------------------- the judgement over a test of room ρ
-- `read_sheet` with the sorts as they were read: the rest of it looks at no room.
abbrev pub sheet_from : List ℕ → Lengths → Reading SortsRead → Reading Sheet
sheet_from s l sorts =
    demand (leb 6 (length s) && leb (length s) 65536) (read_refused Length)
    (demand (leb (sort_count s) 2048 && (leb (term_count s) 4096 && leb (question_count s) 1024)) (read_refused Header)
    (demand (leb (2 * term_count s) l.rows && leb (question_count s) l.answers) (read_refused Lent)
    (and_read sorts (λ sr x.
    and_read (read_terms s sr.sorts x (term_count s)) (λ rs y.
    and_read (read_questions s sr.sorts y (question_count s)) (λ qs z.
    demand (eqb z (length s)) (read_refused Trailing)
    (got (record { sorts = sr.sorts; store = sr.store; terms = rs; questions = qs }) z)))))))

-- Each definition is the one that its comment names, with ρ for `room` in the lent lengths.
module _ (ρ : List Sort → Bool) where
  -- `outcome`.
  abbrev pub has_room_with : List Sort → Verdict → Bool
  has_room_with st (refused c) = true
  has_room_with st (sort s) = ρ (intern s st)

  abbrev pub outcome_with : List Sort → Verdict → CodedStore
  outcome_with st v = numbered st (need (in_limits v) Limit (need (has_room_with st v) Full v))

  -- `row_of`, `both_rows` and `rows_of`.
  abbrev pub row_with : (Site → Verdict) → ℕ → List TermFields → TermFields → List ℕ → List Sort → CodedStore
  row_with J column rs r rows st = outcome_with st (verdict_at J (λ i. row_sort st rows column i) rs r)

  abbrev pub checked_with : (ℕ → List Rank) → List TermFields → TermFields → List ℕ → CodedStore → RowsSoFar
  checked_with R rs r rows i = rows_added rows i (row_with (checked R) 1 rs r rows i.store)

  abbrev pub both_rows_with : (ℕ → List Rank) → List TermFields → TermFields → RowsSoFar → RowsSoFar
  both_rows_with R rs r m = checked_with R rs r m.rows (row_with inferred 0 rs r m.rows m.store)

  unfoldable pub rows_with : (ℕ → List Rank) → List Sort → List TermFields → RowsSoFar
  unfolding within intern index_of verdict_at row_sort inferred checked
  rows_with R st [] = record { store = st; rows = [] }
  rows_with R st (r ∷ rs) = both_rows_with R rs r (rows_with R st rs)

  -- `answer_of` and `answers_of`.
  abbrev pub answer_with : QuestionFields → List Sort → CodedStore
  answer_with q st =
      cond (eqb q.kind 0)
      (record { store = st; code = yes_no (compatible (first_sort q.sorts) (first_sort (rest_sorts q.sorts))) })
      (outcome_with st (answer_verdict q))

  abbrev pub one_answer_with : QuestionFields → AnswersSoFar → AnswersSoFar
  one_answer_with q a = answer_added a.answers (answer_with q a.store)

  unfoldable pub answers_with : List Sort → List QuestionFields → AnswersSoFar
  unfolding within intern index_of compatible answer_verdict
  answers_with st [] = record { store = st; answers = [] }
  answers_with st (q ∷ qs) = one_answer_with q (answers_with st qs)

  -- `judged_sheet` and `judged_by`.
  abbrev pub ruled_with : Sheet → RowsSoFar → Judgement
  ruled_with h m = with_answers h m.rows (answers_with m.store h.questions)

  abbrev pub judged_sheet_with : (ℕ → List Rank) → Reading Sheet → Judgement
  judged_sheet_with R (read_refused e) = sheet_refused e
  judged_sheet_with R (got h x) = ruled_with h (rows_with R h.store h.terms)

  -- THE JUDGEMENT OF THE BYTES s by the test of room ρ, if `sorts` was read of their sort records.
  unfoldable pub judged_with : Reading SortsRead → (ℕ → List Rank) → List ℕ → Lengths → Judgement
  unfolding u16_at read_terms read_questions rows_with answers_with
  judged_with sorts R s l = judged_sheet_with R (sheet_from s l sorts)

-- THE TEST OF ROOM IN THE LENT LENGTHS.
abbrev pub room_in : Lengths → List Sort → Bool
room_in l st = room l.records l.places st

---------------------------------------------------------------- where the store had space
-- A refusal is not 10; the code of a row or an answer is not 23.
abbrev pub space_at : Refusal → Bool
space_at e = not (eqb (refusal_number e) 10)

abbrev pub space_for : ℕ → Bool
space_for code = not (eqb code (number_of Full * 65536))

-- THE STORE HAD SPACE for all that the judgement asked of it: the sheet is not refused for 10, and no row and no answer is 23.
unfoldable pub had_space : Judgement → Bool
unfolding all_of
had_space (sheet_refused e) = space_at e
had_space (accepted h st rows answers) = all_of (λ c. space_for c) rows && all_of (λ c. space_for c) answers

-- The same of what was read of a sheet.
abbrev pub space_read : {A : Type 0} → Reading A → Bool
space_read (read_refused e) = space_at e
space_read (got a x) = true
