-- With the room in the lent lengths, and the sheet's sorts, the judgement over any test of room is the judgement. Where no 10 and no 23
-- stands, a test that passes more judges the same.
use Rattle.std.specs.Prelude.{ℕ, ◌*◌, ◌≡◌, refl, Bool, true, false, cond, ◌&&◌, List, [], ◌∷◌, ◌++◌, length, leb, eqb}
use Rattle.std.proofs.Common.{ap, ◌∙◌}
use Rattle.std.proofs.lemmas.Bool.{false≢true}
use Rattle.record.specs.Sort.{Sort}
use Rattle.record.specs.Store.{intern}
use Rattle.record.specs.Cases.{and_left, and_right, and-true}
use Rattle.reader.specs.Reader.{demand}
use Rattle.reader.specs.declared.Refusal.{Refusal}
use Rattle.reader.specs.declared.Refusal.TheVariants.{Length, Header, Lent, Store}
use Rattle.sheet.specs.Sheet.{Lengths, TermFields, QuestionFields, SortsRead, Sheet, Reading, read_refused, got, and_read, read_sorts, sort_count, term_count, question_count, read_sheet}
use Rattle.row_rules.specs.declared.Cause.TheVariants.{Limit, Full}
use Rattle.row_rules.specs.Verdict.{Verdict, sort, refused, need}
use Rattle.row_rules.specs.Term.{verdict_at}
use Rattle.row_rules.specs.Meaning.{all_of}
use Rattle.row_rules.specs.Outcome.{within, CodedStore, numbered, outcome, row_sort}
use Rattle.infer_rules.specs.Inferred.{inferred}
use Rattle.check_rules.specs.Rank.{Rank}
use Rattle.check_rules.specs.Checked.{checked}
use Rattle.judge_rules.specs.Rows.{row_of, rows_added, rows_of}
use Rattle.judge_rules.specs.Questions.{answer_verdict, answer_added, answer_of, answers_of}
use Rattle.judge_rules.specs.Judged.{with_answers, judged_sheet, judged_by}
use Rattle.judge_rules.specs.AnyRoom.{sheet_from, outcome_with, row_with, checked_with, both_rows_with, rows_with, answer_with, one_answer_with, answers_with, ruled_with, judged_sheet_with, judged_with, room_in, space_for, had_space, space_read}

---------------------------------------------------------------- it is the judgement
outcome-with : (l : Lengths) (st : List Sort) (v : Verdict) → outcome_with (room_in l) st v ≡ outcome l st v
unfolding outcome
outcome-with l st (sort s) = refl
outcome-with l st (refused c) = refl

rows_is : (R : ℕ → List Rank) (l : Lengths) (st : List Sort) (rs : List TermFields) → rows_with (room_in l) R st rs ≡ rows_of R l st rs
unfolding rows_with rows_of row_of
rows_is R l st [] = refl
rows_is R l st (r ∷ rs) = simp (rows_is R l st rs, outcome-with)

answers-is : (l : Lengths) (st : List Sort) (qs : List QuestionFields) → answers_with (room_in l) st qs ≡ answers_of l st qs
unfolding answers_with answers_of answer_of
answers-is l st [] = refl
answers-is l st (q ∷ qs) = simp (answers-is l st qs, outcome-with)

-- WITH THE TEST OF ROOM IN THE LENT LENGTHS AND THE SHEET'S SORTS IT IS THE JUDGEMENT.
pub judged_with-is : (R : ℕ → List Rank) (s : List ℕ) (l : Lengths) → judged_with (room_in l) (read_sorts s l (sort_count s)) R s l ≡ judged_by R s l
unfolding judged_with judged_by read_sheet
judged_with-is R s l = by (sheet_from s l (read_sorts s l (sort_count s)))
  where
    by : (r : Reading Sheet) → judged_sheet_with (room_in l) R r ≡ judged_sheet R l r
    by (read_refused e) = refl
    by (got h x) = simp (rows_is, answers-is)

-- A test of all codes holds of the first ones and of the others.
all_first : (f : ℕ → Bool) (is js : List ℕ) → all_of f (is ++ js) ≡ true → all_of f is ≡ true
unfolding all_of
all_first f [] js e = refl
all_first f (i ∷ is) js e = and-true (f i) (all_of f is) (and_left (f i) (all_of f (is ++ js)) e) (all_first f is js (and_right (f i) (all_of f (is ++ js)) e))

all-second : (f : ℕ → Bool) (is js : List ℕ) → all_of f (is ++ js) ≡ true → all_of f js ≡ true
unfolding all_of
all-second f [] js e = e
all-second f (i ∷ is) js e = all-second f is js (and_right (f i) (all_of f (is ++ js)) e)

---------------------------------------------------------------- the same by a test that passes more
-- Readings that go on alike: what follows a test, what follows a part that was read, and the test of room itself.
pub demand-same : {A : Type 0} (t : Bool) (e : Refusal) (g g' : Reading A) → (space_read g ≡ true → g' ≡ g)
    → space_read (demand t (read_refused e) g) ≡ true → demand t (read_refused e) g' ≡ demand t (read_refused e) g
demand-same true e g g' same h = same h
demand-same false e g g' same h = refl

pub read_same : {A B : Type 0} (r r' : Reading A) (go go' : A → ℕ → Reading B) → (space_read r ≡ true → r' ≡ r)
    → ((a : A) (x : ℕ) → r ≡ got a x → space_read (go a x) ≡ true → go' a x ≡ go a x) → space_read (and_read r go) ≡ true → and_read r' go' ≡ and_read r go
read_same (read_refused e) r' go go' same step h = rw (same h) refl
read_same (got a x) r' go go' same step h = rw (same refl) (step a x refl h)

pub room-same : {A : Type 0} (t t' : Bool) (g : Reading A) → (t ≡ true → t' ≡ true)
    → space_read (demand t (read_refused Store) g) ≡ true → demand t' (read_refused Store) g ≡ demand t (read_refused Store) g
room-same true t' g more h = rw (more refl) refl
room-same false t' g more h = absurd (false≢true h)

-- The outcome of an answer, by the two tests.
answer-same : (st : List Sort) (s : Sort) (w t t' : Bool) → (t ≡ true → t' ≡ true)
    → space_for (numbered st (need w Limit (need t Full (sort s)))).code ≡ true
    → numbered st (need w Limit (need t' Full (sort s))) ≡ numbered st (need w Limit (need t Full (sort s)))
answer-same st s true true t' more h = rw (more refl) refl
answer-same st s true false t' more h = absurd (false≢true h)
answer-same st s false t t' more h = refl

-- One of two, by the test of the question's kind.
one_same : (a : Bool) (o v v' : CodedStore) → (space_for v.code ≡ true → v' ≡ v) → space_for (cond a o v).code ≡ true → cond a o v' ≡ cond a o v
one_same true o v v' f h = refl
one_same false o v v' f h = f h

-- Two tests of room of which the second passes wherever the first does.
module _ (ρ ρ' : List Sort → Bool) (more : (st : List Sort) → ρ st ≡ true → ρ' st ≡ true) where
  -- From an outcome to the rows and the answers: an outcome is the same, so its store and code are, and so the next.
  outcome-same : (st : List Sort) (v : Verdict) → space_for (outcome_with ρ st v).code ≡ true → outcome_with ρ' st v ≡ outcome_with ρ st v
  outcome-same st (sort s) h = answer-same st s (within s) (ρ (intern s st)) (ρ' (intern s st)) (more (intern s st)) h
  outcome-same st (refused c) h = refl

  rows_same : (R : ℕ → List Rank) (st : List Sort) (rs : List TermFields) → all_of (λ c. space_for c) (rows_with ρ R st rs).rows ≡ true
      → rows_with ρ' R st rs ≡ rows_with ρ R st rs
  unfolding rows_with all_of
  rows_same R st [] h = refl
  rows_same R st (r ∷ rs) h =
      let m = rows_with ρ R st rs in
      let i = row_with ρ inferred 0 rs r m.rows m.store in
      let c = row_with ρ (checked R) 1 rs r m.rows i.store in
      let both = all-second (λ c. space_for c) m.rows (i.code ∷ c.code ∷ []) h in
      let last = and_right (space_for i.code) (space_for c.code && true) both in
      ap (both_rows_with ρ' R rs r) (rows_same R st rs (all_first (λ c. space_for c) m.rows (i.code ∷ c.code ∷ []) h))
      ∙ ap (checked_with ρ' R rs r m.rows)
      (outcome-same m.store (verdict_at inferred (λ k. row_sort m.store m.rows 0 k) rs r) (and_left (space_for i.code) (space_for c.code && true) both))
      ∙ ap (rows_added m.rows i)
      (outcome-same i.store (verdict_at (checked R) (λ k. row_sort i.store m.rows 1 k) rs r) (and_left (space_for c.code) true last))

  answer-with-same : (q : QuestionFields) (st : List Sort) → space_for (answer_with ρ q st).code ≡ true → answer_with ρ' q st ≡ answer_with ρ q st
  answer-with-same q st h = one_same (eqb q.kind 0) _ _ _ (outcome-same st (answer_verdict q)) h

  answers-same : (st : List Sort) (qs : List QuestionFields) → all_of (λ c. space_for c) (answers_with ρ st qs).answers ≡ true
      → answers_with ρ' st qs ≡ answers_with ρ st qs
  unfolding answers_with all_of
  answers-same st [] h = refl
  answers-same st (q ∷ qs) h =
      let a = answers_with ρ st qs in
      let o = answer_with ρ q a.store in
      ap (one_answer_with ρ' q) (answers-same st qs (all_first (λ c. space_for c) a.answers (o.code ∷ []) h))
      ∙ ap (answer_added a.answers)
      (answer-with-same q a.store (and_left (space_for o.code) true (all-second (λ c. space_for c) a.answers (o.code ∷ []) h)))

  sheet-same : (s : List ℕ) (l : Lengths) (r r' : Reading SortsRead) → (space_read r ≡ true → r' ≡ r) → space_read (sheet_from s l r) ≡ true
      → sheet_from s l r' ≡ sheet_from s l r
  sheet-same s l r r' same h =
      demand-same (leb 6 (length s) && leb (length s) 65536) Length _ _
      (demand-same (leb (sort_count s) 2048 && (leb (term_count s) 4096 && leb (question_count s) 1024)) Header _ _
      (demand-same (leb (2 * term_count s) l.rows && leb (question_count s) l.answers) Lent _ _
      (read_same r r' _ _ same (λ sr x q e. refl)))) h

  -- WHERE THE STORE HAD SPACE BY THE FIRST TEST, THE SECOND JUDGES THE SAME: sheet, store, rows and answers, or the refusal. Every test of
  -- room that was met passed, else a 10 or a 23 would stand.
  pub more_room : (sorts sorts' : Reading SortsRead) → (space_read sorts ≡ true → sorts' ≡ sorts) → (R : ℕ → List Rank) (s : List ℕ) (l : Lengths)
      → had_space (judged_with ρ sorts R s l) ≡ true → judged_with ρ' sorts' R s l ≡ judged_with ρ sorts R s l
  unfolding judged_with had_space
  more_room sorts sorts' same R s l h = by (sheet_from s l sorts) (sheet_from s l sorts') (sheet-same s l sorts sorts' same) h
    where
      by : (r r' : Reading Sheet) → (space_read r ≡ true → r' ≡ r) → had_space (judged_sheet_with ρ R r) ≡ true
          → judged_sheet_with ρ' R r' ≡ judged_sheet_with ρ R r
      by (read_refused e) r' same h = rw (same h) refl
      by (got g x) r' same h =
          let m = rows_with ρ R g.store g.terms in
          let a = answers_with ρ m.store g.questions in
          ap (judged_sheet_with ρ' R) (same refl)
          ∙ ap (ruled_with ρ' g) (rows_same R g.store g.terms (and_left (all_of (λ c. space_for c) m.rows) (all_of (λ c. space_for c) a.answers) h))
          ∙ ap (with_answers g m.rows)
          (answers-same m.store g.questions (and_right (all_of (λ c. space_for c) m.rows) (all_of (λ c. space_for c) a.answers) h))
