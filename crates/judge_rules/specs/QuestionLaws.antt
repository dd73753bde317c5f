-- What an answer leaves: question 0 adds nothing and answers 1 or 0; the others are outcomes of their verdicts, with 22 and 23
-- exactly where document 01 says. Over all questions the store only grows.
use Rattle.std.specs.Prelude.{ℕ, ◌*◌, ◌≤◌, ◌<◌, ◌≡◌, refl, Bool, true, false, cond, List, [], ◌∷◌, ◌↔◌, length, get_or, eqb}
use Rattle.std.proofs.Common.{sym, ap, subst, ◌∙◌, arith, not-suc-le-zero, length-append, eqb-true}
use Rattle.std.proofs.Math.Option.{Option, none, some}
use Rattle.std.proofs.Math.ListN.{get_or-append}
use Rattle.std.proofs.lemmas.List.{get_or_at}
use Rattle.std.proofs.lemmas.Bool.{eqb-false}
use Rattle.record.specs.Sort.{Sort, end}
use Rattle.record.specs.Cases.{by_test, below_other}
use Rattle.sheet.specs.Sheet.{Lengths, Binding, QuestionFields}
use Rattle.substitution.specs.Substitution.{Map}
use Rattle.substitution.specs.Compatible.{compatible}
use Rattle.row_rules.specs.declared.Cause.TheVariants.{Limit, Full, Barred}
use Rattle.row_rules.specs.Verdict.{sort, need, number_of}
use Rattle.row_rules.specs.Outcome.{CodedStore, outcome}
use Rattle.row_rules.specs.Meaning.{Means, limited}
use Rattle.row_rules.specs.Outcomes.{no_limit, Accepted, Passes, Overflows, Grown}
use Rattle.row_rules.proofs.OutcomeLaws.{any-accepted, outcome-refused, plain-limit, plain-full, grown-self, grown-trans, outcome-grown, outcome-means, means-stays}
use Rattle.judge_rules.specs.Questions.{first_sort, rest_sorts, yes_no, pattern_of, target_of, result_of, assigned, match_answer, match_verdict, apply_answer, answer_verdict, answer_of, answers_of}

-- QUESTION 0 ADDS NOTHING AND ANSWERS 1 OR 0, as the two sorts are compatible or not.
pub answer-compatible : (l : Lengths) (q : QuestionFields) (st : List Sort) → eqb q.kind 0 ≡ true
    → answer_of l q st ≡ record { store = st; code = yes_no (compatible (first_sort q.sorts) (first_sort (rest_sorts q.sorts))) }
unfolding answer_of
answer-compatible l q st e = simp e

-- THE OTHERS ARE ANSWERED BY THEIR VERDICTS.
pub answer-is : (l : Lengths) (q : QuestionFields) (st : List Sort) → eqb q.kind 0 ≡ false → answer_of l q st ≡ outcome l st (answer_verdict q)
unfolding answer_of
answer-is l q st e = simp e

-- No verdict of a question is 22 or 23 by itself.
assigned-plain : (b : Bool) (r : Sort) (o : Option Map) → no_limit (need b Barred (assigned r o)) ≡ true
unfolding no_limit
assigned-plain true r none = refl
assigned-plain true r (some m) = refl
assigned-plain false r o = refl

match-plain : (ns : List ℕ) (gs : List Binding) (p t r : Sort) → no_limit (match_answer ns gs p t r) ≡ true
unfolding match_answer
match-plain ns gs p t r = assigned-plain _ r _

pub answer-plain : (q : QuestionFields) → no_limit (answer_verdict q) ≡ true
unfolding answer_verdict match_verdict apply_answer no_limit
answer-plain q =
    by_test (eqb q.kind 1) (λ f. rw f (match-plain q.names [] (pattern_of q) (target_of q) (result_of q)))
    (λ f.
    by_test (eqb q.kind 3)
    (λ g. rw (f, g) (match-plain q.names q.pairs (pattern_of q) (target_of q) (result_of q)))
    (λ g. rw (f, g) refl))

-- A REFUSED ANSWER LEAVES THE STORE AS IT WAS.
pub answer-refused : (l : Lengths) (q : QuestionFields) (st : List Sort) → 65536 ≤ (answer_of l q st).code → (answer_of l q st).store ≡ st
answer-refused l q st h =
    by_test (eqb q.kind 0)
    (λ e. ap (λ (o : CodedStore). o.store) (answer-compatible l q st e))
    (λ e.
    let i = answer-is l q st e in
    ap (λ (o : CodedStore). o.store) i ∙ outcome-refused l st (answer_verdict q) (subst (λ (o : CodedStore). 65536 ≤ o.code) i h))

-- AN ACCEPTED ANSWER to a question of another kind than 0 adds only the sorts inside it, and its code is its number.
pub answer-accepted : (l : Lengths) (q : QuestionFields) (st : List Sort) → eqb q.kind 0 ≡ false → (answer_of l q st).code < 65536
    → (s : Sort) × (answer_verdict q ≡ sort s) × Accepted l st s (answer_of l q st)
answer-accepted l q st e h =
    let i = answer-is l q st e in
    let (s, v, a) = any-accepted l st (answer_verdict q) (subst (λ (o : CodedStore). o.code < 65536) i h) in
    (s, v, subst (Accepted l st s) (sym i) a)

-- 22 AND 23 OF AN ANSWER, exactly.
pub answer-limit : (l : Lengths) (q : QuestionFields) (st : List Sort) → eqb q.kind 0 ≡ false
    → ((answer_of l q st).code ≡ number_of Limit * 65536) ↔ Passes (answer_verdict q)
answer-limit l q st e = rw (answer-is l q st e) (plain-limit l st (answer_verdict q) (answer-plain q))

pub answer-full : (l : Lengths) (q : QuestionFields) (st : List Sort) → eqb q.kind 0 ≡ false
    → ((answer_of l q st).code ≡ number_of Full * 65536) ↔ Overflows l st (answer_verdict q)
answer-full l q st e = rw (answer-is l q st e) (plain-full l st (answer_verdict q) (answer-plain q))

-- THE STORE ONLY GROWS over the questions, and stays a store.
pub answer-grown : (l : Lengths) (q : QuestionFields) (st : List Sort) → Grown l st (answer_of l q st).store
answer-grown l q st =
    by_test (eqb q.kind 0) (λ e. rw (answer-compatible l q st e) (grown-self l st))
    (λ e. rw (answer-is l q st e) (outcome-grown l st (answer_verdict q)))

pub answers-grown : (l : Lengths) (st : List Sort) (qs : List QuestionFields) → Grown l st (answers_of l st qs).store
unfolding answers_of
answers-grown l st [] = grown-self l st
answers-grown l st (q ∷ qs) =
    grown-trans l st (answers_of l st qs).store (answer_of l q (answers_of l st qs).store).store (answers-grown l st qs)
    (answer-grown l q (answers_of l st qs).store)

-- ONE ANSWER A QUESTION.
pub answers-count : (l : Lengths) (st : List Sort) (qs : List QuestionFields) → length (answers_of l st qs).answers ≡ length qs
unfolding answers_of
answers-count l st [] = refl
answers-count l st (q ∷ qs) = simp length-append (omega (arith, answers-count l st qs))

---------------------------------------------------------------- all answers
-- THE QUESTION WITH THE NUMBER k of a sheet's questions, the latest first; what stands for one that is not there is never asked.
unfoldable pub question_at : List QuestionFields → ℕ → QuestionFields
question_at [] k = record { kind = 0; sorts = end; pairs = []; names = [] }
question_at (q ∷ qs) k = cond (eqb k (length qs)) q (question_at qs k)

-- An answer stays while further questions are answered, and the next one stands behind it.
answers-old : (l : Lengths) (st : List Sort) (q : QuestionFields) (qs : List QuestionFields) (k : ℕ) → k < length qs
    → get_or (answers_of l st (q ∷ qs)).answers k 0 ≡ get_or (answers_of l st qs).answers k 0
unfolding answers_of
answers-old l st q qs k h = get_or-append (answers_of l st qs).answers _ 0 k (omega (arith, answers-count l st qs))

answers-new : (l : Lengths) (st : List Sort) (q : QuestionFields) (qs : List QuestionFields)
    → get_or (answers_of l st (q ∷ qs)).answers (length qs) 0 ≡ (answer_of l q (answers_of l st qs).store).code
unfolding answers_of
answers-new l st q qs =
    get_or_at (answers_of l st qs).answers (answer_of l q (answers_of l st qs).store).code [] 0 (length qs) (answers-count l st qs)

-- What an answer of code c says over the store st: 1 or 0 to question 0; to the others, where no limit is met, their verdict.
abbrev pub Answers : List Sort → ℕ → QuestionFields → Type 0
Answers st c q =
    (eqb q.kind 0 ≡ true → c ≡ yes_no (compatible (first_sort q.sorts) (first_sort (rest_sorts q.sorts))))
    × (eqb q.kind 0 ≡ false → limited c ≡ false → Means st c (answer_verdict q))

answer-says : (l : Lengths) (q : QuestionFields) (st : List Sort) → Answers (answer_of l q st).store (answer_of l q st).code q
answer-says l q st = (
  λ e. ap (λ (o : CodedStore). o.code) (answer-compatible l q st e),
  λ e f.
      let i = answer-is l q st e in
      subst (λ (o : CodedStore). Means o.store o.code (answer_verdict q)) (sym i)
      (outcome-means l st (answer_verdict q) (subst (λ (o : CodedStore). limited o.code ≡ false) i f)),
)

-- EVERY ANSWER SAYS WHAT ITS QUESTION ASKS, over the store after all of them.
pub answers-say : (l : Lengths) (st : List Sort) (qs : List QuestionFields) (k : ℕ) → k < length qs
    → Answers (answers_of l st qs).store (get_or (answers_of l st qs).answers k 0) (question_at qs k)
unfolding answers_of question_at
answers-say l st [] k h = absurd (not-suc-le-zero h)
answers-say l st (q ∷ qs) k h =
    by_test (eqb k (length qs))
    (λ e. rw (e, eqb-true k (length qs) e, answers-new l st q qs) (answer-says l q (answers_of l st qs).store))
    (λ e.
    let low : k < length qs = below_other k (length qs) h (eqb-false k (length qs) e) in
    let s = answers-say l st qs k low in
    rw (e, answers-old l st q qs k low) (
      s.0,
      λ o f. means-stays (answers_of l st qs).store (answer_of l q (answers_of l st qs).store).store (get_or (answers_of l st qs).answers k 0)
          (answer_verdict (question_at qs k)) (answer-grown l q (answers_of l st qs).store).starts (s.1 o f),
    ))

-- AN ANSWER IS ITS QUESTION'S over the store of its turn.
pub answers-at : (l : Lengths) (st : List Sort) (qs : List QuestionFields) (k : ℕ) → k < length qs
    → (now : List Sort) × (get_or (answers_of l st qs).answers k 0 ≡ (answer_of l (question_at qs k) now).code)
unfolding question_at
answers-at l st [] k h = absurd (not-suc-le-zero h)
answers-at l st (q ∷ qs) k h =
    by_test (eqb k (length qs))
    (λ e. ((answers_of l st qs).store, rw (e, eqb-true k (length qs) e) (answers-new l st q qs)))
    (λ e.
    let low : k < length qs = below_other k (length qs) h (eqb-false k (length qs) e) in
    let (now, s) = answers-at l st qs k low in
    (now, rw (e, answers-old l st q qs k low) s))
