-- QUESTIONS 1 AND 3 OF AN ACCEPTED SHEET, exactly: nothing is asked of the given names, which the reader tests.
use Rattle.std.specs.Prelude.{ℕ, ◌*◌, ◌≤◌, ◌<◌, ◌≡◌, false, List, [], ◌∷◌, ◌↔◌, length, get_or, eqb}
use Rattle.std.specs.List.{AllByRecursion}
use Rattle.std.proofs.Common.{sym, ap, subst, ◌∙◌, arith, not-suc-le-zero}
use Rattle.std.proofs.lemmas.Bool.{eqb-false}
use Rattle.std.proofs.Math.Logic.Iff.{trans as iff-trans}
use Rattle.record.specs.Cases.{by_test, below_other}
use Rattle.record.specs.Sort.{Sort}
use Rattle.sheet.specs.Sheet.{Lengths, Binding, QuestionFields, Sheet}
use Rattle.sheet.specs.SheetLaws.{AskedRightly}
use Rattle.substitution.specs.Substitution.{Map, apply}
use Rattle.row_rules.specs.declared.Cause.TheVariants.{Barred, NoAssignment}
use Rattle.row_rules.specs.Verdict.{Verdict, sort, refused, number_of}
use Rattle.row_rules.specs.Meaning.{Means, limited}
use Rattle.row_rules.proofs.OutcomeLaws.{room-few, refusal-large, refused-sort}
use Rattle.check_rules.specs.Rank.{Rank}
use Rattle.judge_rules.specs.Rows.{rows_of}
use Rattle.judge_rules.specs.Questions.{pattern_of, target_of, result_of, match_verdict, answer_verdict, answer_of}
use Rattle.judge_rules.specs.QuestionLaws.{question_at, answers-at}
use Rattle.judge_rules.specs.QuestionRules.{Premise, Turns, Spares}
use Rattle.judge_rules.specs.Judged.{accepted, judged_by}
use Rattle.judge_rules.proofs.JudgedLaws.{told, judged-answer, judged-store}
use Rattle.judge_rules.proofs.QuestionTheorems.{MatchFrom, match-kind, match-asked, match-given, match-answered, answer-barred, answer-unassigned}

-- A code that means a verdict means a sort exactly where that is the verdict.
means-one : (st : List Sort) (c : ℕ) (v : Verdict) (a : Sort) → length st ≤ 4096 → Means st c v → Means st c (sort a) ↔ v ≡ sort a
means-one st c (sort s) a few m = (λ h. ap sort (sym m.1 ∙ h.1), λ q. subst (Means st c) q m)
means-one st c (refused x) a few m = (λ h. absurd (omega (arith, h.0, m, refusal-large x)), λ q. refused-sort q)

-- What is so of each question, is so of the one with a number.
each_question : (P : QuestionFields → Type 0) (qs : List QuestionFields) (k : ℕ) → AllByRecursion P qs → k < length qs → P (question_at qs k)
unfolding question_at
each_question P [] k a h = absurd (not-suc-le-zero h)
each_question P (q ∷ qs) k a h =
    by_test (eqb k (length qs)) (λ e. rw e a.0)
    (λ e. rw e (each_question P qs k a.1 (below_other k (length qs) h (eqb-false k (length qs) e))))

module _ (R : ℕ → List Rank) (s : List ℕ) (l : Lengths) (h : Sheet) (st : List Sort) (rows answers : List ℕ)
    (e : judged_by R s l ≡ accepted h st rows answers) (k : ℕ) (low : k < length h.questions) where
  abbrev asked : QuestionFields
  asked = question_at h.questions k

  -- Its names are rightly given.
  asked-right : AskedRightly asked
  asked-right = each_question AskedRightly h.questions k (told R s l h st rows answers e).sheet.asked_rightly low

  -- The answer that was given is the question's over some store.
  answer-then : (now : List Sort) × (get_or answers k 0 ≡ (answer_of l asked now).code)
  answer-then =
      let t = told R s l h st rows answers e in
      let (now, q) = answers-at l (rows_of R l h.store h.terms).store h.questions k low in
      (now, ap (λ (z : List ℕ). get_or z k 0) (sym t.answers-are) ∙ q)

  -- The store holds few sorts.
  few : length st ≤ 4096
  few = room-few l.records l.places st (judged-store R s l h st rows answers e).3

  module _ (gs : List Binding) (f : MatchFrom asked gs) where
    -- 28 EXACTLY outside matching's premise.
    pub asked-barred : get_or answers k 0 ≡ number_of Barred * 65536 ↔ (Premise asked.names gs (pattern_of asked) (target_of asked) → ⊥)
    asked-barred = let (now, q) = answer-then in rw q (answer-barred asked gs f l now)

    -- 29 EXACTLY on it without an assignment that keeps the given pairs.
    pub asked-unassigned : get_or answers k 0 ≡ number_of NoAssignment * 65536
        ↔ Premise asked.names gs (pattern_of asked) (target_of asked) × ((θ : Map) → Turns asked.names gs (pattern_of asked) (target_of asked) θ → ⊥)
    asked-unassigned = let (now, q) = answer-then in rw q (answer-unassigned asked gs f l now (match-given asked gs f asked-right))

    -- WHERE NEITHER LIMIT IS MET, the answer is the number of the sort a exactly where a is the result after Substitution by the one such
    -- assignment that binds given names and variables of the pattern only.
    pub asked-answered : limited (get_or answers k 0) ≡ false → (a : Sort) → Means st (get_or answers k 0) (sort a)
        ↔ Premise asked.names gs (pattern_of asked) (target_of asked)
        × ((θ : Map) × Turns asked.names gs (pattern_of asked) (target_of asked) θ × Spares gs (pattern_of asked) θ × (apply θ (result_of asked) ≡ a))
    unfolding match_verdict
    asked-answered n a =
        iff-trans (means-one st (get_or answers k 0) (answer_verdict asked) a few ((judged-answer R s l h st rows answers e k low).1 (match-kind asked gs f) n))
        (rw (match-asked asked gs f) (match-answered asked.names gs (pattern_of asked) (target_of asked) (result_of asked) (match-given asked gs f asked-right) a))
