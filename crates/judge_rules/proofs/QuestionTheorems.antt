-- QUESTIONS 1 AND 3 EXACTLY (documents 01 and 02, A.8): 28 outside matching's premise, 29 where no assignment that keeps the given pairs turns
-- pattern into target, else the result after Substitution by the one such assignment that binds given names and variables of the pattern
-- only. Question 1 is question 3 without pairs.
use Rattle.std.specs.Prelude.{ℕ, ◌*◌, ◌≡◌, refl, true, false, ◌&&◌, List, [], ◌↔◌, ◌⊎◌, eqb}
use Rattle.std.proofs.Common.{sym, ap, ◌∙◌, inl, inr, ⊎_elim}
use Rattle.std.proofs.Math.Option.{none, some}
use Rattle.std.proofs.Math.Logic.Iff.{trans as iff-trans}
use Rattle.record.specs.Names.{member}
use Rattle.record.specs.Sort.{Sort}
use Rattle.record.specs.Cases.{and_left, by_test, by_option, clash}
use Rattle.reader.specs.Reader.{rightly_given}
use Rattle.sheet.specs.Sheet.{Lengths, Binding, QuestionFields, given_names}
use Rattle.substitution.specs.Substitution.{Map, find, bound, apply, occurs}
use Rattle.substitution.proofs.SubstitutionLaws.{apply-agree}
use Rattle.substitution.specs.Matching.{matches, listed_in, premise}
use Rattle.substitution.proofs.PremiseLaws.{known-parless}
use Rattle.substitution.proofs.MatchingTheorems.{matching-premise-from, match-outside, only-one}
use Rattle.row_rules.specs.declared.Cause.TheVariants.{Barred, NoAssignment}
use Rattle.row_rules.specs.Verdict.{sort, refused, number_of}
use Rattle.row_rules.specs.Outcomes.{no_limit}
use Rattle.row_rules.proofs.OutcomeLaws.{refused-sort, sort-inj}
use Rattle.check_rules.proofs.FitLaws.{sort-refused, other-cause}
use Rattle.judge_rules.proofs.CauseTheorems.{code-cause}
use Rattle.judge_rules.specs.Questions.{pattern_of, target_of, result_of, given_map, given_premise, match_answer, match_verdict, answer_verdict, answer_of}
use Rattle.judge_rules.specs.QuestionLaws.{answer-is}
use Rattle.judge_rules.specs.QuestionRules.{Premise, Turns, Spares}
use Rattle.judge_rules.proofs.PremiseTheorems.{known-exactly, part-occurs, occurs-part, premise-exactly}
use Rattle.judge_rules.proofs.PairLaws.{not-given, given-bound, given-within, gives-keeps, keeps-gives}

---------------------------------------------------------------- the three answers
module _ (ns : List ℕ) (gs : List Binding) (p t r : Sort) where
  -- Which answer it is, with what holds there.
  by_answer : {C : Type 0} → ((Premise ns gs p t → ⊥) → match_answer ns gs p t r ≡ refused Barred → C)
      → (Premise ns gs p t → matches (listed_in ns) p t (given_map gs) ≡ none → match_answer ns gs p t r ≡ refused NoAssignment → C)
      → ((m : Map) → Premise ns gs p t → matches (listed_in ns) p t (given_map gs) ≡ some m → match_answer ns gs p t r ≡ sort (apply m r) → C) → C
  unfolding match_answer
  by_answer outside none-there good =
      by_test (premise ns p t && given_premise ns gs)
      (λ e. let P = (premise-exactly ns gs p t).0 e in
      by_option (matches (listed_in ns) p t (given_map gs)) (λ f. none-there P f (rw (e, f) refl)) (λ m f. good m P f (rw (e, f) refl)))
      (λ e. outside (λ P. clash ((premise-exactly ns gs p t).1 P) e) (rw e refl))

  -- 28 EXACTLY OUTSIDE THE PREMISE, whatever would match.
  pub match-barred : match_answer ns gs p t r ≡ refused Barred ↔ (Premise ns gs p t → ⊥)
  match-barred = (
    λ h. by_answer (λ a e. a) (λ P f e. other-cause refl (sym e ∙ h)) (λ m P f e. sort-refused (sym e ∙ h)),
    λ n. by_answer (λ a e. e) (λ P f e. absurd (n P)) (λ m P f e. absurd (n P)),
  )

  -- The test of pattern and target, which matching's laws ask.
  on-premise : Premise ns gs p t → premise ns p t ≡ true
  on-premise P = and_left (premise ns p t) (given_premise ns gs) ((premise-exactly ns gs p t).1 P)

  module _ (d : rightly_given (given_names gs) ns ≡ true) where
    -- A success is such an assignment; where there is none, no such assignment is.
    success : (m : Map) → Premise ns gs p t → matches (listed_in ns) p t (given_map gs) ≡ some m → Turns ns gs p t m
    success m P f =
        let (w, k, e) = (matching-premise-from ns (given_map gs) p t (on-premise P) (given-within ns gs d)).success m f in
        record { within = w; keeps = keeps-gives ns gs m d k; turns = e }

    refusal : (θ : Map) → Premise ns gs p t → matches (listed_in ns) p t (given_map gs) ≡ none → Turns ns gs p t θ → ⊥
    refusal θ P f T =
        (matching-premise-from ns (given_map gs) p t (on-premise P) (given-within ns gs d)).refusal f θ T.within (gives-keeps gs θ T.keeps) T.turns

    -- 29 EXACTLY WITHOUT AN ASSIGNMENT that keeps the given pairs, on the premise.
    pub match-unassigned : match_answer ns gs p t r ≡ refused NoAssignment ↔ Premise ns gs p t × ((θ : Map) → Turns ns gs p t θ → ⊥)
    match-unassigned = (
      λ h. by_answer (λ a e. other-cause refl (sym e ∙ h)) (λ P f e. (P, λ θ T. refusal θ P f T)) (λ m P f e. sort-refused (sym e ∙ h)),
      λ g. by_answer (λ a e. absurd (a g.0)) (λ P f e. e) (λ m P f e. absurd (g.1 m (success m P f))),
    )

    -- What the map found binds is given or stands in the pattern; and an assignment that binds no more is that map.
    spares : (m : Map) → Premise ns gs p t → matches (listed_in ns) p t (given_map gs) ≡ some m → Spares gs p m
    spares m P f v b =
        by_test (member v (given_names gs)) (λ q. inl q)
        (λ q. by_test (occurs v p)
        (λ o. inr (occurs-part p v (known-parless p ((known-exactly p).1 P.pattern)) o))
        (λ o. let z : bound m v ≡ false = rw (match-outside (listed_in ns) (given_map gs) p t m f v o ∙ not-given gs v q) refl in clash b z))

    same-map : (m θ : Map) → Premise ns gs p t → matches (listed_in ns) p t (given_map gs) ≡ some m → Turns ns gs p t θ → Spares gs p θ
        → (v : ℕ) → find m v ≡ find θ v
    same-map m θ P f T o =
        only-one ns (given_map gs) p t m θ (on-premise P) f T.within (gives-keeps gs θ T.keeps) T.turns
        (λ v b q.
        by_test (bound θ v)
        (λ c. ⊎_elim (λ i. clash (given-bound gs v i) b) (λ i. clash (part-occurs v i) q) (o v c))
        (λ c. c))

    -- SUCH AN ASSIGNMENT IS THE ONLY ONE, name by name.
    pub turns-once : (θ η : Map) → Premise ns gs p t → Turns ns gs p t θ → Spares gs p θ → Turns ns gs p t η → Spares gs p η
        → (v : ℕ) → find θ v ≡ find η v
    turns-once θ η P T o U i v =
        by_option (matches (listed_in ns) p t (given_map gs)) (λ f. absurd (refusal θ P f T))
        (λ m f. sym (same-map m θ P f T o v) ∙ same-map m η P f U i v)

    -- ELSE THE RESULT after Substitution by this assignment, "unassigned names kept".
    pub match-answered : (s : Sort) → match_answer ns gs p t r ≡ sort s
        ↔ Premise ns gs p t × ((θ : Map) × Turns ns gs p t θ × Spares gs p θ × (apply θ r ≡ s))
    match-answered s = (
      λ h. by_answer (λ a e. refused-sort (sym e ∙ h)) (λ P f e. refused-sort (sym e ∙ h))
          (λ m P f e. (P, (m, success m P f, spares m P f, sort-inj (sym e ∙ h)))),
      λ g. let (P, (θ, T, o, q)) = g in
          by_answer (λ a e. absurd (a P)) (λ P f e. absurd (refusal θ P f T))
          (λ m P f e. e ∙ ap sort (apply-agree m θ r (λ v i. same-map m θ P f T o v) ∙ q)),
    )

---------------------------------------------------------------- the answer's code
-- A question is a match from gs: a question 1, without pairs; a question 3, from its own.
abbrev pub MatchFrom : QuestionFields → List Binding → Type 0
MatchFrom q gs = ((q.kind ≡ 1) × (gs ≡ [])) ⊎ ((q.kind ≡ 3) × (gs ≡ q.pairs))

module _ (q : QuestionFields) (gs : List Binding) (f : MatchFrom q gs) where
  -- It is of another kind than 0, and its verdict is that match.
  pub match-kind : eqb q.kind 0 ≡ false
  match-kind = ⊎_elim (λ h. rw h.0 refl) (λ h. rw h.0 refl) f

  pub match-asked : answer_verdict q ≡ match_verdict q gs
  unfolding answer_verdict
  match-asked = ⊎_elim (λ h. rw (h.0, h.1) refl) (λ h. rw (h.0, h.1) refl) f

  -- Its names are rightly given where those of its pairs are.
  pub match-given : rightly_given (given_names q.pairs) q.names ≡ true → rightly_given (given_names gs) q.names ≡ true
  unfolding rightly_given given_names
  match-given d = ⊎_elim (λ h. rw h.1 refl) (λ h. rw h.1 d) f

  module _ (l : Lengths) (st : List Sort) where
    -- SO THE ANSWER, whose sorts are pattern, target and result, IS CODED 28 exactly outside the premise, and 29 exactly on it without an
    -- assignment that keeps the given pairs.
    pub answer-barred : (answer_of l q st).code ≡ number_of Barred * 65536 ↔ (Premise q.names gs (pattern_of q) (target_of q) → ⊥)
    unfolding match_verdict no_limit
    answer-barred =
        rw (answer-is l q st match-kind)
        (iff-trans (code-cause l st (answer_verdict q) Barred refl)
        (rw match-asked (match-barred q.names gs (pattern_of q) (target_of q) (result_of q))))

    pub answer-unassigned : rightly_given (given_names gs) q.names ≡ true → (answer_of l q st).code ≡ number_of NoAssignment * 65536
        ↔ Premise q.names gs (pattern_of q) (target_of q)
        × ((θ : Map) → Turns q.names gs (pattern_of q) (target_of q) θ → ⊥)
    unfolding match_verdict no_limit
    answer-unassigned d =
        rw (answer-is l q st match-kind)
        (iff-trans (code-cause l st (answer_verdict q) NoAssignment refl)
        (rw match-asked
        (match-unassigned q.names gs (pattern_of q) (target_of q) (result_of q) d)))
