-- DEMANDS 2 AND 3, THE KEPT ROWS OF A.1 AND THE ANSWERS OF QUESTIONS 1 AND 3, ON THE BYTES THAT `judge` WRITES: what is proved of judgements
-- (RowExactly, TwoRoutes, KeptRows and AskedTheorems of the crate judge_rules), said of the lent buffers at exit as `JudgeIs` promises them,
-- since their rows and answers are the judgement's and their records read back as its store.
use Rattle.std.specs.Prelude.{ℕ, suc, ◌+◌, ◌*◌, ◌-◌, ◌<◌, ◌≡◌, true, false, ◌↔◌, replicate}
use Rattle.std.proofs.Math.Path.{sym, ap}
use Rattle.std.proofs.Common.{subst, ◌∙◌, arith}
use mathlib.Core.List.{List}
use Rattle.std.proofs.Math.ListN.{length, get_or, get_or-append}
use Rattle.record.specs.Sort.{Sort}
use Rattle.record.specs.Record.{leaf}
use Rattle.record.specs.Store.{padded}
use Rattle.record.specs.Decode.{store_of, sort_at}
use Rattle.record.specs.StoreLaws.{sort-made}
use Rattle.sheet.specs.Sheet.{Lengths, Binding, QuestionFields, Sheet, read_sheet}
use Rattle.sheet.specs.Sheet.Reading.{got}
use Rattle.substitution.specs.Substitution.{Map, apply}
use Rattle.substitution.specs.Premises.{proper_map}
use Rattle.row_rules.specs.declared.Cause.{Cause}
use Rattle.row_rules.specs.declared.Cause.TheVariants.{Below, Panics, Barred, NoAssignment}
use Rattle.row_rules.specs.Verdict.{sort, refused, number_of}
use Rattle.row_rules.specs.Term.{term_at}
use Rattle.row_rules.specs.Meaning.{limited, free, is_full, roomed}
use Rattle.row_rules.specs.FreeLaws.{without-same}
use Rattle.row_rules.specs.Outcomes.{no_limit}
use Rattle.row_rules.proofs.OutcomeLaws.{room-few}
use Rattle.infer_rules.specs.Inferred.{infer}
use Rattle.check_rules.specs.Ranks.{smt_lib, document01}
use Rattle.check_rules.specs.Checked.{check}
use Rattle.check_rules.specs.Rules.{HasSort}
use Rattle.check_rules.specs.Routes.{replace, clear_term}
use Rattle.judge_rules.specs.Rows.{rows_of}
use Rattle.judge_rules.specs.Questions.{pattern_of, target_of, result_of, answers_of}
use Rattle.judge_rules.specs.QuestionRules.{Premise, Turns, Spares}
use Rattle.judge_rules.specs.Judged.{Judgement, accepted, judged_sheet, judged_by, judged, rows_after, answers_after}
use Rattle.judge_rules.specs.QuestionLaws.{Answers, question_at}
use Rattle.judge_rules.proofs.JudgedLaws.{told, judged-counts, judged-answer, judged-store}
use Rattle.judge_rules.proofs.KnownLaws.{judged-rows-known, judged-answers-known}
use Rattle.judge_rules.specs.Given.{checked_row, Gives}
use Rattle.judge_rules.proofs.RowExactly.{row_has, row-exactly, row-infers, row-infers-exactly, row-refused-for, row-refused-exactly, row-panics-for, row-panics-exactly}
use Rattle.judge_rules.proofs.QuestionTheorems.{MatchFrom, match-kind}
use Rattle.judge_rules.proofs.AskedTheorems.{asked-barred, asked-unassigned, asked-answered}
use Rattle.judge_rules.proofs.TwoRoutes.{two-routes}
use Rattle.judge_rules.proofs.KeptRows.{kept-rows}
use Rattle.judge_rules.proofs.SameRows.{same-number, same-limit}
use Rattle.verdicts.specs.Judge.{Outcome, ReadsBack, JudgeIs}

-- IN THE BUFFERS b p rw AT EXIT THE CHECKED ROW OF THE TERM t GIVES THE SORT s: it is no refusal, and the record of its number, read
-- from the bytes at its place, is s.
abbrev pub GivesIn : List ℕ → List ℕ → List ℕ → ℕ → Sort → Type 0
GivesIn b p rw t s = (checked_row rw t < 65536) × (sort_at b p (suc (checked_row rw t)) (checked_row rw t) ≡ s)

-- The judgement of bytes s that are read as the sheet h.
judgement : (s : List ℕ) (l : Lengths) {h : Sheet} {x : ℕ} → read_sheet s l ≡ got h x
    → (st : List Sort) × (rows : List ℕ) × (answers : List ℕ) × (judged s l ≡ accepted h st rows answers)
unfolding judged judged_by
judgement s l {h} q =
    let tabled = rows_of smt_lib l h.store h.terms in
    let answered = answers_of l tabled.store h.questions in
    (answered.store, tabled.rows, answered.answers, ap (judged_sheet smt_lib l) q)

-- A call of `judge` for bytes s that it accepts as the sheet h.
module _ {s : List ℕ} {l : Lengths} {b p rw an : List ℕ} {o : Outcome} (j : JudgeIs s l b p rw an o)
    {h : Sheet} {st : List Sort} {rows answers : List ℕ} (e : judged s l ≡ accepted h st rows answers) where
  -- Its buffers: rows and answers stand first in the lent ones, and the sort of each number is read back.
  row_here : (i : ℕ) → i < 2 * length h.terms → get_or rw i 0 ≡ get_or rows i 0
  unfolding judged rows_after padded
  row_here i low =
      ap (λ (z : List ℕ). get_or z i 0) (j.buffers.rows ∙ ap (rows_after l) e)
      ∙ get_or-append rows (replicate (l.rows - length rows) 0) 0 i
      (omega (arith, (judged-counts smt_lib s l h st rows answers e).0))

  answer-here : (k : ℕ) → k < length h.questions → get_or an k 0 ≡ get_or answers k 0
  unfolding judged answers_after padded
  answer-here k low =
      ap (λ (z : List ℕ). get_or z k 0) (j.buffers.answers ∙ ap (answers_after l) e)
      ∙ get_or-append answers (replicate (l.answers - length answers) 0) 0 k
      (omega (arith, (judged-counts smt_lib s l h st rows answers e).1))

  store-here : store_of b p (length st) ≡ st
  store-here = (subst (λ (z : Judgement). ReadsBack z b p) e j.buffers.reads).back

  sort-here : (k : ℕ) → k < length st → sort_at b p (suc k) k ≡ get_or st k leaf
  unfolding sort_at
  sort-here k low =
      sort-made b p k (suc k) (omega arith) ∙ sym (sort-made b p k (length st) low) ∙ ap (λ (z : List Sort). get_or z k leaf) store-here

  free-here : (column : ℕ) → column < 2 → (t : ℕ) → t < length h.terms → free rw column h.terms t ≡ true → free rows column h.terms t ≡ true
  unfolding judged
  free-here column col t low =
      without-same (λ c. limited c) rw rows column col h.terms (told smt_lib s l h st rows answers e).sheet.terms-are.below row_here t low

  roomed-here : (column : ℕ) → column < 2 → (t : ℕ) → t < length h.terms → roomed rw column h.terms t ≡ true → roomed rows column h.terms t ≡ true
  unfolding judged
  roomed-here column col t low =
      without-same (λ c. is_full c) rw rows column col h.terms (told smt_lib s l h st rows answers e).sheet.terms-are.below row_here t low

  -- The buffers give what the judgement gives, in either column.
  module _ (column : ℕ) (col : column < 2) (t : ℕ) (low : t < length h.terms) (a : Sort) where
    known : get_or rows (2 * t + column) 0 < 65536 → get_or rows (2 * t + column) 0 < length st
    unfolding judged
    known small = judged-rows-known smt_lib s l h st rows answers e (2 * t + column) (omega arith) small

    gives-in : (get_or rows (2 * t + column) 0 < 65536) × (get_or st (get_or rows (2 * t + column) 0) leaf ≡ a)
        → (get_or rw (2 * t + column) 0 < 65536) × (sort_at b p (suc (get_or rw (2 * t + column) 0)) (get_or rw (2 * t + column) 0) ≡ a)
    gives-in g =
        subst (λ (k : ℕ). (k < 65536) × (sort_at b p (suc k) k ≡ a)) (sym (row_here (2 * t + column) (omega arith)))
        (g.0, sort-here (get_or rows (2 * t + column) 0) (known g.0) ∙ g.1)

    gives-out : (get_or rw (2 * t + column) 0 < 65536) × (sort_at b p (suc (get_or rw (2 * t + column) 0)) (get_or rw (2 * t + column) 0) ≡ a)
        → (get_or rows (2 * t + column) 0 < 65536) × (get_or st (get_or rows (2 * t + column) 0) leaf ≡ a)
    gives-out g =
        let k = subst (λ (k : ℕ). (k < 65536) × (sort_at b p (suc k) k ≡ a)) (row_here (2 * t + column) (omega arith)) g in
        (k.0, sym (sort-here (get_or rows (2 * t + column) 0) (known k.0)) ∙ k.1)

-- A call of `judge` for bytes s that are read as the sheet h, so that it accepts them.
module _ {s : List ℕ} {l : Lengths} {b p rw an : List ℕ} {o : Outcome} (j : JudgeIs s l b p rw an o) {h : Sheet} {x : ℕ} (q : read_sheet s l ≡ got h x)
    (t : ℕ) (low : t < length h.terms) where
  -- DEMAND 2 ON THE BYTES: what the checked row gives, the rules give to the term's tree; and where no limit is met at the term or below
  -- it, the row gives a sort exactly when the rules give it (`row_has`, `row-exactly`).
  pub judge-has : (a : Sort) → GivesIn b p rw t a → HasSort smt_lib (term_at h.terms t) a
  judge-has a g = let (st, rows, answers, e) = judgement s l q in row_has s l h st rows answers e t low a (gives-out j e 1 (omega arith) t low a g)

  pub judge-exactly : (a : Sort) → free rw 1 h.terms t ≡ true → GivesIn b p rw t a ↔ HasSort smt_lib (term_at h.terms t) a
  judge-exactly a f = (
    judge-has a,
    λ r. let (st, rows, answers, e) = judgement s l q in gives-in j e 1 (omega arith) t low a ((row-exactly s l h st rows answers e t low a (free-here j e 1 (omega arith) t low f)).1 r),
  )

  -- THE SAME OF REFUSALS: a checked row that is refused for a cause other than 20, 22 and 23 stands for a tree that is refused for it; and where
  -- no limit is met at the term or below it, exactly for these (`row-refused-for`, `row-refused-exactly`).
  pub judge-refused-for : (c : Cause) → no_limit (refused c) ≡ true → (c ≡ Below → ⊥) → checked_row rw t ≡ number_of c * 65536 → check smt_lib (term_at h.terms t) ≡ refused c
  judge-refused-for c p d k =
      let (st, rows, answers, e) = judgement s l q in
      row-refused-for s l h st rows answers e t low c p d (sym (row_here j e (2 * t + 1) (omega arith)) ∙ k)

  pub judge-refused-exactly : (c : Cause) → free rw 1 h.terms t ≡ true → checked_row rw t ≡ number_of c * 65536 ↔ check smt_lib (term_at h.terms t) ≡ refused c
  judge-refused-exactly c f =
      let (st, rows, answers, e) = judgement s l q in
      let same = row_here j e (2 * t + 1) (omega arith) in
      let (there, back) = row-refused-exactly s l h st rows answers e t low c (free-here j e 1 (omega arith) t low f) in
      (λ k. there (sym same ∙ k), λ v. same ∙ back v)

  -- THE INFERRED ROW: what it gives, `infer` gives to the term's tree, and where no limit is met exactly that (`row-infers`, `row-infers-exactly`);
  pub judge-infers : (a : Sort) → (get_or rw (2 * t + 0) 0 < 65536) × (sort_at b p (suc (get_or rw (2 * t + 0) 0)) (get_or rw (2 * t + 0) 0) ≡ a) → infer (term_at h.terms t) ≡ sort a
  judge-infers a g = let (st, rows, answers, e) = judgement s l q in row-infers s l h st rows answers e t low a (gives-out j e 0 (omega arith) t low a g)

  pub judge-infers-exactly : (a : Sort) → free rw 0 h.terms t ≡ true
      → (get_or rw (2 * t + 0) 0 < 65536) × (sort_at b p (suc (get_or rw (2 * t + 0) 0)) (get_or rw (2 * t + 0) 0) ≡ a) ↔ infer (term_at h.terms t) ≡ sort a
  judge-infers-exactly a f = (
    judge-infers a,
    λ v. let (st, rows, answers, e) = judgement s l q in gives-in j e 0 (omega arith) t low a ((row-infers-exactly s l h st rows answers e t low a (free-here j e 0 (omega arith) t low f)).1 v),
  )

  -- and it is 21 where `infer` panics on the tree (`row-panics-for`, `row-panics-exactly`).
  pub judge-panics-for : get_or rw (2 * t + 0) 0 ≡ number_of Panics * 65536 → infer (term_at h.terms t) ≡ refused Panics
  judge-panics-for k =
      let (st, rows, answers, e) = judgement s l q in
      row-panics-for s l h st rows answers e t low (sym (row_here j e (2 * t + 0) (omega arith)) ∙ k)

  pub judge-panics-exactly : free rw 0 h.terms t ≡ true → get_or rw (2 * t + 0) 0 ≡ number_of Panics * 65536 ↔ infer (term_at h.terms t) ≡ refused Panics
  judge-panics-exactly f =
      let (st, rows, answers, e) = judgement s l q in
      let same = row_here j e (2 * t + 0) (omega arith) in
      let (there, back) = row-panics-exactly s l h st rows answers e t low (free-here j e 0 (omega arith) t low f) in
      (λ k. there (sym same ∙ k), λ v. same ∙ back v)

  -- A.1 OF DOCUMENT 02 ON THE BYTES (`kept-rows`): where the checked row gave a sort in the judgement over the ranks of document 01, the row that
  -- `judge` wrote gives it, unless 23 was written at the term or below it.
  pub judge-keeps : {st : List Sort} {rows answers : List ℕ} → judged_by document01 s l ≡ accepted h st rows answers
      → roomed rw 1 h.terms t ≡ true → (a : Sort) → Gives st rows t a → GivesIn b p rw t a
  judge-keeps {st} {rows} {answers} was f a g =
      let (now, codes, given, e) = judgement s l q in
      gives-in j e 1 (omega arith) t low a
      (kept-rows s l h st now rows codes answers given was e t low (roomed-here j e 1 (omega arith) t low f) a g).1

  -- THE CHECKED ROW THAT WAS WRITTEN IS THE INFERRED ROW beside it where it is a store number, and where it is 22 or 23 (`same-number`, `same-limit`).
  pub judge-same : checked_row rw t < 65536 → get_or rw (2 * t + 0) 0 ≡ checked_row rw t
  judge-same k =
      let (st, rows, answers, e) = judgement s l q in
      let own = row_here j e (2 * t + 1) (omega arith) in
      row_here j e (2 * t + 0) (omega arith) ∙ same-number s l h st rows answers e t low (subst (λ (c : ℕ). c < 65536) own k) ∙ sym own

  pub judge-same-limit : limited (checked_row rw t) ≡ true → get_or rw (2 * t + 0) 0 ≡ checked_row rw t
  judge-same-limit k =
      let (st, rows, answers, e) = judgement s l q in
      let own = row_here j e (2 * t + 1) (omega arith) in
      row_here j e (2 * t + 0) (omega arith) ∙ same-limit s l h st rows answers e t low (sym (ap (λ (c : ℕ). limited c) own) ∙ k) ∙ sym own

-- THE ANSWERS ON THE BYTES: each says what its question asks, over the sorts that are read from the records: 1 or 0 as two sorts are compatible;
-- and where it is not 22 or 23, the sort or the cause of the question's verdict (`judged-answer`).
pub judge-answers : {s : List ℕ} {l : Lengths} {b p rw an : List ℕ} {o : Outcome} → JudgeIs s l b p rw an o → {h : Sheet} {x : ℕ} → read_sheet s l ≡ got h x
    → (k : ℕ) → k < length h.questions → (n : ℕ) × Answers (store_of b p n) (get_or an k 0) (question_at h.questions k)
unfolding judged
judge-answers {s} {l} {b} {p} {rw} {an} j {h} q k low =
    let (st, rows, answers, e) = judgement s l q in (
      length st,
      subst (λ (z : List Sort). Answers z (get_or an k 0) (question_at h.questions k)) (sym (store-here j e))
          (subst (λ (c : ℕ). Answers st c (question_at h.questions k)) (sym (answer-here j e k low))
          (judged-answer smt_lib s l h st rows answers e k low)),
    )

-- QUESTIONS 1 AND 3 ON THE BYTES (`asked-barred`, `asked-unassigned`, `asked-answered`): with gs the given pairs, none for a question 1, an answer
-- is 28 exactly outside matching's premise, 29 exactly on it where no assignment keeps the given pairs and turns pattern into target, and
-- where it is not 22 or 23, it names the sort a exactly where a is the result after Substitution by the one such assignment that binds given
-- names and variables of the pattern only (`Spares`).
module _ {s : List ℕ} {l : Lengths} {b p rw an : List ℕ} {o : Outcome} (j : JudgeIs s l b p rw an o) {h : Sheet} {x : ℕ} (q : read_sheet s l ≡ got h x)
    (k : ℕ) (low : k < length h.questions) (gs : List Binding) (f : MatchFrom (question_at h.questions k) gs) where
  abbrev asked : QuestionFields
  asked = question_at h.questions k

  pub judge-barred : get_or an k 0 ≡ number_of Barred * 65536 ↔ (Premise asked.names gs (pattern_of asked) (target_of asked) → ⊥)
  unfolding judged
  judge-barred =
      let (st, rows, answers, e) = judgement s l q in
      subst (λ (c : ℕ). c ≡ number_of Barred * 65536 ↔ (Premise asked.names gs (pattern_of asked) (target_of asked) → ⊥)) (sym (answer-here j e k low))
      (asked-barred smt_lib s l h st rows answers e k low gs f)

  pub judge-unassigned : get_or an k 0 ≡ number_of NoAssignment * 65536
      ↔ Premise asked.names gs (pattern_of asked) (target_of asked) × ((θ : Map) → Turns asked.names gs (pattern_of asked) (target_of asked) θ → ⊥)
  unfolding judged
  judge-unassigned =
      let (st, rows, answers, e) = judgement s l q in
      subst (λ (c : ℕ). c ≡ number_of NoAssignment * 65536 ↔ Premise asked.names gs (pattern_of asked) (target_of asked) × ((θ : Map) → Turns asked.names gs (pattern_of asked) (target_of asked) θ → ⊥))
      (sym (answer-here j e k low))
      (asked-unassigned smt_lib s l h st rows answers e k low gs f)

  pub judge-answered : limited (get_or an k 0) ≡ false → (a : Sort)
      → (get_or an k 0 < 65536) × (sort_at b p (suc (get_or an k 0)) (get_or an k 0) ≡ a)
      ↔ Premise asked.names gs (pattern_of asked) (target_of asked) × ((θ : Map) × Turns asked.names gs (pattern_of asked) (target_of asked) θ × Spares gs (pattern_of asked) θ × (apply θ (result_of asked) ≡ a))
  unfolding judged
  judge-answered n a =
      let (st, rows, answers, e) = judgement s l q in
      let c = get_or answers k 0 in
      let same = answer-here j e k low in
      let few = room-few l.records l.places st (judged-store smt_lib s l h st rows answers e).3 in
      let (there, back) = asked-answered smt_lib s l h st rows answers e k low gs f (subst (λ (i : ℕ). limited i ≡ false) same n) a in (
        λ g.
            let d = subst (λ (i : ℕ). (i < 65536) × (sort_at b p (suc i) i ≡ a)) same g in
            let known : c < length st = judged-answers-known smt_lib s l h st rows answers e k low (match-kind (question_at h.questions k) gs f) d.0 in
            there (known, sym (sort-here j e c known) ∙ d.1),
        λ g.
            let m = back g in
            subst (λ (i : ℕ). (i < 65536) × (sort_at b p (suc i) i ≡ a)) (sym same) (omega (arith, m.0, few), sort-here j e c m.0 ∙ m.1),
      )

-- DEMAND 3 ON THE BYTES (`two-routes`): for any two calls of `judge`, with bytes A and B that are read as the sheets h_a and h_b, so that it
-- accepts both; any term t of A, and t' of B whose tree is that of t with its sort variables replaced by σ; where σ's images hold no
-- Par, ParamBitVec, BitVec 0 or Type and no name that σ touches is a parameter of a Par of the term; and where no checked row of t' or
-- below it is 22 or 23: if the checked row of t that was written for A gives the sort s, then that of t' that was written for B gives the
-- sort s put through σ, each read from the bytes that were written beside it.
pub judge-routes : {A B : List ℕ} {l_a l_b : Lengths} {b_a p_a rw_a an_a b_b p_b rw_b an_b : List ℕ} {o_a o_b : Outcome}
    → JudgeIs A l_a b_a p_a rw_a an_a o_a → JudgeIs B l_b b_b p_b rw_b an_b o_b
    → {h_a h_b : Sheet} {x_a x_b : ℕ} → read_sheet A l_a ≡ got h_a x_a → read_sheet B l_b ≡ got h_b x_b
    → (t t' : ℕ) → t < length h_a.terms → t' < length h_b.terms
    → (σ : Map) → proper_map σ ≡ true → clear_term σ (term_at h_a.terms t) ≡ true
    → term_at h_b.terms t' ≡ replace σ (term_at h_a.terms t)
    → free rw_b 1 h_b.terms t' ≡ true
    → (s : Sort) → GivesIn b_a p_a rw_a t s → GivesIn b_b p_b rw_b t' (apply σ s)
judge-routes {A} {B} {l_a} {l_b} j_a j_b {h_a} {h_b} q_a q_b t t' low_a low_b σ proper clear same f s g =
    let (st_a, rows_a, answers_a, e_a) = judgement A l_a q_a in
    let (st_b, rows_b, answers_b, e_b) = judgement B l_b q_b in
    gives-in j_b e_b 1 (omega arith) t' low_b (apply σ s)
    (two-routes A B l_a l_b h_a h_b st_a st_b rows_a rows_b answers_a answers_b e_a e_b
    t t' low_a low_b σ proper clear same (free-here j_b e_b 1 (omega arith) t' low_b f) s (gives-out j_a e_a 1 (omega arith) t low_a s g)).1
