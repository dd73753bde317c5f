-- Every row that names a sort names one of the store that is left, and so does every answer to a match or an apply.
use Rattle.std.specs.Prelude.{ℕ, zero, suc, ◌+◌, ◌*◌, ◌-◌, ◌<◌, ◌≡◌, false, List, [], ◌∷◌, length, get_or, eqb, ltb}
use Rattle.std.proofs.Common.{sym, ap, subst, arith, ltb-true, ltb-false}
use Rattle.record.specs.Sort.{Sort}
use Rattle.record.specs.SortLists.{starts-count}
use Rattle.record.specs.Cases.{by_test}
use Rattle.sheet.specs.Sheet.{Lengths, Sheet, TermFields}
use Rattle.row_rules.specs.Verdict.{Verdict, sort, refused}
use Rattle.row_rules.specs.Term.{Site, verdict_at}
use Rattle.row_rules.specs.Outcome.{CodedStore, outcome, row_sort}
use Rattle.row_rules.specs.Meaning.{Means}
use Rattle.row_rules.proofs.OutcomeLaws.{refusal-large, outcome-means, not-limited}
use Rattle.infer_rules.specs.Inferred.{inferred}
use Rattle.check_rules.specs.Rank.{Rank}
use Rattle.check_rules.specs.Checked.{checked}
use Rattle.judge_rules.specs.Rows.{RowsSoFar, row_of, rows_of}
use Rattle.judge_rules.specs.Questions.{answer_verdict, answers_of}
use Rattle.judge_rules.specs.Judged.{accepted, judged_by}
use Rattle.judge_rules.proofs.RowLaws.{row-grown, rows_more, rows_new, rows-old, turn-grown}
use Rattle.judge_rules.specs.QuestionLaws.{question_at, answers-grown}
use Rattle.judge_rules.proofs.JudgedLaws.{told, judged-answer}

-- A code that means a verdict and names a sort names one of the store.
means-known : (st : List Sort) (c : ℕ) (v : Verdict) → Means st c v → c < 65536 → c < length st
means-known st c (sort s) m h = m.0
means-known st c (refused x) m h = absurd (omega (arith, refusal-large x))

outcome-known : (l : Lengths) (st : List Sort) (v : Verdict) → (outcome l st v).code < 65536 → (outcome l st v).code < length (outcome l st v).store
outcome-known l st v h = means-known (outcome l st v).store (outcome l st v).code v (outcome-means l st v (not-limited (outcome l st v).code h)) h

---------------------------------------------------------------- all rows
module _ (R : ℕ → List Rank) (l : Lengths) (st : List Sort) where
  abbrev first : List TermFields → TermFields → CodedStore
  first rs r = row_of inferred 0 l rs r (rows_of R l st rs).rows (rows_of R l st rs).store

  abbrev second : List TermFields → TermFields → CodedStore
  second rs r = row_of (checked R) 1 l rs r (rows_of R l st rs).rows (first rs r).store

  row-known : (J : Site → Verdict) (column : ℕ) (rs : List TermFields) (r : TermFields) (rows : List ℕ) (now : List Sort)
      → (row_of J column l rs r rows now).code < 65536 → (row_of J column l rs r rows now).code < length (row_of J column l rs r rows now).store
  unfolding row_of
  row-known J column rs r rows now h = outcome-known l now (verdict_at J (λ i. row_sort now rows column i) rs r) h

  -- The two rows of one more term.
  pair-known : (rs : List TermFields) (r : TermFields) (i : ℕ) → i < 2 → get_or ((first rs r).code ∷ (second rs r).code ∷ []) i 0 < 65536
      → get_or ((first rs r).code ∷ (second rs r).code ∷ []) i 0 < length (second rs r).store
  pair-known rs r zero h q =
      omega (
        arith,
        row-known inferred 0 rs r (rows_of R l st rs).rows (rows_of R l st rs).store q,
        starts-count (first rs r).store (second rs r).store (row-grown (checked R) 1 l rs r (rows_of R l st rs).rows (first rs r).store).starts,
      )
  pair-known rs r (suc zero) h q = row-known (checked R) 1 rs r (rows_of R l st rs).rows (first rs r).store q
  pair-known rs r (suc (suc i)) h q = absurd (omega arith)

  new-known : (rs : List TermFields) (r : TermFields) (i : ℕ) → i < 2 → get_or (rows_of R l st (r ∷ rs)).rows (2 * length rs + i) 0 < 65536
      → get_or (rows_of R l st (r ∷ rs)).rows (2 * length rs + i) 0 < length (rows_of R l st (r ∷ rs)).store
  new-known rs r i h q =
      let c = rows_new R l st rs r i in
      omega (arith, c, pair-known rs r i h (omega (arith, c)), ap (λ (z : RowsSoFar). length z.store) (rows_more R l st rs r))

  pub rows-known : (rs : List TermFields) (i : ℕ) → i < 2 * length rs → get_or (rows_of R l st rs).rows i 0 < 65536 → get_or (rows_of R l st rs).rows i 0 < length (rows_of R l st rs).store
  rows-known [] i h q = absurd (omega arith)
  rows-known (r ∷ rs) i h q =
      by_test (ltb i (2 * length rs))
      (λ e.
      let o = ltb-true i (2 * length rs) e in
      let c = rows-old R l st rs r i o in
      omega (arith, c, rows-known rs i o (omega (arith, c)), starts-count (rows_of R l st rs).store (rows_of R l st (r ∷ rs)).store (turn-grown R l st rs r).starts))
      (λ e.
      let o = ltb-false i (2 * length rs) e in
      let c : 2 * length rs + (i - 2 * length rs) ≡ i = omega arith in
      subst (λ (k : ℕ). get_or (rows_of R l st (r ∷ rs)).rows k 0 < length (rows_of R l st (r ∷ rs)).store) c
      (new-known rs r (i - 2 * length rs) (omega arith) (subst (λ (k : ℕ). get_or (rows_of R l st (r ∷ rs)).rows k 0 < 65536) (sym c) q)))

---------------------------------------------------------------- an accepted sheet
module _ (R : ℕ → List Rank) (s : List ℕ) (l : Lengths) (h : Sheet) (st : List Sort) (rows answers : List ℕ)
    (e : judged_by R s l ≡ accepted h st rows answers) where
  -- EVERY ROW that is no refusal is a number of the store that is left.
  pub judged-rows-known : (i : ℕ) → i < 2 * length h.terms → get_or rows i 0 < 65536 → get_or rows i 0 < length st
  judged-rows-known i o q =
      let t = told R s l h st rows answers e in
      let ruled = (rows_of R l h.store h.terms).store in
      let c : get_or (rows_of R l h.store h.terms).rows i 0 ≡ get_or rows i 0 = ap (λ (z : List ℕ). get_or z i 0) t.rows_are in
      omega (
        arith,
        c,
        rows-known R l h.store h.terms i o (omega (arith, c)),
        starts-count ruled (answers_of l ruled h.questions).store (answers-grown l ruled h.questions).starts,
        ap length t.store_is,
      )

  -- EVERY ANSWER to a question that is not answered by yes or no likewise.
  pub judged-answers-known : (k : ℕ) → k < length h.questions → eqb (question_at h.questions k).kind 0 ≡ false → get_or answers k 0 < 65536 → get_or answers k 0 < length st
  judged-answers-known k o z q =
      means-known st (get_or answers k 0) (answer_verdict (question_at h.questions k))
      ((judged-answer R s l h st rows answers e k o).1 z (not-limited (get_or answers k 0) q)) q
