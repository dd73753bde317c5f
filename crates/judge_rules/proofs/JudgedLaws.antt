-- What an accepted judgement tells of a sheet: its counts, its store, and what each of its rows and answers means over the store
-- that is left behind all of them. From the laws of the reader, of the rows and of the questions.
use Rattle.std.specs.Prelude.{ℕ, ◌+◌, ◌*◌, ◌≤◌, ◌<◌, ◌≡◌, refl, Bool, true, false, List, ◌↔◌, length, get_or}
use Rattle.std.proofs.Common.{sym, ap, subst, ◌∙◌, true≢false, arith}
use Rattle.record.specs.Sort.{Sort}
use Rattle.record.specs.Store.{room}
use Rattle.record.specs.SortLists.{Once, Ordered, Starts}
use Rattle.sheet.specs.Sheet.{Lengths, Sheet, Reading, read_sheet}
use Rattle.sheet.specs.Sheet.Reading.{read_refused as unread, got}
use Rattle.sheet.specs.SheetLaws.{SheetIs, sheet-is}
use Rattle.row_rules.specs.Verdict.{Verdict}
use Rattle.row_rules.specs.Term.{term_at, verdict_of}
use Rattle.row_rules.specs.Meaning.{Means, limited, without, free}
use Rattle.row_rules.specs.FreeLaws.{AtOrBelow, free-exactly}
use Rattle.row_rules.specs.Outcomes.{Grown}
use Rattle.row_rules.proofs.OutcomeLaws.{means-stays, grown-trans}
use Rattle.infer_rules.specs.Inferred.{infer}
use Rattle.check_rules.specs.Rank.{Rank}
use Rattle.check_rules.specs.Checked.{check}
use Rattle.judge_rules.specs.Rows.{rows_of}
use Rattle.judge_rules.specs.Questions.{answers_of}
use Rattle.judge_rules.specs.Judged.{accepted, judged_sheet, judged_by}
use Rattle.judge_rules.proofs.RowLaws.{judging, judging-infer, judging-check, MeansBy, plainly, rows-count, rows_grown, row-is-by}
use Rattle.judge_rules.specs.QuestionLaws.{Answers, question_at, answers-grown, answers-count, answers-say}

-- What an accepted judgement tells: the sheet that was read, its rows, and the store after rows and questions.
pub record SheetTold (R : ℕ → List Rank) (s : List ℕ) (l : Lengths) (h : Sheet) (st : List Sort) (rows answers : List ℕ) : Type 0 where
  pub sheet : SheetIs s l h
  pub rows_are : (rows_of R l h.store h.terms).rows ≡ rows
  pub store_is : (answers_of l (rows_of R l h.store h.terms).store h.questions).store ≡ st
  pub answers-are : (answers_of l (rows_of R l h.store h.terms).store h.questions).answers ≡ answers

-- The parts of two equal judgements are equal.
module _ {g h : Sheet} {st st' : List Sort} {rows rows' answers answers' : List ℕ} (e : accepted g st rows answers ≡ accepted h st' rows' answers') where
  sheet-one : g ≡ h
  sheet-one = cc

  store-one : st ≡ st'
  store-one = cc

  rows-one : rows ≡ rows'
  rows-one = cc

  answers_one : answers ≡ answers'
  answers_one = cc

told-by : (R : ℕ → List Rank) (s : List ℕ) (l : Lengths) (h : Sheet) (st : List Sort) (rows answers : List ℕ) (r : Reading Sheet) → read_sheet s l ≡ r
    → judged_sheet R l r ≡ accepted h st rows answers → SheetTold R s l h st rows answers
told-by R s l h st rows answers (unread x) q e = let z : true ≡ false = cc in absurd (true≢false z)
told-by R s l h st rows answers (got g x) q e =
    subst (λ (k : Sheet). SheetTold R s l k st rows answers) (sheet-one e)
    (record { sheet = sheet-is s l g x q; rows_are = rows-one e; store_is = store-one e; answers-are = answers_one e })

pub told : (R : ℕ → List Rank) (s : List ℕ) (l : Lengths) (h : Sheet) (st : List Sort) (rows answers : List ℕ)
    → judged_by R s l ≡ accepted h st rows answers → SheetTold R s l h st rows answers
unfolding judged_by
told R s l h st rows answers e = told-by R s l h st rows answers (read_sheet s l) refl e

read_by : (R : ℕ → List Rank) (s : List ℕ) (l : Lengths) (h : Sheet) (st : List Sort) (rows answers : List ℕ) (r : Reading Sheet) → read_sheet s l ≡ r
    → judged_sheet R l r ≡ accepted h st rows answers → (x : ℕ) × (read_sheet s l ≡ got h x)
read_by R s l h st rows answers (unread x) q e = let z : true ≡ false = cc in absurd (true≢false z)
read_by R s l h st rows answers (got g x) q e = (x, q ∙ ap (λ (k : Sheet). got k x) (sheet-one e))

-- THE SHEET of an accepted judgement is the one that was read.
pub judged-read : (R : ℕ → List Rank) (s : List ℕ) (l : Lengths) (h : Sheet) (st : List Sort) (rows answers : List ℕ)
    → judged_by R s l ≡ accepted h st rows answers → (x : ℕ) × (read_sheet s l ≡ got h x)
unfolding judged_by
judged-read R s l h st rows answers e = read_by R s l h st rows answers (read_sheet s l) refl e

-- An accepted sheet: the bytes s with the lent lengths l.
module _ (R : ℕ → List Rank) (s : List ℕ) (l : Lengths) (h : Sheet) (st : List Sort) (rows answers : List ℕ)
    (e : judged_by R s l ≡ accepted h st rows answers) where
  abbrev tale : SheetTold R s l h st rows answers
  tale = told R s l h st rows answers e

  -- The store after all rows, before the questions.
  abbrev ruled : List Sort
  ruled = (rows_of R l h.store h.terms).store

  -- THE LAW OF THE ROWS, by any way to read codes: where no row at a term or below it has a code that is left out, its row in a column means the
  -- verdict of its tree in that column (0 the inferred, 1 the checked one), over the store that is left behind all rows and answers.
  pub judged-row-by : (out : ℕ → Bool) (g : Verdict → Verdict) → MeansBy out g
      → (column t : ℕ) → column < 2 → t < length h.terms → without out rows column h.terms t ≡ true
      → Means st (get_or rows (2 * t + column) 0) (verdict_of (λ z. g (judging R column z)) (term_at h.terms t))
  judged-row-by out g by column t col low f =
      let k = tale in
      let v = verdict_of (λ z. g (judging R column z)) (term_at h.terms t) in
      let codes = (rows_of R l h.store h.terms).rows in
      subst (λ (z : List ℕ). Means st (get_or z (2 * t + column) 0) v) k.rows_are
      (means-stays ruled st (get_or codes (2 * t + column) 0) v
      (subst (λ (z : List Sort). Starts ruled z) k.store_is (answers-grown l ruled h.questions).starts)
      (row-is-by R l h.store out g by h.terms k.sheet.sorted.roomy k.sheet.terms-are.below column t col low
      (subst (λ (z : List ℕ). without out z column h.terms t ≡ true) (sym k.rows_are) f)))

  -- So where no limit is met there, 22 or 23, it means that verdict as it is.
  pub judged-row : (column t : ℕ) → column < 2 → t < length h.terms → free rows column h.terms t ≡ true
      → Means st (get_or rows (2 * t + column) 0) (verdict_of (judging R column) (term_at h.terms t))
  judged-row = judged-row-by (λ c. limited c) (λ v. v) plainly

  -- Its two columns: the inferred row means what `infer` says of the tree, the checked row what `check` says.
  pub judged-inferred : (t : ℕ) → t < length h.terms → free rows 0 h.terms t ≡ true → Means st (get_or rows (2 * t + 0) 0) (infer (term_at h.terms t))
  judged-inferred t low f =
      subst (λ (v : Verdict). Means st (get_or rows (2 * t + 0) 0) v) (judging-infer R (term_at h.terms t)) (judged-row 0 t (omega arith) low f)

  pub judged-checked : (t : ℕ) → t < length h.terms → free rows 1 h.terms t ≡ true → Means st (get_or rows (2 * t + 1) 0) (check R (term_at h.terms t))
  judged-checked t low f =
      subst (λ (v : Verdict). Means st (get_or rows (2 * t + 1) 0) v) (judging-check R (term_at h.terms t)) (judged-row 1 t (omega arith) low f)

  -- THE ANSWERS say what their questions ask, over that store.
  pub judged-answer : (k : ℕ) → k < length h.questions → Answers st (get_or answers k 0) (question_at h.questions k)
  judged-answer k low =
      let t = tale in
      subst (λ (z : List Sort). Answers z (get_or answers k 0) (question_at h.questions k)) t.store_is
      (subst (λ (z : List ℕ). Answers (answers_of l ruled h.questions).store (get_or z k 0) (question_at h.questions k)) t.answers-are
      (answers-say l ruled h.questions k low))

  -- THE STORE only grows from the sheet's own through all rows and answers: what is left has distinct sorts, parts before wholes,
  -- and room in the lent lengths.
  judged-grown : Grown l h.store st
  judged-grown =
      subst (Grown l h.store) tale.store_is
      (grown-trans l h.store ruled (answers_of l ruled h.questions).store (rows_grown R l h.store h.terms)
      (answers-grown l ruled h.questions))

  pub judged-store : Once st × Ordered st × Starts h.store st × (room l.records l.places st ≡ true)
  judged-store =
      let k = tale.sheet.sorted in
      let g = judged-grown in (g.once k.once, g.ordered k.ordered, g.starts, g.roomy k.roomy)

  -- TWO ROWS A TERM, ONE ANSWER A QUESTION.
  pub judged-counts : (length rows ≡ 2 * length h.terms) × (length answers ≡ length h.questions)
  judged-counts = (
    ap length (sym tale.rows_are) ∙ rows-count R l h.store h.terms,
    ap length (sym tale.answers-are) ∙ answers-count l ruled h.questions,
  )

  -- They fit the lent rows and answers.
  pub judged-fits : (length rows ≤ l.rows) × (length answers ≤ l.answers)
  judged-fits =
      let k = tale.sheet in
      let c = judged-counts in
      (omega (arith, c.0, k.terms-are.many, k.rows_fit), omega (arith, c.1, k.asked, k.answers-fit))

  -- "No limit is met at a term or below it" says that no row of a term reached from it is 22 or 23.
  pub judged-free : (column t : ℕ) → t < length h.terms
      → (free rows column h.terms t ≡ true) ↔ ((u : ℕ) → AtOrBelow h.terms t u → limited (get_or rows (2 * u + column) 0) ≡ false)
  judged-free column t low = free-exactly rows column h.terms tale.sheet.terms-are.below t low
