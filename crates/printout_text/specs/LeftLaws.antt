-- What `judge` leaves of an accepted sheet can be printed, its lines are those of the judgement, and every piece goes on.
use Rattle.std.specs.Prelude.{ℕ, ◌+◌, ◌*◌, ◌-◌, ◌≤◌, ◌<◌, ◌≡◌, refl, true, List, [], ◌∷◌, ◌++◌, get_or, take, replicate, eqb, ltb}
use Rattle.std.proofs.Common.{sym, ap₂, subst, ◌∙◌, length-append, take_at, get_or-take}
use Rattle.std.proofs.Math.Path.{ap}
use Rattle.std.proofs.lemmas.Bool.{false≢true}
use native.Mathlib.Omega.{arith}
use Rattle.std.proofs.Math.ListN.{length, get_or-append}
use Rattle.std.proofs.lemmas.List.{length-replicate, get_or_at}
use borrow.Author.Tests.{ne_eqb, ltb-true, ltb-false, eqb-true, eqb-false}
use Rattle.record.specs.Sort.{Sort, Sorts, var, par, node, end, ◌then◌}
use Rattle.record.specs.Record.{leaf}
use Rattle.record.specs.Store.{padded}
use Rattle.record.specs.Decode.{store_of, sort_at}
use Rattle.record.specs.Codec.{Bytes}
use Rattle.record.specs.Cases.{and_left, and_right, by_test, below_other}
use Rattle.sheet.specs.Sheet.{Sheet, Lengths, QuestionFields}
use Rattle.substitution.specs.Premises.{usual, proper, proper_all}
use Rattle.check_rules.specs.Ranks.{smt_lib}
use Rattle.check_rules.proofs.RankSound.{smt_lib-sound}
use Rattle.check_rules.specs.Checked.{carried}
use Rattle.judge_rules.specs.Judged.{Judgement, sheet_refused, accepted, judged, rows_after, answers_after}
use Rattle.judge_rules.specs.QuestionLaws.{question_at}
use Rattle.judge_rules.proofs.JudgedLaws.{judged-read, judged-counts, judged-fits}
use Rattle.judge_rules.proofs.KnownLaws.{judged-rows-known, judged-answers-known}
use Rattle.judge_rules.proofs.CarriedLaws.{judged-carried}
use Rattle.verdicts.specs.Judge.{Accepted}
use Rattle.verdicts.specs.Judge.{outcome_of, Reads, ReadsBack, JudgeIs}
use Rattle.printout_sort.specs.Trees.{sort_room, checked_room}
use Rattle.printout_sort.specs.TextLaws.{pars, pars_all}
use Rattle.printout.specs.declared.kinds.Totals.{Totals}
use Rattle.printout.specs.declared.whole.Piece.{Piece}
use Rattle.printout.specs.Lines.{row_text, answer_text, term_line, question_line, line_room}
use Rattle.printout.specs.RoomLaws.{row_fits, row-fits-one, term_fits, answer-fits, question-fits}
use Rattle.printout.specs.Printed.{kinds_of, program_lengths}
use Rattle.printout.specs.Kinds.{KindsAre}
use Rattle.printout.specs.Whole.{line_at, lines_from, Judged, PieceIs}
use Rattle.printout.specs.WholeLaws.{line-term, line-question}
use Rattle.printout_text.specs.Text.{line_count, line_of}
use Rattle.printout_text.specs.PrintedLaws.{kinds-count}

---------------------------------------------------------------- every piece goes on
-- Every checked row that is no refusal names a sort of the store that has at most one Par.
abbrev pub OnePar : List ℕ → List ℕ → List ℕ → ℕ → ℕ → Type 0
OnePar b p rows t n = (k : ℕ) → k < t → get_or rows (2 * k + 1) 0 < 65536 → pars (sort_at b p n (get_or rows (2 * k + 1) 0)) ≤ 1

module _ (b p w d g : List ℕ) (t q n : ℕ) (j : Judged b p w d g t q n) (one : OnePar b p w t n) (bytes : Bytes b)
    (rows32 : (i : ℕ) → get_or w i 0 < 4294967296) (answers32 : (i : ℕ) → get_or g i 0 < 4294967296) where
  inferred-short : (k : ℕ) → k < t → length (row_text (store_of b p n) (get_or w (2 * k) 0)) < sort_room
  inferred-short k h =
      let i = 2 * k in
      let known = j.row i (omega arith) in
      row_fits b p n j.stored bytes (get_or w i 0) (rows32 i) known (λ z. j.small (get_or w i 0) (known z))

  checked-short : (k : ℕ) → k < t → length (row_text (store_of b p n) (get_or w (2 * k + 1) 0)) < checked_room
  checked-short k h =
      let i = 2 * k + 1 in
      let known = j.row i (omega arith) in
      row-fits-one b p n j.stored bytes (get_or w i 0) (rows32 i) known (λ z. j.small (get_or w i 0) (known z)) (one k h)

  answer-short : (i : ℕ) → i < q → length (answer_text (store_of b p n) (get_or d i 0) (get_or g i 0)) < sort_room
  answer-short i h =
      answer-fits (store_of b p n) (get_or d i 0) (get_or g i 0)
      (λ z. row_fits b p n j.stored bytes (get_or g i 0) (answers32 i) (j.answer i h z) (λ y. j.small (get_or g i 0) (j.answer i h z y)))

  -- NO LINE IS LONGER than `line_room`.
  line-short : (k : ℕ) → k < t + q → length (line_at (store_of b p n) w d g t k) ≤ line_room
  line-short k h =
      by_test (ltb k t)
      (λ e.
      let o = ltb-true k t e in
      omega (
        arith,
        ap length (line-term (store_of b p n) w d g t k o),
        term_fits b p n j.stored bytes k (get_or w (2 * k) 0) (get_or w (2 * k + 1) 0) (omega (arith, j.few)) (inferred-short k o) (checked-short k o),
      ))
      (λ e.
      let o = ltb-false k t e in
      omega (
        arith,
        ap length (line-question (store_of b p n) w d g t k o),
        question-fits (store_of b p n) (k - t) (get_or d (k - t) 0) (get_or g (k - t) 0) (omega (arith, j.fewer)) (answer-short (k - t) (omega arith)),
      ))

  -- A PIECE GOES ON by a line at least, in a buffer of `line_room` bytes.
  pub piece-goes : (from : ℕ) (o o' : List ℕ) (r : Piece) → PieceIs b p w d g t q from o o' n r → from < t + q → line_room ≤ length o → from < r.next
  unfolding lines_from
  piece-goes from o o' r a h long = by_test (ltb from r.next) (λ e. ltb-true from r.next e) (λ e. absurd (stuck (ltb-false from r.next e)))
    where
      stuck : r.next ≤ from → ⊥
      stuck u =
          let same : r.next ≡ from = omega (arith, a.lines) in
          let none : r.next - from ≡ 0 = omega arith in
          let z : length (lines_from (λ k. line_at (store_of b p n) w d g t k) from (r.next - from)) ≡ 0 =
          ap (λ (m : ℕ). length (lines_from (λ k. line_at (store_of b p n) w d g t k) from m)) none in
          omega (arith, a.text.next, z, a.full (omega arith), line-short r.next (omega arith))

---------------------------------------------------------------- what judging leaves
-- A proper sort has no Par, and one that a Var may carry has at most one.
mutual
  unfolding proper pars

  proper-pars : (s : Sort) → proper s ≡ true → pars s ≡ 0
  proper-pars (var v) e = refl
  proper-pars (par ns b) e = absurd (false≢true e)
  proper-pars (node k a w ss) e = proper-pars_all ss (and_right (usual k w) (proper_all ss) e)

  proper-pars_all : (ss : Sorts) → proper_all ss ≡ true → pars_all ss ≡ 0
  proper-pars_all end e = refl
  proper-pars_all (s then ss) e =
      omega (arith, proper-pars s (and_left (proper s) (proper_all ss) e), proper-pars_all ss (and_right (proper s) (proper_all ss) e))

carried-pars : (s : Sort) → carried s ≡ true → pars s ≤ 1
unfolding pars
carried-pars (var v) e = omega arith
carried-pars (par [] b) e = absurd (false≢true e)
carried-pars (par (n ∷ ns) (var v)) e = absurd (false≢true e)
carried-pars (par (n ∷ ns) (par ms b)) e = absurd (false≢true e)
carried-pars (par (n ∷ ns) (node k a w ss)) e =
    omega (arith, proper-pars (node k a w ss) (and_right (eqb k 0) (proper (node k a w ss)) e))
carried-pars (node k a w ss) e = omega (arith, proper-pars (node k a w ss) e)

-- What stands first in a padded list.
padded-first : (n : ℕ) (l : List ℕ) (i : ℕ) → i < length l → get_or (padded n l) i 0 ≡ get_or l i 0
unfolding padded
padded-first n l i h = get_or-append l (replicate (n - length l) 0) 0 i h

padded-long : (n : ℕ) (l : List ℕ) → length l ≤ n → length (padded n l) ≡ n
unfolding padded
padded-long n l h = omega (arith, length-append l (replicate (n - length l) 0), length-replicate {A = ℕ} (n - length l) 0)

-- The kind of the question k, in the list of kinds and by its number.
kind_at : (qs : List QuestionFields) (k : ℕ) → k < length qs → get_or (kinds_of qs) k 0 ≡ (question_at qs k).kind
unfolding kinds_of question_at
kind_at [] k h = absurd (omega arith)
kind_at (q ∷ qs) k h =
    by_test (eqb k (length qs))
    (λ e.
    let o = eqb-true k (length qs) e in
    rw e
    (subst (λ (i : ℕ). get_or (kinds_of qs ++ (q.kind ∷ [])) i 0 ≡ q.kind) (sym o) (get_or_at (kinds_of qs) q.kind [] 0 (length qs) (kinds-count qs))))
    (λ e.
    let o : k < length qs = let ne = eqb-false k (length qs) e in below_other k (length qs) h ne in
    rw e (get_or-append (kinds_of qs) (q.kind ∷ []) 0 k (omega (arith, kinds-count qs)) ∙ kind_at qs k o))

-- An accepted sheet has a judgement that accepts it.
pub record Taken (s : List ℕ) (l : Lengths) : Type 0 where
  pub sheet : Sheet
  pub store : List Sort
  pub rows : List ℕ
  pub answers : List ℕ
  pub is : judged s l ≡ accepted sheet store rows answers

taken : (s : List ℕ) (l : Lengths) → Accepted ≡ outcome_of (judged s l) → Taken s l
taken s l e = go (judged s l) refl e
  where
    go : (j : Judgement) → judged s l ≡ j → Accepted ≡ outcome_of j → Taken s l
    go (sheet_refused x) q o = let z : ◌≡◌ {A = ℕ} 0 1 = cc in absurd (omega arith)
    go (accepted h st rows answers) q o = record { sheet = h; store = st; rows = rows; answers = answers; is = q }

-- What an accepted sheet left, with the kinds of its questions: its judgement, whose rows, kinds and answers stand first in the buffers.
pub record Found (s b p w k g : List ℕ) (r : Totals) : Type 0 where
  pub taken : Taken s program_lengths
  pub reads : Reads b p taken.store
  pub terms : r.terms ≡ length taken.sheet.terms
  pub questions : r.questions ≡ length taken.sheet.questions
  pub rows : length taken.rows ≡ 2 * r.terms
  pub answers : length taken.answers ≡ r.questions
  pub lent : 2 * r.terms ≤ 8192
  pub asked : r.questions ≤ 1024
  pub lent_rows : length w ≡ 8192
  pub lent_answers : length g ≡ 1024
  pub whole : take (2 * r.terms) w ≡ taken.rows
  pub row : (i : ℕ) → i < 2 * r.terms → get_or taken.rows i 0 ≡ get_or w i 0
  pub answer : (i : ℕ) → i < r.questions → get_or taken.answers i 0 ≡ get_or g i 0
  pub kind : (i : ℕ) → i < r.questions → get_or (kinds_of taken.sheet.questions) i 0 ≡ get_or k i 0

pub found : (s b p w g : List ℕ) → JudgeIs s program_lengths b p w g Accepted → (k k' : List ℕ) (r : Totals) → KindsAre s k k' r → Found s b p w k' g r
unfolding judged rows_after answers_after padded
found s b p w g a k k' r kinds =
    let l = program_lengths in
    let j = taken s l a.outcome in
    let h = j.sheet in
    let e = j.is in
    let read = judged-read smt_lib s l h j.store j.rows j.answers e in
    let listed = kinds.accepted h read.0 read.1 in
    let counts = judged-counts smt_lib s l h j.store j.rows j.answers e in
    let fits = judged-fits smt_lib s l h j.store j.rows j.answers e in
    let ew : w ≡ padded 8192 j.rows = a.buffers.rows ∙ ap (rows_after l) e in
    let eg : g ≡ padded 1024 j.answers = a.buffers.answers ∙ ap (answers_after l) e in
    record {
      taken = j;
      reads = subst (λ (x : Judgement). ReadsBack x b p) e a.buffers.reads;
      terms = listed.terms;
      questions = listed.questions;
      rows = omega (arith, counts.0, listed.terms);
      answers = omega (arith, counts.1, listed.questions);
      lent = omega (arith, counts.0, fits.0, listed.terms);
      asked = omega (arith, counts.1, fits.1, listed.questions);
      lent_rows = ap length ew ∙ padded-long 8192 j.rows fits.0;
      lent_answers = ap length eg ∙ padded-long 1024 j.answers fits.1;
      whole =
          ap (take (2 * r.terms)) ew ∙ take_at j.rows (replicate (8192 - length j.rows) 0) (2 * r.terms) (omega (arith, counts.0, listed.terms));
      row = λ i o. sym (ap (λ (x : List ℕ). get_or x i 0) ew ∙ padded-first 8192 j.rows i (omega (arith, listed.terms, counts.0)));
      answer = λ i o. sym (ap (λ (x : List ℕ). get_or x i 0) eg ∙ padded-first 1024 j.answers i (omega (arith, listed.questions, counts.1)));
      kind = λ i o. sym (sym (get_or-take r.questions k' i 0 o) ∙ ap (λ (x : List ℕ). get_or x i 0) listed.kinds);
    }

-- A line over buffers in which the rows, kinds and answers stand first is the line over these.
left-line : (st ts : List Sort) (w d g rows kinds answers : List ℕ) (t q : ℕ) → st ≡ ts
    → ((i : ℕ) → i < 2 * t → get_or rows i 0 ≡ get_or w i 0) → ((i : ℕ) → i < q → get_or kinds i 0 ≡ get_or d i 0) → ((i : ℕ) → i < q → get_or answers i 0 ≡ get_or g i 0)
    → (k : ℕ) → k < t + q → line_at st w d g t k ≡ line_at ts rows kinds answers t k
left-line st ts w d g rows kinds answers t q e hr hk ha k h =
    by_test (ltb k t)
    (λ x.
    let o = ltb-true k t x in
    line-term st w d g t k o
    ∙ ap (λ (z : List Sort). term_line z k (get_or w (2 * k) 0) (get_or w (2 * k + 1) 0)) e
    ∙ ap₂ (λ (i c : ℕ). term_line ts k i c) (sym (hr (2 * k) (omega arith))) (sym (hr (2 * k + 1) (omega arith)))
    ∙ sym (line-term ts rows kinds answers t k o))
    (λ x.
    let o = ltb-false k t x in
    line-question st w d g t k o
    ∙ ap (λ (z : List Sort). question_line z (k - t) (get_or d (k - t) 0) (get_or g (k - t) 0)) e
    ∙ ap₂ (λ (i c : ℕ). question_line ts (k - t) i c) (sym (hk (k - t) (omega arith))) (sym (ha (k - t) (omega arith)))
    ∙ sym (line-question ts rows kinds answers t k o))

-- WHAT `judge` LEFT OF AN ACCEPTED SHEET, with the kinds of its questions, AS THE PRINTOUT READS IT: the store of `many` sorts and the
-- rows and answers over it can be printed, and each line over the buffers is the line of the judgement.
pub record JudgeLeft (s b p w k g : List ℕ) (r : Totals) : Type 0 where
  pub many : ℕ
  pub good : Judged b p w k g r.terms r.questions many
  pub one : OnePar b p w r.terms many
  pub count : r.terms + r.questions ≡ line_count (judged s program_lengths)
  pub line : (i : ℕ) → i < r.terms + r.questions → line_at (store_of b p many) w k g r.terms i ≡ line_of (judged s program_lengths) i

pub judge-left : (s b p w g : List ℕ) → JudgeIs s program_lengths b p w g Accepted → (k k' : List ℕ) (r : Totals) → 1024 ≤ length k → KindsAre s k k' r
    → JudgeLeft s b p w k' g r
unfolding judged sort_at
judge-left s b p w g a k k' r room kinds =
    let l = program_lengths in
    let f = found s b p w g a k k' r kinds in
    let j = f.taken in
    let h = j.sheet in
    let kind : (i : ℕ) → i < r.questions → get_or k' i 0 ≡ (question_at h.questions i).kind =
    λ i o. sym (f.kind i o) ∙ kind_at h.questions i (omega (arith, f.questions)) in
    record {
      many = length j.store;
      good =
          record {
            stored = f.reads.stored;
            small = f.reads.small;
            terms = omega (arith, f.lent_rows, f.lent);
            questions = omega (arith, f.lent_answers, f.asked);
            asked = omega (arith, kinds.long, f.asked);
            few = omega (arith, f.lent);
            fewer = f.asked;
            row = λ i o z.
                omega (
                  arith,
                  f.row i o,
                  judged-rows-known smt_lib s l h j.store j.rows j.answers j.is i (omega (arith, f.terms)) (omega (arith, f.row i o)),
                );
            answer = λ i o z y.
                omega (
                  arith,
                  f.answer i o,
                  judged-answers-known smt_lib s l h j.store j.rows j.answers j.is i (omega (arith, f.questions))
                      (ne_eqb (question_at h.questions i).kind 0 (λ q. z (kind i o ∙ q))) (omega (arith, f.answer i o)),
                );
          };
      one = λ i o z.
          let e = f.row (2 * i + 1) (omega arith) in
          let c = judged-carried smt_lib smt_lib-sound s l h j.store j.rows j.answers j.is i (omega (arith, f.terms)) (omega (arith, e)) in
          carried-pars (sort_at b p (length j.store) (get_or w (2 * i + 1) 0))
          (ap₂ (λ (x : List Sort) (y : ℕ). carried (get_or x y leaf)) f.reads.back (sym e) ∙ c);
      count = omega (arith, f.terms, f.questions, ap line_count j.is);
      line = λ i o.
          left-line (store_of b p (length j.store)) j.store w k' g j.rows (kinds_of h.questions) j.answers r.terms r.questions f.reads.back f.row f.kind f.answer i o
          ∙ ap (λ (t : ℕ). line_at j.store j.rows (kinds_of h.questions) j.answers t i) f.terms
          ∙ sym (ap (λ (x : Judgement). line_of x i) j.is);
    }
