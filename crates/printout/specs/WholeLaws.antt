-- The printout line by line: each line is a term's or a question's, and a piece goes on by one line at a time.
use Rattle.std.specs.Prelude.{ℕ, zero, suc, ◌+◌, ◌*◌, ◌-◌, ◌≤◌, ◌<◌, ◌≡◌, refl, List, [], ◌∷◌, ◌++◌, length, get_or}
use Rattle.std.proofs.Common.{sym, ap, ap₂, ◌∙◌, append_assoc, append-nil, lt-ltb, le-ltb}
use Rattle.std.proofs.Math.Path.{subst}
use native.Mathlib.Omega.{arith}
use Rattle.record.specs.Decode.{store_of}
use Rattle.record.specs.Sort.{Sort}
use Rattle.printout_sort.specs.Wrote.{Wrote, wrote_none, wrote_as, wrote-more, wrote-long}
use Rattle.printout_sort.specs.TreeLaws.{text-asks}
use Rattle.printout.specs.Lines.{term_line, question_line, term_lines, question_lines, lines_of}
use Rattle.printout.specs.LineAsks.{Shown, To, Full, ShownIs, RowAsks, RowKnown, TermLineAsks, QuestionLineAsks, TermHas, QuestionHas}
use Rattle.printout.specs.Whole.{line_at, lines_from, Judged, LineAsks, LineHas, PieceAsks, PieceHas}

---------------------------------------------------------------- one line
pub line-term : (st : List Sort) (rows kinds answers : List ℕ) (t k : ℕ) → k < t → line_at st rows kinds answers t k ≡ term_line st k (get_or rows (2 * k) 0) (get_or rows (2 * k + 1) 0)
unfolding line_at
line-term st rows kinds answers t k h = rw (lt-ltb k t h) refl

pub line-question : (st : List Sort) (rows kinds answers : List ℕ) (t k : ℕ) → t ≤ k
    → line_at st rows kinds answers t k ≡ question_line st (k - t) (get_or kinds (k - t) 0) (get_or answers (k - t) 0)
unfolding line_at
line-question st rows kinds answers t k h = rw (le-ltb k t h) refl

module _ (b p rows kinds answers : List ℕ) (t q : ℕ) where
  -- A row of the store can be printed.
  row-asks : (n : ℕ) → Judged b p rows kinds answers t q n → (code : ℕ) → RowKnown n code → RowAsks b p code
  row-asks n j code known h = text-asks b p n code j.stored (known h) (j.small code (known h))

  pub term-line-asks : (k : ℕ) → LineAsks b p rows kinds answers t q k → k < t → TermLineAsks b p k (get_or rows (2 * k) 0) (get_or rows (2 * k + 1) 0)
  term-line-asks k h l =
      let j = h.judged in
      record {
        number = omega (arith, j.few);
        inferred = row-asks h.many j (get_or rows (2 * k) 0) (j.row (2 * k) (omega arith));
        checked = row-asks h.many j (get_or rows (2 * k + 1) 0) (j.row (2 * k + 1) (omega arith));
      }

  pub question-line-asks : (k : ℕ) → LineAsks b p rows kinds answers t q k → t ≤ k → QuestionLineAsks b p (k - t) (get_or kinds (k - t) 0) (get_or answers (k - t) 0)
  question-line-asks k h l =
      let j = h.judged in
      record {
        number = omega (arith, h.number, j.fewer);
        answer = λ z. row-asks h.many j (get_or answers (k - t) 0) (j.answer (k - t) (omega (arith, h.number)) z);
      }

  pub term-line-has : (k : ℕ) (o : List ℕ) (to : ℕ) (o' : List ℕ) (r : Shown) → k < t → TermHas b p k (get_or rows (2 * k) 0) (get_or rows (2 * k + 1) 0) o to o' r
      → LineHas b p rows kinds answers t q k o to o' r
  term-line-has k o to o' r l h n j =
      subst (λ (x : List ℕ). ShownIs o to x o' r) (sym (line-term (store_of b p n) rows kinds answers t k l))
      (h n (j.row (2 * k) (omega arith)) (j.row (2 * k + 1) (omega arith)))

  pub question-line-has : (k : ℕ) (o : List ℕ) (to : ℕ) (o' : List ℕ) (r : Shown) → t ≤ k → k < t + q
      → QuestionHas b p (k - t) (get_or kinds (k - t) 0) (get_or answers (k - t) 0) o to o' r → LineHas b p rows kinds answers t q k o to o' r
  question-line-has k o to o' r l u h n j =
      subst (λ (x : List ℕ). ShownIs o to x o' r) (sym (line-question (store_of b p n) rows kinds answers t k l))
      (h n (λ z. j.answer (k - t) (omega arith) z))

---------------------------------------------------------------- a piece
-- One line more at the end.
pub lines_more : (f : ℕ → List ℕ) (k m : ℕ) → lines_from f k (suc m) ≡ lines_from f k m ++ f (k + m)
unfolding lines_from
lines_more f k zero = let e : k ≡ k + 0 = omega arith in append-nil (f k) ∙ ap f e
lines_more f k (suc m) =
    let e : suc k + m ≡ k + suc m = omega arith in
    ap (λ (l : List ℕ). f k ++ l) (lines_more f (suc k) m)
    ∙ sym (append_assoc (f k) (lines_from f (suc k) m) (f (suc k + m)))
    ∙ ap (λ (j : ℕ). (f k ++ lines_from f (suc k) m) ++ f j) e

-- The lines from `from` up to k are written, up to `to`.
pub record Showing (b p rows kinds answers : List ℕ) (t q from : ℕ) (o o' : List ℕ) (k to : ℕ) : Type 0 where
  pub lines : from ≤ k
  pub last : k ≤ t + q
  pub long : length o' ≡ length o
  pub within : to ≤ length o'
  pub text : (n : ℕ) → Judged b p rows kinds answers t q n → Wrote o 0 (lines_from (λ j. line_at (store_of b p n) rows kinds answers t j) from (k - from)) o' to

module _ (b p rows kinds answers : List ℕ) (t q from : ℕ) (a : PieceAsks b p rows kinds answers t q from) (o : List ℕ) where
  pub showing-start : Showing b p rows kinds answers t q from o o from 0
  unfolding lines_from
  showing-start =
      let e : 0 ≡ from - from = omega arith in
      record {
        lines = omega arith;
        last = a.number;
        long = refl;
        within = omega arith;
        text = λ n j.
            subst (λ (m : ℕ). Wrote o 0 (lines_from (λ i. line_at (store_of b p n) rows kinds answers t i) from m) o 0) e (wrote_none o 0 (omega arith));
      }

  module _ (o' : List ℕ) (k to : ℕ) (s : Showing b p rows kinds answers t q from o o' k to) where
    pub showing-asks : k < t + q → LineAsks b p rows kinds answers t q k
    showing-asks h = record { many = a.many; judged = a.judged; number = h }

    pub showing-step : (o'' : List ℕ) (e : ℕ) → k < t + q → LineHas b p rows kinds answers t q k o' to o'' (To e) → Showing b p rows kinds answers t q from o o'' (k + 1) e
    showing-step o'' e h w =
        let x : suc (k - from) ≡ k + 1 - from = omega (arith, s.lines) in
        let y : from + (k - from) ≡ k = omega (arith, s.lines) in
        let u = w a.many a.judged in
        record {
          lines = omega (arith, s.lines);
          last = omega arith;
          long = wrote-long u ∙ s.long;
          within = omega (arith, u.next, u.fits, wrote-long u);
          text = λ n j.
              let f : ℕ → List ℕ = λ i. line_at (store_of b p n) rows kinds answers t i in
              wrote_as (ap (λ (i : ℕ). lines_from f from (k - from) ++ f i) (sym y) ∙ sym (lines_more f from (k - from)) ∙ ap (lines_from f from) x)
              (wrote-more (s.text n j) (w n j));
        }

    pub showing-end : k ≡ t + q → PieceHas b p rows kinds answers t q from o o' (record { next = k; end = to })
    showing-end e n j = record { lines = s.lines; last = s.last; text = s.text n j; full = λ h. absurd (omega arith) }

    pub showing-full : (o'' : List ℕ) → LineHas b p rows kinds answers t q k o' to o'' Full → PieceHas b p rows kinds answers t q from o o'' (record { next = k; end = to })
    showing-full o'' w n j =
        record {
          lines = s.lines;
          last = s.last;
          text = subst (λ (x : List ℕ). Wrote o 0 (lines_from (λ i. line_at (store_of b p n) rows kinds answers t i) from (k - from)) x to) (sym (w n j).0) (s.text n j);
          full = λ h. omega (arith, (w n j).1, s.long);
        }

---------------------------------------------------------------- the whole
-- The first of some lines, and those behind them.
pub lines_split : (f : ℕ → List ℕ) (k m i : ℕ) → lines_from f k (m + i) ≡ lines_from f k m ++ lines_from f (k + m) i
unfolding lines_from
lines_split f k zero i =
    let e : k ≡ k + 0 = omega arith in
    let d : 0 + i ≡ i = omega arith in
    ap (lines_from f k) d ∙ ap (λ (j : ℕ). lines_from f j i) e
lines_split f k (suc m) i =
    let e : suc k + m ≡ k + suc m = omega arith in
    let d : suc m + i ≡ suc (m + i) = omega arith in
    ap (lines_from f k) d
    ∙ ap (λ (l : List ℕ). f k ++ l) (lines_split f (suc k) m i ∙ ap (λ (j : ℕ). lines_from f (suc k) m ++ lines_from f j i) e)
    ∙ sym (append_assoc (f k) (lines_from f (suc k) m) (lines_from f (k + suc m) i))

-- Lines that are the same one by one.
pub lines_same : (f g : ℕ → List ℕ) (k m : ℕ) → ((j : ℕ) → k ≤ j → j < k + m → f j ≡ g j) → lines_from f k m ≡ lines_from g k m
unfolding lines_from
lines_same f g k zero h = refl
lines_same f g k (suc m) h = ap₂ ◌++◌ (h k (omega arith) (omega arith)) (lines_same f g (suc k) m (λ j x y. h j (omega arith) (omega arith)))

-- The lines of terms and of questions, by number.
terms-by : (st : List Sort) (all : List ℕ) (k m : ℕ) (rows : List ℕ) → length rows ≡ 2 * m → ((i : ℕ) → i < 2 * m → get_or rows i 0 ≡ get_or all (2 * k + i) 0)
    → term_lines st k rows ≡ lines_from (λ j. term_line st j (get_or all (2 * j) 0) (get_or all (2 * j + 1) 0)) k m
unfolding term_lines lines_from
terms-by st all k zero [] e h = refl
terms-by st all k zero (x ∷ rows) e h = absurd (omega arith)
terms-by st all k (suc m) [] e h = absurd (omega arith)
terms-by st all k (suc m) (x ∷ []) e h = absurd (omega arith)
terms-by st all k (suc m) (x ∷ (y ∷ rows)) e h =
    let a : 2 * k + 0 ≡ 2 * k = omega arith in
    ap₂ ◌++◌
    (ap₂ (λ (i j : ℕ). term_line st k i j) (h 0 (omega arith) ∙ ap (λ (i : ℕ). get_or all i 0) a) (h 1 (omega arith)))
    (terms-by st all (suc k) m rows (omega arith)
    (λ i l. let b : 2 * k + suc (suc i) ≡ 2 * suc k + i = omega arith in h (suc (suc i)) (omega arith) ∙ ap (λ (j : ℕ). get_or all j 0) b))

questions-by : (st : List Sort) (ks as' : List ℕ) (q m : ℕ) (kinds answers : List ℕ) → length kinds ≡ m → length answers ≡ m
    → ((i : ℕ) → i < m → get_or kinds i 0 ≡ get_or ks (q + i) 0) → ((i : ℕ) → i < m → get_or answers i 0 ≡ get_or as' (q + i) 0)
    → question_lines st q kinds answers ≡ lines_from (λ j. question_line st j (get_or ks j 0) (get_or as' j 0)) q m
unfolding question_lines lines_from
questions-by st ks as' q zero [] [] e f h g = refl
questions-by st ks as' q zero [] (y ∷ answers) e f h g = refl
questions-by st ks as' q zero (x ∷ kinds) answers e f h g = absurd (omega arith)
questions-by st ks as' q (suc m) [] answers e f h g = absurd (omega arith)
questions-by st ks as' q (suc m) (x ∷ kinds) [] e f h g = absurd (omega arith)
questions-by st ks as' q (suc m) (x ∷ kinds) (y ∷ answers) e f h g =
    let a : q + 0 ≡ q = omega arith in
    ap₂ ◌++◌
    (ap₂ (λ (i j : ℕ). question_line st q i j) (h 0 (omega arith) ∙ ap (λ (i : ℕ). get_or ks i 0) a) (g 0 (omega arith) ∙ ap (λ (i : ℕ). get_or as' i 0) a))
    (questions-by st ks as' (suc q) m kinds answers (omega arith) (omega arith)
    (λ i l. let b : q + suc i ≡ suc q + i = omega arith in h (suc i) (omega arith) ∙ ap (λ (j : ℕ). get_or ks j 0) b)
    (λ i l. let b : q + suc i ≡ suc q + i = omega arith in g (suc i) (omega arith) ∙ ap (λ (j : ℕ). get_or as' j 0) b))

lines-shift : (f g : ℕ → List ℕ) (k m d : ℕ) → ((j : ℕ) → k ≤ j → j < k + m → f (d + j) ≡ g j) → lines_from f (d + k) m ≡ lines_from g k m
unfolding lines_from
lines-shift f g k zero d h = refl
lines-shift f g k (suc m) d h =
    let e : suc (d + k) ≡ d + suc k = omega arith in
    ap₂ ◌++◌ (h k (omega arith) (omega arith)) (ap (λ (j : ℕ). lines_from f j m) e ∙ lines-shift f g (suc k) m d (λ j x y. h j (omega arith) (omega arith)))

-- ALL LINES IN ORDER ARE THE PRINTOUT of the rows, kinds and answers that stand first in the buffers.
pub lines-whole : (st : List Sort) (rows kinds answers w d g : List ℕ) (t q : ℕ) → length rows ≡ 2 * t → length kinds ≡ q → length answers ≡ q
    → ((i : ℕ) → i < 2 * t → get_or rows i 0 ≡ get_or w i 0) → ((i : ℕ) → i < q → get_or kinds i 0 ≡ get_or d i 0) → ((i : ℕ) → i < q → get_or answers i 0 ≡ get_or g i 0)
    → lines_of st rows kinds answers ≡ lines_from (λ k. line_at st w d g t k) 0 (t + q)
unfolding lines_of
lines-whole st rows kinds answers w d g t q er ek ea hr hk ha =
    let f : ℕ → List ℕ = λ k. line_at st w d g t k in
    let u : t + 0 ≡ 0 + t = omega arith in
    ap₂ ◌++◌
    (terms-by st w 0 t rows er (λ i l. let b : i ≡ 2 * 0 + i = omega arith in hr i l ∙ ap (λ (j : ℕ). get_or w j 0) b)
    ∙ lines_same (λ j. term_line st j (get_or w (2 * j) 0) (get_or w (2 * j + 1) 0)) f 0 t (λ j x y. sym (line-term st w d g t j (omega arith))))
    (questions-by st d g 0 q kinds answers ek ea (λ i l. let b : i ≡ 0 + i = omega arith in hk i l ∙ ap (λ (j : ℕ). get_or d j 0) b)
    (λ i l. let b : i ≡ 0 + i = omega arith in ha i l ∙ ap (λ (j : ℕ). get_or g j 0) b)
    ∙ sym
    (lines-shift f (λ j. question_line st j (get_or d j 0) (get_or g j 0)) 0 q t
    (λ j x y.
    let v : t + j - t ≡ j = omega arith in
    line-question st w d g t (t + j) (omega arith)
    ∙ ap (λ (i : ℕ). question_line st i (get_or d i 0) (get_or g i 0)) v))
    ∙ ap (λ (i : ℕ). lines_from f i q) u)
    ∙ sym (lines_split f 0 t q)
