-- Rows, answers and lines: what each is by its code, over any store that has the sort, and how long it is.
use Rattle.std.specs.Prelude.{ℕ, suc, ◌+◌, ◌-◌, ◌/◌, ◌≤◌, ◌<◌, ◌≡◌, refl, Bool, true, false, cond, List, [], ◌∷◌, ◌++◌, length, eqb, ltb}
use Rattle.std.proofs.Common.{sym, ap, ap₂, ◌∙◌, append_assoc, arith, length-append, lt-ltb, le-ltb, eq-eqb, ne_eqb, ltb-true, ltb-false, eqb-true}
use Rattle.std.proofs.lemmas.Bool.{eqb-false}
use Rattle.record.specs.Sort.{Sort}
use Rattle.record.specs.Decode.{store_of, sort_at}
use Rattle.printout_sort.specs.Text.{ascii, decimal, text}
use Rattle.printout_sort.specs.Wrote.{Wrote, wrote_as, total, TextRoom}
use Rattle.printout_sort.specs.Trees.{tree_at}
use Rattle.printout_sort.specs.TreeLaws.{tree-at}
use Rattle.printout.specs.Lines.{refusal_text, refusal_line, row_text, answer_text, term_line, question_line}
use Rattle.printout.specs.LineAsks.{To, Full, row_text_at, answer_text_at, no_or_yes, RowKnown, TermHas, QuestionHas, label_text, term_line_at, question_line_at}

pub refusal-length : (n : ℕ) → length (refusal_text n) ≡ 1 + length (decimal n)
unfolding refusal_text
refusal-length n = omega arith

pub row-sort : (b p : List ℕ) (code : ℕ) → code < 65536 → row_text_at b p code ≡ text (tree_at b p code)
unfolding row_text tree_at sort_at
row-sort b p code h = rw (lt-ltb code 65536 h)

pub row-text-refused : (b p : List ℕ) (code : ℕ) → 65536 ≤ code → row_text_at b p code ≡ refusal_text (code / 65536)
unfolding row_text
row-text-refused b p code h = rw (le-ltb code 65536 h)

pub sort-by : (b p : List ℕ) (n code : ℕ) → code < 65536 → row_text (store_of b p n) code ≡ text (sort_at b p n code)
unfolding row_text sort_at
sort-by b p n code h = rw (lt-ltb code 65536 h)

pub refused-by : (st : List Sort) (code : ℕ) → 65536 ≤ code → row_text st code ≡ refusal_text (code / 65536)
unfolding row_text
refused-by st code h = rw (le-ltb code 65536 h)

-- A ROW over any store that has its sort.
pub row_at : (b p : List ℕ) (n code : ℕ) → RowKnown n code → row_text_at b p code ≡ row_text (store_of b p n) code
row_at b p n code k = go (ltb code 65536) refl
  where
    go : (t : Bool) → ltb code 65536 ≡ t → row_text_at b p code ≡ row_text (store_of b p n) code
    go true e =
        let h = ltb-true code 65536 e in
        row-sort b p code h ∙ ap text (tree-at b p code n (k h)) ∙ sym (sort-by b p n code h)
    go false e =
        let h = ltb-false code 65536 e in
        row-text-refused b p code h ∙ sym (refused-by (store_of b p n) code h)

pub answer-no : (b p : List ℕ) (kind code : ℕ) → kind ≡ 0 → code ≡ 0 → answer_text_at b p kind code ≡ ascii "no"
unfolding answer_text
answer-no b p kind code e q = rw (eq-eqb kind 0 e, eq-eqb code 0 q)

pub answer-yes : (b p : List ℕ) (kind code : ℕ) → kind ≡ 0 → (code ≡ 0 → ⊥) → answer_text_at b p kind code ≡ ascii "yes"
unfolding answer_text
answer-yes b p kind code e q = rw (eq-eqb kind 0 e, ne_eqb code 0 q)

-- Either of them, as it is written; it has at most three bytes.
pub answer-plain : (b p : List ℕ) (kind code : ℕ) → kind ≡ 0 → answer_text_at b p kind code ≡ no_or_yes code
unfolding answer_text
answer-plain b p kind code e = rw (eq-eqb kind 0 e)

pub plain-short : (code : ℕ) → length (no_or_yes code) ≤ 3
plain-short code = go (eqb code 0)
  where
    go : (t : Bool) → length (cond t (ascii "no") (ascii "yes")) ≤ 3
    go true = omega arith
    go false = omega arith

row_by : (st : List Sort) (kind code : ℕ) → (kind ≡ 0 → ⊥) → answer_text st kind code ≡ row_text st code
unfolding answer_text
row_by st kind code h = rw (ne_eqb kind 0 h)

pub answer-row : (b p : List ℕ) (kind code : ℕ) → (kind ≡ 0 → ⊥) → answer_text_at b p kind code ≡ row_text_at b p code
answer-row b p kind code h = row_by (store_of b p (suc code)) kind code h

plain_by : (st ts : List Sort) (kind code : ℕ) → kind ≡ 0 → answer_text st kind code ≡ answer_text ts kind code
unfolding answer_text
plain_by st ts kind code e = rw (eq-eqb kind 0 e)

-- AN ANSWER over any store that has its sort.
pub answer_at : (b p : List ℕ) (n kind code : ℕ) → ((kind ≡ 0 → ⊥) → RowKnown n code) → answer_text_at b p kind code ≡ answer_text (store_of b p n) kind code
answer_at b p n kind code k = go (eqb kind 0) refl
  where
    go : (t : Bool) → eqb kind 0 ≡ t → answer_text_at b p kind code ≡ answer_text (store_of b p n) kind code
    go true e = plain_by (store_of b p (suc code)) (store_of b p n) kind code (eqb-true kind 0 e)
    go false e =
        let h = eqb-false kind 0 e in
        answer-row b p kind code h ∙ row_at b p n code (k h) ∙ sym (row_by (store_of b p n) kind code h)

pub label-length : (mark v : ℕ) → length (label_text mark v) ≡ 2 + length (decimal v)
unfolding label_text
label-length mark v = omega (arith, length-append (mark ∷ decimal v) (ascii " "))

-- THE LINE OF A TERM.
pub term-at : (b p : List ℕ) (n t i c : ℕ) → RowKnown n i → RowKnown n c → term_line_at b p t i c ≡ term_line (store_of b p n) t i c
unfolding term_line_at label_text term_line
term-at b p n t i c ki kc =
    let rest = row_text_at b p i ++ (ascii " " ++ (row_text_at b p c ++ ascii "\n")) in
    append_assoc (84 ∷ decimal t) (ascii " ") rest
    ∙ ap₂ (λ (x y : List ℕ). ascii "T" ++ (decimal t ++ (ascii " " ++ (x ++ (ascii " " ++ (y ++ ascii "\n"))))))
    (row_at b p n i ki) (row_at b p n c kc)

pub term-length : (b p : List ℕ) (t i c : ℕ) → length (term_line_at b p t i c) ≡ 4 + length (decimal t) + length (row_text_at b p i) + length (row_text_at b p c)
unfolding term_line_at
term-length b p t i c =
    let last = row_text_at b p c ++ ascii "\n" in
    omega (
      arith,
      label-length 84 t,
      length-append (label_text 84 t) (row_text_at b p i ++ (ascii " " ++ last)),
      length-append (row_text_at b p i) (ascii " " ++ last),
      length-append (row_text_at b p c) (ascii "\n"),
    )

-- It does not fit, or there is room for its pieces.
module _ (b p : List ℕ) (t i c : ℕ) {o : List ℕ} {to : ℕ} (f : to ≤ length o) {d x y r : ℕ} (ed : d ≡ length (decimal t)) (ex : x ≡ length (row_text_at b p i))
    (ey : y ≡ length (row_text_at b p c)) (er : r ≡ length o - to) where
  pub term-full : r < 4 + d + x + y → TermHas b p t i c o to o Full
  term-full h n ki kc = (refl, omega (arith, term-length b p t i c, ap length (term-at b p n t i c ki kc)))

  pub term-room : 4 + d + x + y ≤ r → TextRoom o to (label_text 84 t ∷ row_text_at b p i ∷ ascii " " ∷ row_text_at b p c ∷ ascii "\n" ∷ [])
  unfolding total
  term-room h = record { fits = omega (arith, label-length 84 t) }

pub term-wrote : (b p : List ℕ) (t i c : ℕ) {o : List ℕ} {to : ℕ} {o' : List ℕ} {e : ℕ}
    → Wrote o to (label_text 84 t ++ (row_text_at b p i ++ (ascii " " ++ (row_text_at b p c ++ ascii "\n")))) o' e → TermHas b p t i c o to o' (To e)
unfolding term_line_at
term-wrote b p t i c w n ki kc = wrote_as (term-at b p n t i c ki kc) w

-- THE LINE OF A QUESTION.
pub question-at : (b p : List ℕ) (n q kind code : ℕ) → ((kind ≡ 0 → ⊥) → RowKnown n code) → question_line_at b p q kind code ≡ question_line (store_of b p n) q kind code
unfolding question_line_at label_text question_line
question-at b p n q kind code k =
    append_assoc (81 ∷ decimal q) (ascii " ") (answer_text_at b p kind code ++ ascii "\n")
    ∙ ap (λ (x : List ℕ). ascii "Q" ++ (decimal q ++ (ascii " " ++ (x ++ ascii "\n")))) (answer_at b p n kind code k)

pub question-length : (b p : List ℕ) (q kind code : ℕ) → length (question_line_at b p q kind code) ≡ 3 + length (decimal q) + length (answer_text_at b p kind code)
unfolding question_line_at
question-length b p q kind code =
    omega (
      arith,
      label-length 81 q,
      length-append (label_text 81 q) (answer_text_at b p kind code ++ ascii "\n"),
      length-append (answer_text_at b p kind code) (ascii "\n"),
    )

module _ (b p : List ℕ) (q kind code : ℕ) {o : List ℕ} {to : ℕ} (f : to ≤ length o) {d x r : ℕ} (ed : d ≡ length (decimal q))
    (ex : x ≡ length (answer_text_at b p kind code)) (er : r ≡ length o - to) where
  pub question-full : r < 3 + d + x → QuestionHas b p q kind code o to o Full
  question-full h n k = (refl, omega (arith, question-length b p q kind code, ap length (question-at b p n q kind code k)))

  pub question-room : 3 + d + x ≤ r → TextRoom o to (label_text 81 q ∷ answer_text_at b p kind code ∷ ascii "\n" ∷ [])
  unfolding total
  question-room h = record { fits = omega (arith, label-length 81 q) }

pub question-wrote : (b p : List ℕ) (q kind code : ℕ) {o : List ℕ} {to : ℕ} {o' : List ℕ} {e : ℕ}
    → Wrote o to (label_text 81 q ++ (answer_text_at b p kind code ++ ascii "\n")) o' e → QuestionHas b p q kind code o to o' (To e)
unfolding question_line_at
question-wrote b p q kind code w n k = wrote_as (question-at b p n q kind code k) w

-- THE LINE OF A REFUSED SHEET.
pub refusal-line : (n : ℕ) → refusal_text n ++ ascii "\n" ≡ refusal_line n
unfolding refusal_line
refusal-line n = refl

pub refusal-line-length : (n : ℕ) → length (refusal_line n) ≡ 2 + length (decimal n)
unfolding refusal_line
refusal-line-length n = omega (arith, length-append (refusal_text n) (ascii "\n"), refusal-length n)
