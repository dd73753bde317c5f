-- Every line of the printout has one newline, its last byte: so the newlines of a piece count its lines.
use Rattle.std.specs.Prelude.{ℕ, ◌+◌, ◌*◌, ◌-◌, ◌≡◌, refl, cond, List, ◌++◌, length, get_or, take, drop, eqb, ltb}
use Rattle.std.proofs.Common.{ap, ◌∙◌, arith, take_at}
use Rattle.record.specs.Sort.{Sort}
use Rattle.record.specs.Decode.{written}
use Rattle.reader.specs.Reader.{refusal_number}
use Rattle.judge_rules.specs.Judged.{Judgement, sheet_refused, accepted}
use Rattle.printout_sort.specs.Text.{ascii, decimal}
use Rattle.printout_sort.specs.Wrote.{Wrote}
use Rattle.printout.specs.declared.whole.Piece.{Piece}
use Rattle.printout.specs.Lines.{row_text, answer_text, term_line, question_line}
use Rattle.printout.specs.Newlines.{newlines}
use Rattle.printout.specs.PlainLaws.{newlines-cond, Plain, before, plain-decimal, plain_row, refusal-newline, lines-newlines}
use Rattle.printout.specs.Printed.{kinds_of}
use Rattle.printout.specs.Whole.{line_at, lines_from}
use Rattle.printout_text.specs.Text.{line_of, LinesBy}

plain-answer : (st : List Sort) (k code : ℕ) → Plain (answer_text st k code)
unfolding newlines answer_text
plain-answer st k code =
    newlines-cond (eqb k 0) 0 (cond (eqb code 0) (ascii "no") (ascii "yes")) (row_text st code)
    (newlines-cond (eqb code 0) 0 (ascii "no") (ascii "yes") refl refl) (plain_row st code)

term-newline : (st : List Sort) (t i c : ℕ) → newlines (term_line st t i c) ≡ 1
unfolding newlines term_line
term-newline st t i c =
    let x = row_text st i in
    let y = row_text st c in
    before 1 (ascii "T") (decimal t ++ (ascii " " ++ (x ++ (ascii " " ++ (y ++ ascii "\n"))))) refl
    (before 1 (decimal t) (ascii " " ++ (x ++ (ascii " " ++ (y ++ ascii "\n")))) (plain-decimal t)
    (before 1 (ascii " ") (x ++ (ascii " " ++ (y ++ ascii "\n"))) refl
    (before 1 x (ascii " " ++ (y ++ ascii "\n")) (plain_row st i)
    (before 1 (ascii " ") (y ++ ascii "\n") refl (before 1 y (ascii "\n") (plain_row st c) refl)))))

question-newline : (st : List Sort) (q k code : ℕ) → newlines (question_line st q k code) ≡ 1
unfolding newlines question_line
question-newline st q k code =
    let x = answer_text st k code in
    before 1 (ascii "Q") (decimal q ++ (ascii " " ++ (x ++ ascii "\n"))) refl
    (before 1 (decimal q) (ascii " " ++ (x ++ ascii "\n")) (plain-decimal q)
    (before 1 (ascii " ") (x ++ ascii "\n") refl (before 1 x (ascii "\n") (plain-answer st k code) refl)))

-- A LINE HAS ONE NEWLINE,
pub line-newline : (j : Judgement) (k : ℕ) → newlines (line_of j k) ≡ 1
unfolding newlines line_at
line-newline (sheet_refused e) k = refusal-newline (refusal_number e)
line-newline (accepted h st rows answers) k =
    let t = length h.terms in
    newlines-cond (ltb k t) 1 _ _ (term-newline st k (get_or rows (2 * k) 0) (get_or rows (2 * k + 1) 0))
    (question-newline st (k - t) (get_or (kinds_of h.questions) (k - t) 0) (get_or answers (k - t) 0))

-- What was written at the start of a buffer stands first in it.
pub wrote-first : (o t o' : List ℕ) (e : ℕ) → Wrote o 0 t o' e → take e o' ≡ t
unfolding written
wrote-first o t o' e w = ap (take e) w.is ∙ take_at t (drop (0 + length t) o) e (omega (arith, w.next))

-- THE NEWLINES OF A PIECE COUNT ITS LINES, of any printout whose lines have one newline each.
pub lines-counted : {count : ℕ} {line : ℕ → List ℕ} {room from : ℕ} {o o' : List ℕ} {r : Piece} → LinesBy count line room from o o' r
    → ((k : ℕ) → newlines (line k) ≡ 1) → r.next ≡ from + newlines (take r.end o')
lines-counted {line = line} {from = from} {o} {o'} {r} a one =
    let t = lines_from line from (r.next - from) in
    omega (
      arith,
      a.lines,
      ap newlines (wrote-first o t o' r.end a.text),
      lines-newlines line one from (r.next - from),
    )
