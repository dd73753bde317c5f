-- What the functions of this crate answer, case by case; and what follows from their promise: a buffer that holds the longest line
-- gets no line only where none is left, and a buffer that holds the whole printout gets all of it.
use Prim.Native.Nat.{ℕ, suc, ◌+◌, ◌-◌, ◌≤◌, ◌<◌}
use Rattle.std.specs.Prelude.{◌≡◌, List, ltb}
use Rattle.std.proofs.Common.{sym, subst, ◌∙◌, append-nil}
use Rattle.std.proofs.Math.Path.{ap}
use native.Mathlib.Omega.{arith}
use Rattle.std.proofs.Math.ListN.{length, length-append}
use borrow.Author.Tests.{ltb-true, ltb-false}
use Rattle.record.specs.Decode.{store_of}
use Rattle.record.specs.Cases.{by_test}
use Rattle.reader.specs.declared.Refusal.{Refusal}
use Rattle.reader.specs.Reader.{refusal_number}
use Rattle.judge_rules.specs.Judged.{Judgement, sheet_refused, accepted, judged}
use Rattle.verdicts.specs.Judge.{Refused}
use Rattle.verdicts.specs.Judge.{outcome_of}
use Rattle.printout_sort.specs.Wrote.{Wrote, wrote_none, wrote_as}
use Rattle.printout_sort.specs.TextLaws.{decimal-short}
use Rattle.printout.specs.declared.kinds.Totals.{Totals}
use Rattle.printout.specs.declared.whole.Piece.{Piece}
use Rattle.printout.specs.LineLaws.{refusal-line-length}
use Rattle.printout.specs.Lines.{refusal_text, refusal_line, term_line, question_line, line_room}
use Rattle.printout.specs.Printed.{kinds_of, printed, program_lengths}
use Rattle.printout.specs.Whole.{line_at, lines_from, PieceIs}
use Rattle.printout.specs.WholeLaws.{line-term, line-question, lines_same}
use Rattle.printout_text.specs.Text.{line_count, line_of, LinesBy, RefusedLines, TextIs}
use Rattle.printout_text.specs.PrintedLaws.{lines-printed, piece_then}
use Rattle.printout_text.specs.LeftLaws.{JudgeLeft}

---------------------------------------------------------------- the cases
-- No line is asked for.
pub lines_none : {count : ℕ} {line : ℕ → List ℕ} {room : ℕ} (from : ℕ) (o : List ℕ) → count ≤ from → LinesBy count line room from o o (record { next = from; end = 0 })
unfolding lines_from
lines_none {count} {line} from o h =
    let e : 0 ≡ from - from = omega arith in
    record {
      lines = omega arith;
      last = λ u. absurd (omega arith);
      text = subst (λ (m : ℕ). Wrote o 0 (lines_from line from m) o 0) e (wrote_none o 0 (omega arith));
      full = λ u. absurd (omega arith);
      goes = λ r u. absurd (omega arith);
    }

-- Every refusal has one digit or two.
pub refusal-small : (e : Refusal) → refusal_number e < 100
refusal-small Refusal.Length = omega arith
refusal-small Refusal.Header = omega arith
refusal-small Refusal.PastEnd = omega arith
refusal-small Refusal.Map = omega arith
refusal-small Refusal.Value = omega arith
refusal-small Refusal.Reference = omega arith
refusal-small Refusal.Trailing = omega arith
refusal-small Refusal.Lent = omega arith
refusal-small Refusal.TreeSize = omega arith
refusal-small Refusal.WrittenSize = omega arith
refusal-small Refusal.Store = omega arith

-- So its line is short.
refusal-short : (e : Refusal) → length (refusal_line (refusal_number e)) ≤ 7
refusal-short e = let h = refusal-small e in omega (arith, decimal-short (refusal_number e) (omega arith), refusal-line-length (refusal_number e))

-- The line of a refused sheet is written, where the first line is asked for,
pub refused-written : (e : Refusal) (from : ℕ) (o o' : List ℕ) (end : ℕ) → from ≤ 0 → Wrote o 0 (refusal_line (refusal_number e)) o' end
    → RefusedLines e from o o' (record { next = 1; end = end })
unfolding lines_from
refused-written e from o o' end h w room _ =
    let f : ℕ → List ℕ = λ k. refusal_line (refusal_number e) in
    let z : 0 ≡ from = omega arith in
    record {
      lines = omega arith;
      last = λ u. omega arith;
      text = subst (λ (k : ℕ). Wrote o 0 (lines_from f k (1 - k)) o' end) z (wrote_as (sym (append-nil (refusal_line (refusal_number e)))) w);
      full = λ u. absurd (omega arith);
      goes = λ r u. omega arith;
    }

-- or it does not fit.
pub refused_full : (e : Refusal) (from : ℕ) (o o' : List ℕ) → from ≤ 0 → o' ≡ o → length o < 0 + length (refusal_line (refusal_number e))
    → RefusedLines e from o o' (record { next = 0; end = 0 })
unfolding lines_from
refused_full e from o o' h s long room small =
    let f : ℕ → List ℕ = λ k. refusal_line (refusal_number e) in
    let z : 0 ≡ from = omega arith in
    record {
      lines = omega arith;
      last = λ u. absurd (omega arith);
      text =
          subst (λ (x : List ℕ). Wrote o 0 (lines_from f from (0 - from)) x 0) (sym s)
          (subst (λ (k : ℕ). Wrote o 0 (lines_from f k (0 - k)) o 0) z (wrote_none o 0 (omega arith)));
      full = λ u. omega arith;
      goes = λ r u. absurd (omega (arith, refusal-short e));
    }

-- The lines over the buffers that `judge` left are those of the judgement.
pub lines_left : (s b p w k g : List ℕ) (t : Totals) (l : JudgeLeft s b p w k g t) (from : ℕ) (o o' : List ℕ) (r : Piece)
    → PieceIs b p w k g t.terms t.questions from o o' l.many r → (line_room ≤ length o → from < t.terms + t.questions → from < r.next)
    → TextIs s from o o' r
lines_left s b p w k g t l from o o' r a goes =
    let j = judged s program_lengths in
    let f : ℕ → List ℕ = λ i. line_at (store_of b p l.many) w k g t.terms i in
    record {
      lines = a.lines;
      last = λ u. omega (arith, a.last, l.count);
      text = wrote_as (lines_same f (line_of j) from (r.next - from) (λ i x y. l.line i (omega (arith, a.last)))) a.text;
      full = λ u.
          let h : r.next < t.terms + t.questions = omega (arith, l.count) in
          omega (arith, a.full h, ap length (l.line r.next h));
      goes = λ long u. goes long (omega (arith, l.count));
    }

-- A refused outcome is that of a refused judgement.
pub refused_as : (e : Refusal) (j : Judgement) → Refused e ≡ outcome_of j → sheet_refused e ≡ j
refused_as e (sheet_refused x) h = let z : e ≡ x = cc in ap sheet_refused z
refused_as e (accepted h st rows answers) q = let z : ◌≡◌ {A = ℕ} 0 1 = cc in absurd (omega arith)

---------------------------------------------------------------- what follows
-- No line is empty.
line-some : (j : Judgement) (k : ℕ) → 0 < length (line_of j k)
unfolding refusal_line refusal_text term_line question_line
line-some (sheet_refused e) k = omega arith
line-some (accepted h st rows answers) k =
    let t = length h.terms in
    let d = kinds_of h.questions in
    by_test (ltb k t)
    (λ e. omega (arith, ap length (line-term st rows d answers t k (ltb-true k t e))))
    (λ e. omega (arith, ap length (line-question st rows d answers t k (ltb-false k t e))))

-- What lines written from `from` on say, of any printout without an empty line.
module _ {count : ℕ} {line : ℕ → List ℕ} {room from : ℕ} {o o' : List ℕ} {r : Piece} (a : LinesBy count line room from o o' r)
    (some : (k : ℕ) → 0 < length (line k)) where
  -- A piece with no byte has no line, and in a buffer that holds the longest line there is then none.
  pub done_none : room ≤ length o → r.end ≡ 0 → count ≤ from
  unfolding lines_from
  done_none long e =
      by_test (ltb from count)
      (λ x.
      let u = ltb-true from count x in
      let m : r.next - from ≡ suc (r.next - from - 1) = omega (arith, a.goes long u) in
      absurd
      (omega (
        arith,
        a.text.next,
        ap (λ (n : ℕ). length (lines_from line from n)) m,
        length-append (line from) (lines_from line (suc from) (r.next - from - 1)),
        some from,
      )))
      (λ x. ltb-false from count x)

  -- Behind the last line nothing is written.
  pub done_end : count ≤ from → r.end ≡ 0
  unfolding lines_from
  done_end h =
      by_test (ltb from r.next)
      (λ x. let u = ltb-true from r.next x in absurd (omega (arith, a.last u)))
      (λ x.
      let u = ltb-false from r.next x in
      let m : r.next - from ≡ 0 = omega arith in
      omega (arith, a.text.next, ap (λ (n : ℕ). length (lines_from line from n)) m))

  -- Where a line is left, all lines together are longer than the buffer.
  left-long : r.next < count → length o < length (lines_from line from (count - from))
  unfolding lines_from
  left-long u =
      let m : count - r.next ≡ suc (count - r.next - 1) = omega arith in
      omega (
        arith,
        a.full u,
        a.text.next,
        ap length (piece_then line from r.next count a.lines (omega arith)),
        length-append (lines_from line from (r.next - from)) (lines_from line r.next (count - r.next)),
        ap (λ (n : ℕ). length (lines_from line r.next n)) m,
        length-append (line r.next) (lines_from line (suc r.next) (count - r.next - 1)),
      )

  -- Else they are all written.
  all-written : from ≤ count → count ≤ r.next → r.next ≡ count
  all-written h u =
      by_test (ltb from r.next)
      (λ x. let v = ltb-true from r.next x in omega (arith, a.last v))
      (λ x. let v = ltb-false from r.next x in omega arith)

  -- So a buffer that holds all lines from `from` on gets them.
  pub whole-written : from ≤ count → length (lines_from line from (count - from)) ≤ length o → Wrote o 0 (lines_from line from (count - from)) o' r.end
  whole-written h long =
      by_test (ltb r.next count)
      (λ x. absurd (omega (arith, left-long (ltb-true r.next count x))))
      (λ x.
      let e = all-written h (ltb-false r.next count x) in
      wrote_as (ap (λ (n : ℕ). lines_from line from (n - from)) e) a.text)

-- IN A BUFFER OF `line_room` BYTES nothing is written exactly where no line is left.
pub text-done : (s : List ℕ) (from : ℕ) (o o' : List ℕ) (r : Piece) → TextIs s from o o' r → line_room ≤ length o
    → (r.end ≡ 0 → line_count (judged s program_lengths) ≤ from) × (line_count (judged s program_lengths) ≤ from → r.end ≡ 0)
text-done s from o o' r a long =
    let j = judged s program_lengths in (λ e. done_none a (line-some j) long e, λ h. done_end a (line-some j) h)

-- A BUFFER THAT HOLDS THE WHOLE PRINTOUT gets all of it, from its start on, when the first line is asked for.
pub text-whole : (s o o' : List ℕ) (r : Piece) → TextIs s 0 o o' r → length (printed (judged s program_lengths)) ≤ length o
    → Wrote o 0 (printed (judged s program_lengths)) o' r.end
text-whole s o o' r a long =
    let j = judged s program_lengths in
    let z : line_count j - 0 ≡ line_count j = omega arith in
    let e = ap (lines_from (line_of j) 0) z ∙ sym (lines-printed s program_lengths) in
    wrote_as e (whole-written a (line-some j) (omega arith) (omega (arith, ap length e)))
