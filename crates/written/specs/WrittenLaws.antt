-- What a write of lines gives, case by case; and what the count of written lines says of the bytes that were handed over: they grow by
-- the text of each write.
use Rattle.std.specs.Prelude.{ℕ, ◌+◌, ◌-◌, ◌<◌, ◌≤◌, ◌≡◌, refl, true, false, List, [], ◌++◌, length, take, ltb, Option}
use Rattle.std.specs.Io.KnownBytes.{Appends}
use Rattle.std.proofs.KnownBytes.{Appends-nil, Appends-trans}
use Rattle.std.proofs.Common.{sym, ap, subst, ◌∙◌, append-nil, arith, ltb-true, ltb-false}
use Rattle.std.proofs.lemmas.Bool.{both_ways}
use Rattle.record.specs.Cases.{by_test}
use Rattle.reader.specs.declared.Refusal.{Refusal}
use Rattle.reader.specs.Reader.{refusal_number}
use Rattle.judge_rules.specs.Judged.{Judgement, judged}
use Rattle.verdicts.specs.Judge.{Refused, outcome_of}
use Rattle.printout_sort.specs.TextLaws.{decimal-short}
use Rattle.printout.specs.declared.whole.Piece.{Piece}
use Rattle.printout.specs.Lines.{refusal_line}
use Rattle.printout.specs.LineLaws.{refusal-line-length}
use Rattle.printout.specs.Printed.{printed, program_lengths}
use Rattle.printout.specs.Whole.{lines_from}
use Rattle.printout_text.specs.Text.{line_of, LinesBy, RefusedLines}
use Rattle.printout_text.specs.NewlineLaws.{wrote-first}
use Rattle.printout_text.specs.PrintedLaws.{piece_then, lines-printed}
use Rattle.printout_text.specs.TextLaws.{refusal-small, refused_as}
use Rattle.page.specs.Page.{paged}
use Rattle.page.specs.Numbered.{page_line_of}
use Rattle.page.proofs.NumberedLaws.{lines-paged}
use Rattle.written.specs.declared.Written.{Written}
use Rattle.written.specs.Written.{none_written, handed, NextLines, HandAsks, WentOn, WrittenAll, TextAdded, Layout, in_lines, on_pages, count_in, line_in, text_in}

---------------------------------------------------------------- the line of a refused sheet
-- It is the next one where nothing is written,
pub refusal-asks : (e : Refusal) (text : List ℕ) → text ≡ refusal_line (refusal_number e) → HandAsks none_written 1 text
unfolding lines_from
refusal-asks e text h =
    record {
      count = 1;
      line = λ k. refusal_line (refusal_number e);
      lines = record { good = refl; on = omega arith; last = omega arith; is = h ∙ sym (append-nil (refusal_line (refusal_number e))) };
    }

-- and it fits 16 bytes.
pub refusal-fits : (e : Refusal) → 16 < 0 + length (refusal_line (refusal_number e)) → ⊥
refusal-fits e h =
    let o = refusal-small e in
    omega (arith, decimal-short (refusal_number e) (omega arith), refusal-line-length (refusal_number e))

---------------------------------------------------------------- a piece of lines
-- A piece that goes on goes on behind its first line, and not behind the last one.
pub goes-on : {count : ℕ} {line : ℕ → List ℕ} {room from : ℕ} {o o' : List ℕ} {r : Piece} → LinesBy count line room from o o' r → (r.next ≡ from → ⊥)
    → (from < r.next) × (r.next ≤ count)
goes-on {from = from} {r = r} a some = let u : from < r.next = omega (arith, a.lines, some) in (u, a.last u)

-- Where just the lines before it are written, it is the next lines.
pub next-lines : {count : ℕ} {line : ℕ → List ℕ} {room from : ℕ} {o o' : List ℕ} {r : Piece} → LinesBy count line room from o o' r → (r.next ≡ from → ⊥)
    → (d : Written) → d.failed ≡ false → from ≡ d.lines → NextLines count line d r.next (take r.end o')
next-lines {line = line} {from = from} {o} {o'} {r} a some d good e =
    let u = goes-on a some in
    record {
      good = good;
      on = omega (arith, u.0, e);
      last = u.1;
      is = wrote-first o (lines_from line from (r.next - from)) o' r.end a.text ∙ ap (λ (i : ℕ). lines_from line i (r.next - i)) e;
    }

pub hand-asks : {count : ℕ} {line : ℕ → List ℕ} {w : Written} {next : ℕ} {text : List ℕ} → NextLines count line w next text → HandAsks w next text
hand-asks {count} {line} a = record { count = count; line = line; lines = a }

-- In a buffer that holds any line, one that does not go on says that no line is left.
pub none-left : {count : ℕ} {line : ℕ → List ℕ} {room from : ℕ} {o o' : List ℕ} {r : Piece} → LinesBy count line room from o o' r → room ≤ length o → r.next ≡ from
    → count ≤ from
none-left {count} {from = from} a long e = by_test (ltb from count) (λ x. absurd (omega (arith, a.goes long (ltb-true from count x)))) (λ x. ltb-false from count x)

-- The line of a refused sheet is a piece that goes on to the number 1.
pub refused-next : (e : Refusal) (o o' : List ℕ) (r : Piece) → RefusedLines e 0 o o' r → 7 ≤ length o → r.next ≡ 1
refused-next e o o' r a long =
    let w = a 7 (omega arith) in
    let u : 0 < r.next = w.goes long (omega arith) in
    omega (arith, u, w.last u)

-- In a buffer of 7 bytes that is the whole of it.
pub refused-text : (e : Refusal) (o o' : List ℕ) (r : Piece) → RefusedLines e 0 o o' r → 7 ≤ length o → take r.end o' ≡ refusal_line (refusal_number e)
unfolding lines_from
refused-text e o o' r a long =
    let n = refused-next e o o' r a long in
    let w = next-lines (a 7 (omega arith)) (λ x. omega (arith, n, x)) none_written refl refl in
    w.is ∙ ap (λ (i : ℕ). lines_from (λ k. refusal_line (refusal_number e)) 0 (i - 0)) n ∙ append-nil (refusal_line (refusal_number e))

---------------------------------------------------------------- what is promised
-- A write took all,
pub took-all : (w : Written) (next : ℕ) → WentOn w next (record { lines = next; failed = false })
took-all w next = record { took = λ e. refl; stayed = λ e. absurd (both_ways false refl e) }

-- or it failed.
pub took-less : (w : Written) (next : ℕ) → WentOn w next (record { lines = w.lines; failed = true })
took-less w next = record { took = λ e. absurd (both_ways true e refl); stayed = λ e. refl }

-- With the write of its one line a printout is written, or that write failed.
pub one_written : (r : Written) → WentOn none_written 1 r → WrittenAll 1 r
one_written r g = record { whole = g.took; part = λ x. omega (arith, g.stayed x) }

-- Where the lines written are as many as there are, all are,
pub written-whole : {count : ℕ} (r : Written) → r.failed ≡ false → r.lines ≡ count → WrittenAll count r
written-whole r f e = record { whole = λ x. e; part = λ x. absurd (both_ways r.failed f x) }

-- and where a write of further lines failed, one is left.
pub written-part : {count : ℕ} (w : Written) (next : ℕ) (r : Written) → WentOn w next r → r.failed ≡ true → w.lines < count → WrittenAll count r
written-part w next r g t h = record { whole = λ x. absurd (both_ways r.failed x t); part = λ x. omega (arith, g.stayed x) }

---------------------------------------------------------------- what follows of the bytes
-- AT FIRST NO BYTE IS HANDED OVER,
pub handed-none : (line : ℕ → List ℕ) → handed line none_written ≡ []
unfolding lines_from
handed-none line = refl

-- A WRITE ADDS ITS TEXT, where it took all; else a write failed and nothing is added.
pub handed-more : {count : ℕ} {line : ℕ → List ℕ} {w : Written} {next : ℕ} {text : List ℕ} {r : Written} → NextLines count line w next text → WentOn w next r
    → r.failed ≡ false → handed line r ≡ handed line w ++ text
handed-more {line = line} {w} {next} a g e =
    let z : next - 0 ≡ next = omega arith in
    let y : w.lines - 0 ≡ w.lines = omega arith in
    ap (lines_from line 0) (g.took e ∙ sym z)
    ∙ piece_then line 0 w.lines next (omega arith) a.on
    ∙ ap (λ (n : ℕ). lines_from line 0 n ++ lines_from line w.lines (next - w.lines)) y
    ∙ ap (λ (t : List ℕ). handed line w ++ t) (sym a.is)

-- Where all lines are written, the whole text is handed over.
pub handed-text : (t : Layout) (s : List ℕ) (r : Written) → r.lines ≡ count_in t (judged s program_lengths)
    → handed (line_in t (judged s program_lengths)) r ≡ text_in t (judged s program_lengths)
handed-text in_lines s r e = ap (lines_from (line_of (judged s program_lengths)) 0) e ∙ sym (lines-printed s program_lengths)
handed-text on_pages s r e = ap (lines_from (page_line_of (judged s program_lengths)) 0) e ∙ sym (lines-paged (judged s program_lengths))

-- The text of a refused sheet is its one line.
pub text-refused : (t : Layout) (e : Refusal) (j : Judgement) → Refused e ≡ outcome_of j → refusal_line (refusal_number e) ≡ text_in t j
unfolding printed paged
text-refused in_lines e j h = ap printed (refused_as e j h)
text-refused on_pages e j h = ap paged (refused_as e j h)

---------------------------------------------------------------- what follows of what an output holds
-- At first it holds nothing more than before,
pub held-none : (o : Option (List ℕ)) (line : ℕ → List ℕ) (w : Written) → w ≡ none_written → Appends o o (handed line w)
held-none o line w e = subst (λ (v : Written). Appends o o (handed line v)) (sym e) (subst (Appends o o) (sym (handed-none line)) (Appends-nil o))

-- and each write that took all adds the next lines.
pub held-more : {count : ℕ} {line : ℕ → List ℕ} {w : Written} {next : ℕ} {text : List ℕ} {r : Written} (o p q : Option (List ℕ)) → NextLines count line w next text
    → WentOn w next r → r.failed ≡ false → Appends o p (handed line w) → TextAdded p q text r → Appends o q (handed line r)
held-more o p q a g e h t = subst (Appends o q) (sym (handed-more a g e)) (Appends-trans o p q _ _ h (t e))
