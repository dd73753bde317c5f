-- What a judged sheet leaves can be printed in pieces, each the next lines; and the bytes of all lines are the printout.
use Rattle.std.specs.Prelude.{ℕ, ◌-◌, ◌≡◌, false, List, take}
use Rattle.std.proofs.Common.{sym, ap, subst, ◌∙◌, arith}
use Rattle.record.specs.Decode.{store_of}
use Rattle.reader.specs.declared.Refusal.{Refusal}
use Rattle.sheet.specs.Sheet.{Lengths}
use Rattle.judge_rules.specs.Judged.{Judgement, judged}
use Rattle.verdicts.specs.Judge.{Refused}
use Rattle.verdicts.specs.Judge.{outcome_of}
use Rattle.printout.specs.declared.kinds.Totals.{Totals}
use Rattle.printout.specs.declared.whole.Piece.{Piece}
use Rattle.printout.specs.Printed.{printed, program_lengths}
use Rattle.printout.specs.Whole.{line_at, lines_from, PieceIs}
use Rattle.printout.specs.WholeLaws.{lines_same}
use Rattle.printout_text.specs.Text.{line_count, line_of}
use Rattle.printout_text.specs.NewlineLaws.{wrote-first}
use Rattle.printout_text.specs.PrintedLaws.{lines-printed}
use Rattle.printout_text.specs.TextLaws.{refused_as}
use Rattle.printout_text.specs.LeftLaws.{JudgeLeft}
use Rattle.written.specs.declared.Written.{Written}
use Rattle.written.specs.Written.{handed, NextLines, WrittenAll, PrintedIs}

-- A piece of the lines over what `judge` left is the next lines of the judgement, where just those before it are written.
pub piece-next : (s b p w k g : List ℕ) (t : Totals) (l : JudgeLeft s b p w k g t) (d : Written) (from : ℕ) (o o' : List ℕ) (r : Piece)
    → d.failed ≡ false → d.lines ≡ from → PieceIs b p w k g t.terms t.questions from o o' l.many r
    → NextLines (line_count (judged s program_lengths)) (line_of (judged s program_lengths)) d r.next (take r.end o')
piece-next s b p w k g t l d from o o' r good e a =
    let f = line_of (judged s program_lengths) in
    let h : ℕ → List ℕ = λ i. line_at (store_of b p l.many) w k g t.terms i in
    record {
      good = good;
      on = omega (arith, a.lines, e);
      last = omega (arith, a.last, l.count);
      is =
          wrote-first o (lines_from h from (r.next - from)) o' r.end a.text
          ∙ lines_same h f from (r.next - from) (λ i x y. l.line i (omega (arith, a.last)))
          ∙ ap (λ (i : ℕ). lines_from f i (r.next - i)) (sym e);
    }

-- What is promised of a refusal's one line is promised of the sheet that is refused for it.
pub printed-refused : (s : List ℕ) (l : Lengths) (e : Refusal) (r : Written) → Refused e ≡ outcome_of (judged s l) → WrittenAll 1 r → PrintedIs (judged s l) r
printed-refused s l e r h a = subst (λ (j : Judgement). PrintedIs j r) (refused_as e (judged s l) h) a

-- WHERE NO WRITE FAILED THE BYTES HANDED OVER ARE THE PRINTOUT.
pub handed-whole : (s : List ℕ) (l : Lengths) (r : Written) → PrintedIs (judged s l) r → r.failed ≡ false → handed (line_of (judged s l)) r ≡ printed (judged s l)
handed-whole s l r a e = ap (lines_from (line_of (judged s l)) 0) (a.whole e) ∙ sym (lines-printed s l)
