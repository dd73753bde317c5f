-- The printout of a judgement is its lines in order, and pieces of lines that follow on one another leave none out.
use Rattle.std.specs.Prelude.{ℕ, ◌+◌, ◌-◌, ◌≤◌, ◌≡◌, refl, List, [], ◌∷◌, ◌++◌, length}
use Rattle.std.proofs.Common.{sym, ap, ◌∙◌, append-nil, arith, length-append}
use Rattle.reader.specs.Reader.{refusal_number}
use Rattle.sheet.specs.Sheet.{Lengths, QuestionFields}
use Rattle.check_rules.specs.Ranks.{smt_lib}
use Rattle.judge_rules.specs.Judged.{Judgement, sheet_refused, accepted, judged}
use Rattle.judge_rules.proofs.JudgedLaws.{judged-counts}
use Rattle.printout.specs.Lines.{refusal_line}
use Rattle.printout.specs.Printed.{kinds_of, printed}
use Rattle.printout.specs.Whole.{lines_from}
use Rattle.printout.specs.WholeLaws.{lines_split, lines-whole}
use Rattle.printout_text.specs.Text.{line_count, line_of}

-- A kind for each question.
pub kinds-count : (qs : List QuestionFields) → length (kinds_of qs) ≡ length qs
unfolding kinds_of
kinds-count [] = refl
kinds-count (q ∷ qs) = omega (arith, length-append (kinds_of qs) (q.kind ∷ []), kinds-count qs)

-- THE LINES IN ORDER, none left out, ARE THE PRINTOUT.
pub lines-printed : (s : List ℕ) (l : Lengths) → printed (judged s l) ≡ lines_from (line_of (judged s l)) 0 (line_count (judged s l))
unfolding judged printed lines_from
lines-printed s l = go (judged s l) refl
  where
    go : (j : Judgement) → judged s l ≡ j → printed j ≡ lines_from (line_of j) 0 (line_count j)
    go (sheet_refused e) q = sym (append-nil (refusal_line (refusal_number e)))
    go (accepted h st rows answers) q =
        let counts = judged-counts smt_lib s l h st rows answers q in
        lines-whole st rows (kinds_of h.questions) answers rows (kinds_of h.questions) answers (length h.terms) (length h.questions)
        counts.0 (kinds-count h.questions) counts.1 (λ i o. refl) (λ i o. refl) (λ i o. refl)

-- A piece, then the lines behind it, are the lines from its first one on: so pieces that follow on one another leave none out.
pub piece_then : (f : ℕ → List ℕ) (from next total : ℕ) → from ≤ next → next ≤ total
    → lines_from f from (total - from) ≡ lines_from f from (next - from) ++ lines_from f next (total - next)
piece_then f from next total h u =
    let e : total - from ≡ next - from + (total - next) = omega arith in
    let d : from + (next - from) ≡ next = omega arith in
    ap (lines_from f from) e ∙ lines_split f from (next - from) (total - next)
    ∙ ap (λ (i : ℕ). lines_from f from (next - from) ++ lines_from f i (total - next)) d
