-- What a judged sheet leaves can be printed on pages in pieces, each the next lines; and the bytes of all lines are the pages.
use Rattle.std.specs.Prelude.{ℕ, ◌-◌, ◌<◌, ◌≤◌, ◌≡◌, false, List, length, take, ltb}
use Rattle.std.proofs.Common.{sym, ap, subst, ◌∙◌, arith, ltb-true, ltb-false}
use Rattle.record.specs.Cases.{by_test}
use Rattle.reader.specs.declared.Refusal.{Refusal}
use Rattle.sheet.specs.Sheet.{Lengths}
use Rattle.judge_rules.specs.Judged.{Judgement, judged}
use Rattle.verdicts.specs.Judge.{Refused}
use Rattle.verdicts.specs.Judge.{outcome_of}
use Rattle.printout.specs.declared.whole.Piece.{Piece}
use Rattle.printout.specs.Printed.{program_lengths}
use Rattle.printout.specs.Whole.{lines_from}
use Rattle.printout_text.specs.NewlineLaws.{wrote-first}
use Rattle.printout_text.specs.TextLaws.{refused_as, done_none, done_end}
use Rattle.page.specs.Page.{paged}
use Rattle.page.specs.Numbered.{page_count, page_line_of}
use Rattle.page.proofs.NumberedLaws.{lines-paged}
use Rattle.page_lines.specs.Pages.{PageHas}
use Rattle.page_text.specs.PageText.{PageTextIs, PageStore}
use Rattle.page_text.specs.PageLeftLaws.{page-piece, page-some}
use Rattle.written.specs.declared.Written.{Written}
use Rattle.written.specs.Written.{handed, NextLines, WrittenAll, PagedIs}
use Rattle.written.specs.WrittenLaws.{written-whole}

---------------------------------------------------------------- a piece of the pages
-- The lines over what `judge` left are those of the judgement.
pub piece-text : {s b p w : List ℕ} {t from : ℕ} {o o' : List ℕ} {r : Piece} → PageStore s b p w t → PageHas b p w t from o o' r → PageTextIs s from o o' r
piece-text st h = page-piece st (h st.many st.good)

-- In a buffer that holds a line, a piece with a byte goes on by a line at least, and not behind the last one.
pub piece-goes : (s : List ℕ) {from : ℕ} {o o' : List ℕ} {r : Piece} → PageTextIs s from o o' r → 81 ≤ length o → (r.end ≡ 0 → ⊥)
    → (from < r.next) × (r.next ≤ page_count (judged s program_lengths))
piece-goes s {from} a long some =
    let j = judged s program_lengths in
    by_test (ltb from (page_count j))
    (λ x. let u = a.goes long (ltb-true from (page_count j) x) in (u, a.last u))
    (λ x. absurd (some (done_end a (page-some j) (ltb-false from (page_count j) x))))

-- Where just the lines before it are written, it is the next lines.
pub piece-next : (s : List ℕ) {from : ℕ} {o o' : List ℕ} {r : Piece} → PageTextIs s from o o' r → 81 ≤ length o → (r.end ≡ 0 → ⊥)
    → (d : Written) → d.failed ≡ false → d.lines ≡ from
    → NextLines (page_count (judged s program_lengths)) (page_line_of (judged s program_lengths)) d r.next (take r.end o')
piece-next s {from} {o} {o'} {r} a long some d good e =
    let f = page_line_of (judged s program_lengths) in
    record {
      good = good;
      on = omega (arith, a.lines, e);
      last = (piece-goes s a long some).1;
      is = wrote-first o (lines_from f from (r.next - from)) o' r.end a.text ∙ ap (λ (i : ℕ). lines_from f i (r.next - i)) (sym e);
    }

-- A piece with no byte says that all lines are written.
pub piece-none : (s : List ℕ) {from : ℕ} {o o' : List ℕ} {r : Piece} → PageTextIs s from o o' r → 81 ≤ length o → r.end ≡ 0
    → (d : Written) → d.failed ≡ false → d.lines ≡ from → from ≤ page_count (judged s program_lengths) → PagedIs (judged s program_lengths) d
piece-none s a long none d good e low =
    let j = judged s program_lengths in written-whole d good (omega (arith, done_none a (page-some j) long none))

---------------------------------------------------------------- what is asked and promised
-- What is promised of a refusal's one line is promised of the pages of the sheet that is refused for it.
pub paged-refused : (s : List ℕ) (l : Lengths) (e : Refusal) (r : Written) → Refused e ≡ outcome_of (judged s l) → WrittenAll 1 r → PagedIs (judged s l) r
paged-refused s l e r h a = subst (λ (j : Judgement). PagedIs j r) (refused_as e (judged s l) h) a

-- WHERE NO WRITE FAILED THE BYTES HANDED OVER ARE THE PAGES.
pub handed-paged : (s : List ℕ) (l : Lengths) (r : Written) → PagedIs (judged s l) r → r.failed ≡ false
    → handed (page_line_of (judged s l)) r ≡ paged (judged s l)
handed-paged s l r a e = ap (lines_from (page_line_of (judged s l)) 0) (a.whole e) ∙ sym (lines-paged (judged s l))
