-- The newlines of a piece count its lines, and the theorems of crates printout_text and page_text for `napsilo_text` and
-- `napsilo_page_text`.
use Rattle.std.specs.Prelude.{ℕ, ◌≤◌, ◌≡◌, List, length, take}
use Rattle.std.proofs.Common.{arith}
use Rattle.judge_rules.specs.Judged.{judged}
use Rattle.printout_sort.specs.Wrote.{Wrote}
use Rattle.printout.specs.declared.whole.Piece.{Piece}
use Rattle.printout.specs.Lines.{line_room}
use Rattle.printout.specs.Newlines.{newlines}
use Rattle.printout.specs.Printed.{printed, program_lengths}
use Rattle.printout_text.specs.Text.{line_count, LinesBy, TextIs}
use Rattle.printout_text.specs.TextLaws.{text-done, text-whole}
use Rattle.printout_text.specs.NewlineLaws.{wrote-first, line-newline, lines-counted}
use Rattle.page.specs.Page.{paged}
use Rattle.page.specs.Numbered.{page_count}
use Rattle.page.proofs.NumberedLaws.{page-newline}
use Rattle.page_text.specs.PageText.{PageTextIs}
use Rattle.page_text.specs.PageLeftLaws.{pages-done, pages-whole}
use Rattle.exports.specs.Exports.{EndBy, EndIs, PageEndIs}

end_by : {count : ℕ} {line : ℕ → List ℕ} {room from : ℕ} {o o' : List ℕ} (r : Piece) → LinesBy count line room from o o' r → ((k : ℕ) → newlines (line k) ≡ 1)
    → EndBy count line room from o o' r.end
end_by r a one = record { line = r.next; is = a; counted = lines-counted a one }

-- The end of what `text` and `pages` wrote tells the next line.
pub end_is : (s : List ℕ) (from : ℕ) (o o' : List ℕ) (r : Piece) → TextIs s from o o' r → EndIs s from o o' r.end
end_is s from o o' r a = end_by r a (line-newline (judged s program_lengths))

pub page-end-is : (s : List ℕ) (from : ℕ) (o o' : List ℕ) (r : Piece) → PageTextIs s from o o' r → PageEndIs s from o o' r.end
page-end-is s from o o' r a = end_by r a (page-newline (judged s program_lengths))

-- WITH A BUFFER OF `line_room` BYTES, for the pages of 81, 0 is returned exactly where no line is left.
pub end-done : (s : List ℕ) (from : ℕ) (o o' : List ℕ) (r : ℕ) → EndIs s from o o' r → line_room ≤ length o
    → (r ≡ 0 → line_count (judged s program_lengths) ≤ from) × (line_count (judged s program_lengths) ≤ from → r ≡ 0)
end-done s from o o' r a long = text-done s from o o' (record { next = a.line; end = r }) a.is long

pub page-end-done : (s : List ℕ) (from : ℕ) (o o' : List ℕ) (r : ℕ) → PageEndIs s from o o' r → 81 ≤ length o
    → (r ≡ 0 → page_count (judged s program_lengths) ≤ from) × (page_count (judged s program_lengths) ≤ from → r ≡ 0)
page-end-done s from o o' r a long = pages-done s from o o' (record { next = a.line; end = r }) a.is long

-- A BUFFER THAT HOLDS THE WHOLE PRINTOUT, or all pages, starts with it, when the first line is asked for, and its length is returned.
whole-first : {o t o' : List ℕ} {r : ℕ} → Wrote o 0 t o' r → (take r o' ≡ t) × (r ≡ length t)
whole-first {o} {t} {o'} {r} w = (wrote-first o t o' r w, omega (arith, w.next))

pub end_whole : (s o o' : List ℕ) (r : ℕ) → EndIs s 0 o o' r → length (printed (judged s program_lengths)) ≤ length o
    → (take r o' ≡ printed (judged s program_lengths)) × (r ≡ length (printed (judged s program_lengths)))
end_whole s o o' r a long = whole-first (text-whole s o o' (record { next = a.line; end = r }) a.is long)

pub page-end-whole : (s o o' : List ℕ) (r : ℕ) → PageEndIs s 0 o o' r → length (paged (judged s program_lengths)) ≤ length o
    → (take r o' ≡ paged (judged s program_lengths)) × (r ≡ length (paged (judged s program_lengths)))
page-end-whole s o o' r a long = whole-first (pages-whole s o o' (record { next = a.line; end = r }) a.is long)
