-- What the second program prints of a sheet, from its bytes: all that document 02 says of it (A.13).
use Rattle.std.specs.Prelude.{ℕ, ◌+◌, ◌*◌, ◌%◌, ◌≤◌, ◌<◌, ◌≡◌, refl, ◌&&◌, List, [], ◌∷◌, length, get_or, leb}
use Rattle.std.proofs.Common.{arith, leb-true}
use Rattle.record.specs.Sort.{Sort}
use Rattle.record.specs.Cases.{by_test, false-first, false-second}
use Rattle.reader.specs.declared.Refusal.{Refusal}
use Rattle.reader.specs.declared.Refusal.TheVariants.{Length, Header}
use Rattle.reader.specs.Reader.{refusal_number}
use Rattle.sheet.specs.Sheet.{Lengths, Sheet, term_count, sort_count, question_count, read_sheet}
use Rattle.sheet.specs.Sheet.Reading.{read_refused, got}
use Rattle.check_rules.specs.Rank.{Rank}
use Rattle.check_rules.specs.Ranks.{smt_lib}
use Rattle.judge_rules.specs.Judged.{sheet_refused, accepted, judged_by, judged}
use Rattle.judge_rules.proofs.JudgedLaws.{told, judged-read, judged-counts}
use Rattle.printout.specs.Lines.{refusal_line}
use Rattle.printout.specs.Printed.{program_lengths}
use Rattle.page.specs.Page.{blanks, line_of, bytes_of, page_of, paged}
use Rattle.page.specs.Numbered.{number_on, piece_on, inferred_of, checked_of, height_at, above}
use Rattle.page.specs.Back.{stripped, inferred_column, checked_column, joined, read_lines, entries_of, lines_in}
use Rattle.page.proofs.PageTheorems.{page-none, page-whole, page-wide, page-sixty, page-holds, page-fewest, page-short}
use Rattle.page.proofs.PageTheorems.{page-row-line, page-blank-line, page-inferred, page-checked, page-read}

-- The printed bytes p are the page of the rows of T terms over this store.
pub record PageIs (st : List Sort) (rows : List ℕ) (T : ℕ) (p : List ℕ) : Type 0 where
  -- "on lines of exactly 80 columns": each has 80 bytes before its newline, and no byte stands behind the last newline.
  pub wide : (n : ℕ) → n < length (lines_in p) → length (get_or (lines_in p) n []) ≡ 80
  pub ended : bytes_of (lines_in p) ≡ p
  -- "Sixty lines make a page": whole pages, the fewest that hold the lines of the rows.
  pub sixty : length (lines_in p) % 60 ≡ 0
  pub holds : above (height_at st rows) T ≤ length (lines_in p)
  pub fewest : (m : ℕ) → m % 60 ≡ 0 → above (height_at st rows) T ≤ m → length (lines_in p) ≤ m
  pub short : length (lines_in p) < above (height_at st rows) T + 60
  -- "the last one padded with lines of 80 blanks; without rows there is none"
  pub blank : (n : ℕ) → above (height_at st rows) T ≤ n → n < length (lines_in p) → get_or (lines_in p) n [] ≡ blanks 80
  pub none : T ≡ 0 → p ≡ []
  -- "term number .. in 6, a space, inferred sort in 36, a space, checked sort in 36", and "below .. broken at exactly 36".
  pub row : (t i : ℕ) → t < T → i < height_at st rows t
      → get_or (lines_in p) (above (height_at st rows) t + i) []
      ≡ line_of (number_on t i) (piece_on i (inferred_of st rows t)) (piece_on i (checked_of st rows t))
  -- "Joining a column's pieces gives the printed text, without its filling blanks."
  pub inferred : (t : ℕ) → t < T
      → stripped (joined inferred_column (lines_in p) (above (height_at st rows) t) (height_at st rows t)) ≡ inferred_of st rows t
  pub checked : (t : ℕ) → t < T
      → stripped (joined checked_column (lines_in p) (above (height_at st rows) t) (height_at st rows t)) ≡ checked_of st rows t
  pub read : (read_lines (lines_in p)).entries ≡ entries_of st 0 rows

no-page : (st : List Sort) (rows : List ℕ) → length rows ≡ 0 → page_of st rows ≡ []
no-page st [] e = page-none st
no-page st (x ∷ rows) e = absurd (omega arith)

page-is : (st : List Sort) (rows : List ℕ) (T : ℕ) → length rows ≡ 2 * T → T ≤ 1000000 → PageIs st rows T (page_of st rows)
page-is st rows T e h = record {
  wide = page-wide st rows (omega arith);
  ended = page-whole st rows;
  sixty = page-sixty st rows T e;
  holds = page-holds st rows T e;
  fewest = page-fewest st rows T e;
  short = page-short st rows T e;
  blank = page-blank-line st rows T e;
  none = λ z. no-page st rows (omega arith);
  row = page-row-line st rows T e;
  inferred = page-inferred st rows T e h;
  checked = page-checked st rows T e h;
  read = page-read st rows (omega arith);
}

-- A sheet that is read has 4,096 terms at most.
unread : (h : Sheet) (x : ℕ) (e : Refusal) → read_refused e ≡ got h x → ⊥
unread h x e q = let z : ◌≡◌ {A = ℕ} 0 1 = cc in omega arith

few-terms : (s : List ℕ) (l : Lengths) (h : Sheet) (x : ℕ) → read_sheet s l ≡ got h x → term_count s ≤ 4096
unfolding read_sheet
few-terms s l h x e =
    let few = leb (term_count s) 4096 in
    let asked = leb (question_count s) 1024 in
    by_test few (leb-true (term_count s) 4096)
    (λ q. absurd
    (by_test (leb 6 (length s) && leb (length s) 65536)
    (λ p. unread h x Header (rw (p, false-second (leb (sort_count s) 2048) (few && asked) (false-first few asked q)) at e))
    (λ p. unread h x Length (rw p at e))))

-- AN ACCEPTED SHEET, over any ranks and lent lengths.
pub accepted-page : (R : ℕ → List Rank) (s : List ℕ) (l : Lengths) (h : Sheet) (st : List Sort) (rows answers : List ℕ)
    → judged_by R s l ≡ accepted h st rows answers → PageIs st rows (length h.terms) (paged (judged_by R s l))
unfolding paged
accepted-page R s l h st rows answers e =
    let k = (told R s l h st rows answers e).sheet.terms-are.many in
    let r = judged-read R s l h st rows answers e in
    rw e (page-is st rows (length h.terms) (judged-counts R s l h st rows answers e).0 (omega (arith, few-terms s l h r.0 r.1)))

-- "a refused sheet as before"
pub refused-page : (R : ℕ → List Rank) (s : List ℕ) (l : Lengths) (x : Refusal) → judged_by R s l ≡ sheet_refused x
    → paged (judged_by R s l) ≡ refusal_line (refusal_number x)
unfolding paged
refused-page R s l x e = rw e refl

-- THE SECOND PROGRAM: the ranks of the table, the program's buffers.
pub accepted-program : (s : List ℕ) (h : Sheet) (st : List Sort) (rows answers : List ℕ)
    → judged s program_lengths ≡ accepted h st rows answers
    → PageIs st rows (length h.terms) (paged (judged s program_lengths))
unfolding judged
accepted-program s h st rows answers e = accepted-page smt_lib s program_lengths h st rows answers e

pub refused-program : (s : List ℕ) (x : Refusal) → judged s program_lengths ≡ sheet_refused x
    → paged (judged s program_lengths) ≡ refusal_line (refusal_number x)
unfolding judged
refused-program s x e = refused-page smt_lib s program_lengths x e
