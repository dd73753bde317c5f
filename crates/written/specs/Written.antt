-- How much of a printout is written: what writing its lines asks, and what is promised of it. A printout is here a count of lines and
-- the line of each number.
use Rattle.std.specs.Prelude.{ℕ, ◌-◌, ◌≤◌, ◌<◌, ◌≡◌, true, false, List, Option}
use Rattle.std.specs.Io.KnownBytes.{Appends}
use Rattle.judge_rules.specs.Judged.{Judgement}
use Rattle.printout.specs.Lines.{line_room}
use Rattle.printout.specs.Printed.{printed}
use Rattle.printout.specs.Whole.{lines_from}
use Rattle.printout_text.specs.Text.{line_count, line_of}
use Rattle.page.specs.Page.{paged}
use Rattle.page.specs.Numbered.{page_count, page_line_of}
use Rattle.written.specs.declared.Written.{Written}

-- Nothing is written yet.
abbrev pub none_written : Written
none_written = record { lines = 0; failed = false }

-- The bytes of the lines that are written.
abbrev pub handed : (ℕ → List ℕ) → Written → List ℕ
handed line w = lines_from line 0 w.lines

-- THE TEXT OF THE NEXT LINES: those from the first unwritten one up to the number `next`. No write failed.
pub record NextLines (count : ℕ) (line : ℕ → List ℕ) (w : Written) (next : ℕ) (text : List ℕ) : Type 0 where
  pub good : w.failed ≡ false
  pub on : w.lines ≤ next
  pub last : next ≤ count
  pub is : text ≡ lines_from line w.lines (next - w.lines)

-- The text is that of the next lines of some printout.
pub record HandAsks (w : Written) (next : ℕ) (text : List ℕ) : Type 0 where
  pub count : ℕ
  pub line : ℕ → List ℕ
  pub lines : NextLines count line w next text

-- WHAT A WRITE OF LINES GIVES: it took all, and the lines below `next` are written; or it failed, and no further line is.
pub record WentOn (w : Written) (next : ℕ) (r : Written) : Type 0 where
  pub took : r.failed ≡ false → r.lines ≡ next
  pub stayed : r.failed ≡ true → r.lines ≡ w.lines

-- WHAT THE OUTPUT HOLDS, where that is known: if no write failed, what it held before and then just this text.
-- Where `failed` is set, nothing is said of the bytes.
-- That a write did fail then no clause says, since std's `Write` has no word for it: the code of `hand` sets `failed` there alone.
abbrev pub TextAdded : Option (List ℕ) → Option (List ℕ) → List ℕ → Written → Type 0
TextAdded before after text r = r.failed ≡ false → Appends before after text

-- ALL LINES ARE WRITTEN, unless a write failed; where one failed, a line is left.
pub record WrittenAll (count : ℕ) (r : Written) : Type 0 where
  pub whole : r.failed ≡ false → r.lines ≡ count
  pub part : r.failed ≡ true → r.lines < count

-- THE TWO TEXTS OF A JUDGEMENT: the lines of its printout, and its pages.
pub data Layout : Type 0 where
  in_lines : Layout
  on_pages : Layout

-- How many lines each has, the line of each number, and the bytes that any of its lines fits.
abbrev pub count_in : Layout → Judgement → ℕ
count_in in_lines j = line_count j
count_in on_pages j = page_count j

abbrev pub line_in : Layout → Judgement → ℕ → List ℕ
line_in in_lines j = line_of j
line_in on_pages j = page_line_of j

abbrev pub room_in : Layout → ℕ
room_in in_lines = line_room
room_in on_pages = 81

-- The whole text: by the laws `lines-printed` and `lines-paged` its lines in order.
abbrev pub text_in : Layout → Judgement → List ℕ
text_in in_lines j = printed j
text_in on_pages j = paged j

-- THE PROMISE OF WRITING either,
abbrev pub WrittenIn : Layout → Judgement → Written → Type 0
WrittenIn t j r = WrittenAll (count_in t j) r

-- THE PROMISE OF PRINTING a judgement, and of printing its pages.
abbrev pub PrintedIs : Judgement → Written → Type 0
PrintedIs j r = WrittenAll (line_count j) r

abbrev pub PagedIs : Judgement → Written → Type 0
PagedIs j r = WrittenAll (page_count j) r
