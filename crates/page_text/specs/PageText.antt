-- The pages of a sheet by their lines, and what writing some of them into a lent buffer promises.
use Rattle.std.specs.Prelude.{ℕ, ◌*◌, ◌≤◌, ◌<◌, ◌≡◌, List, length, get_or, take}
use Rattle.record.specs.Decode.{store_of}
use Rattle.judge_rules.specs.Judged.{judged}
use Rattle.verdicts.specs.Judge.{Outcome}
use Rattle.verdicts.specs.Judge.{Accepted}
use Rattle.printout.specs.declared.whole.Piece.{Piece}
use Rattle.printout.specs.LineAsks.{RowKnown}
use Rattle.printout.specs.Printed.{program_lengths}
use Rattle.printout_text.specs.Text.{LinesBy, PrintAsks}
use Rattle.page.specs.Page.{pages, table_lines}
use Rattle.page.specs.Numbered.{page_line, page_count, page_line_of}
use Rattle.page_window.specs.Window.{SizesAre}
use Rattle.page_lines.specs.Rows.{RowsJudged}

-- THE PROMISE OF `pages`: the lines are those of the pages of the judgement of the bytes s over the program's lengths, as many as fit; in
-- a buffer of 81 bytes one at least is written, where one is left.
abbrev pub PageTextIs : List ℕ → ℕ → List ℕ → List ℕ → Piece → Type 0
PageTextIs s from o o' r =
    LinesBy (page_count (judged s program_lengths)) (page_line_of (judged s program_lengths)) 81 from o o' r

-- The rows of t terms.
pub record KnownAsk (rows : List ℕ) (t : ℕ) : Type 0 where
  pub terms : 2 * t ≤ length rows
  pub few : t ≤ 4096

-- Every row that is no refusal names a sort below r, as of any store that has them all.
pub record KnownIs (rows : List ℕ) (m r : ℕ) : Type 0 where
  pub each : (i : ℕ) → i < m → RowKnown r (get_or rows i 0)
  pub least : (n : ℕ) → ((i : ℕ) → i < m → RowKnown n (get_or rows i 0)) → r ≤ n

-- One row more.
pub record RaisedIs (most code r : ℕ) : Type 0 where
  pub known : RowKnown r code
  pub low : most ≤ r
  pub least : (n : ℕ) → most ≤ n → RowKnown n code → r ≤ n

-- WHAT `judge` LEFT OF AN ACCEPTED SHEET OF t TERMS, AS THE PAGES READ IT: their lines over the buffers are those of the judgement.
pub record PageStore (s b p w : List ℕ) (t : ℕ) : Type 0 where
  pub many : ℕ
  pub few : many ≤ 4096
  pub good : RowsJudged b p w t many
  pub count : length (pages (table_lines (store_of b p many) 0 (take (2 * t) w))) ≡ page_count (judged s program_lengths)
  pub line : (i : ℕ) → page_line (store_of b p many) (take (2 * t) w) i ≡ page_line_of (judged s program_lengths) i

-- The buffers are those that `judge` left with this outcome, over the program's lengths.
pub record PagesAsk (s b p w g : List ℕ) (o : Outcome) : Type 0 where
  pub left : PrintAsks s b p w g o
  pub short : length b ≤ 65536

-- They are of an accepted sheet, and the table has room for every sort.
pub record PageSizesAsk (s b p w g z : List ℕ) : Type 0 where
  pub buffers : PagesAsk s b p w g Accepted
  pub room : 4096 ≤ length z

-- THE SIZES of the texts that the rows of the t terms name stand in the table z.
pub record PageSizesAre (s b p w z : List ℕ) (t : ℕ) : Type 0 where
  pub known : ℕ
  pub judged : RowsJudged b p w t known
  pub table : SizesAre b p known z
  pub short : length b ≤ 65536
  pub store : PageStore s b p w t
