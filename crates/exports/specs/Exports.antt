-- What `napsilo_text` and `napsilo_page_text` promise to their callers in C and Rust; `napsilo_judge` promises what crate verdicts says of it.
use Rattle.std.specs.Prelude.{ℕ, ◌+◌, ◌≡◌, List, take}
use Rattle.judge_rules.specs.Judged.{judged}
use Rattle.printout.specs.Lines.{line_room}
use Rattle.printout.specs.Newlines.{newlines}
use Rattle.printout.specs.Printed.{program_lengths}
use Rattle.printout_text.specs.Text.{line_count, line_of, LinesBy}
use Rattle.page.specs.Numbered.{page_count, page_line_of}

-- Lines from the number `from` on are written up to the place r, and the number of the next line is told by the newlines among the
-- bytes written.
pub record EndBy (count : ℕ) (lines : ℕ → List ℕ) (room from : ℕ) (o o' : List ℕ) (r : ℕ) : Type 0 where
  pub line : ℕ
  pub is : LinesBy count lines room from o o' (record { next = line; end = r })
  pub counted : line ≡ from + newlines (take r o')

-- THE PROMISE OF `napsilo_text`: they are lines of the printout.
abbrev pub EndIs : List ℕ → ℕ → List ℕ → List ℕ → ℕ → Type 0
EndIs s from o o' r = EndBy (line_count (judged s program_lengths)) (line_of (judged s program_lengths)) line_room from o o' r

-- THE PROMISE OF `napsilo_page_text`: they are lines of the pages.
abbrev pub PageEndIs : List ℕ → ℕ → List ℕ → List ℕ → ℕ → Type 0
PageEndIs s from o o' r = EndBy (page_count (judged s program_lengths)) (page_line_of (judged s program_lengths)) 81 from o o' r
