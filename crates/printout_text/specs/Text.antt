-- The printout of a sheet by its lines, and what writing some of them into a lent buffer promises.
use Rattle.std.specs.Prelude.{ℕ, ◌+◌, ◌-◌, ◌≤◌, ◌<◌, List, length, get_or}
use Rattle.record.specs.Codec.{Bytes}
use Rattle.reader.specs.declared.Refusal.{Refusal}
use Rattle.reader.specs.Reader.{refusal_number}
use Rattle.judge_rules.specs.Judged.{Judgement, sheet_refused, accepted, judged}
use Rattle.verdicts.specs.Judge.{Outcome}
use Rattle.verdicts.specs.Judge.{JudgeIs}
use Rattle.printout_sort.specs.Wrote.{Wrote}
use Rattle.printout.specs.declared.whole.Piece.{Piece}
use Rattle.printout.specs.Lines.{refusal_line, line_room}
use Rattle.printout.specs.Printed.{kinds_of, program_lengths}
use Rattle.printout.specs.Whole.{line_at, lines_from}

-- How many lines the printout of a judgement has: one for a refused sheet, else one a term and one a question.
abbrev pub line_count : Judgement → ℕ
line_count (sheet_refused e) = 1
line_count (accepted h st rows answers) = length h.terms + length h.questions

-- The line with the number k: `!n` of a refused sheet, else a term's or a question's. In order they are the printout: the law
-- `lines-printed`.
abbrev pub line_of : Judgement → ℕ → List ℕ
line_of (sheet_refused e) k = refusal_line (refusal_number e)
line_of (accepted h st rows answers) k = line_at st rows (kinds_of h.questions) answers (length h.terms) k

-- LINES FROM THE NUMBER `from` ON, of a printout of `count` lines, in a buffer that was o: up to the line r .next they are written from
-- its start on, up to the place r .end, and what lies behind is as it was (Wrote). Only lines of the printout are written, and as many
-- as fit; in a buffer of `room` bytes that is one at least, where one is left.
pub record LinesBy (count : ℕ) (line : ℕ → List ℕ) (room from : ℕ) (o o' : List ℕ) (r : Piece) : Type 0 where
  pub lines : from ≤ r.next
  pub last : from < r.next → r.next ≤ count
  pub text : Wrote o 0 (lines_from line from (r.next - from)) o' r.end
  pub full : r.next < count → length o < r.end + length (line r.next)
  pub goes : room ≤ length o → from < count → from < r.next

-- THE LINES OF A JUDGEMENT, none of them longer than `line_room`.
abbrev pub LinesAre : Judgement → ℕ → List ℕ → List ℕ → Piece → Type 0
LinesAre j from o o' r = LinesBy (line_count j) (line_of j) line_room from o o' r

-- The one line of a sheet that is refused for the reason e, which is no longer than 7 bytes.
abbrev pub RefusedLines : Refusal → ℕ → List ℕ → List ℕ → Piece → Type 0
RefusedLines e from o o' r = (room : ℕ) → 7 ≤ room → LinesBy 1 (λ k. refusal_line (refusal_number e)) room from o o' r

-- THE PROMISE OF `text`: the lines are those of the judgement of the bytes s over the program's lengths.
abbrev pub TextIs : List ℕ → ℕ → List ℕ → List ℕ → Piece → Type 0
TextIs s from o o' r = LinesAre (judged s program_lengths) from o o' r

-- Each value of the records b, the rows w and the answers g is a number of its type.
pub record InRange (b w g : List ℕ) : Type 0 where
  pub bytes : Bytes b
  pub rows : (i : ℕ) → get_or w i 0 < 4294967296
  pub answers : (i : ℕ) → get_or g i 0 < 4294967296

-- The buffers are those that `judge` left with this outcome, over the program's lengths.
abbrev pub PrintAsks : List ℕ → List ℕ → List ℕ → List ℕ → List ℕ → Outcome → Type 0
PrintAsks s b p rows answers o = JudgeIs s program_lengths b p rows answers o
