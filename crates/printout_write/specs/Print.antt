-- What writing the lines of a judged sheet asks.
use Rattle.std.specs.Prelude.{ℕ, ◌+◌, ◌≤◌, List, length}
use Rattle.printout.specs.declared.kinds.Totals.{Totals}
use Rattle.printout.specs.Lines.{line_room}
use Rattle.printout_text.specs.Text.{InRange}
use Rattle.printout_text.specs.LeftLaws.{JudgeLeft}

-- The buffers are what `judge` left of the accepted sheet s, with the kinds of its questions, and the longest line fits the buffer o.
pub record LinesAsk (s b p rows kinds answers : List ℕ) (t q : ℕ) (o : List ℕ) : Type 0 where
  pub left : JudgeLeft s b p rows kinds answers (record { terms = t; questions = q })
  pub room : line_room ≤ length o

-- The buffers are what `judge` left of the accepted sheet s, and `next` is the number of one of its lines or of none behind the last.
pub record ShowAsks (s b p rows kinds answers : List ℕ) (t : Totals) (next : ℕ) : Type 0 where
  pub left : JudgeLeft s b p rows kinds answers t
  pub ranges : InRange b rows answers
  pub number : next ≤ t.terms + t.questions
