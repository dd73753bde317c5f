-- The words of Print.antt over a judged sheet, the kinds of its questions and what is printed of it. Definitions only.
use Rattle.std.specs.Prelude.{ℕ, List}
use Rattle.printout.specs.declared.kinds.Totals.{Totals}
use Rattle.printout.specs.declared.whole.Printable.{Printable}
use Rattle.printout_text.specs.declared.judged.JudgedSheet.{JudgedSheet}
use Rattle.printout_text.specs.LeftLaws.{JudgeLeft}
use Rattle.printout_write.specs.Print.{LinesAsk, ShowAsks}

-- The sheet is what `judge` left of an accepted one, with the kinds of its questions.
abbrev pub SheetLeft : JudgedSheet → List ℕ → Totals → Type 0
SheetLeft s kinds t = JudgeLeft s.bytes.now s.entries.records.now s.entries.places.now s.rows.now kinds s.answers.now t

-- The longest line fits the buffer o too.
abbrev pub LinesAsked : JudgedSheet → List ℕ → Totals → List ℕ → Type 0
LinesAsked s kinds t o = LinesAsk s.bytes.now s.entries.records.now s.entries.places.now s.rows.now kinds s.answers.now t.terms t.questions o

-- The same of what is printed of the sheet with these bytes, with the number of one of its lines or of none behind the last.
abbrev pub ShowAsked : List ℕ → Printable → ℕ → Type 0
ShowAsked bytes s next =
    ShowAsks bytes s.entries.records.now s.entries.places.now s.rows.now s.kinds.now s.answers.now s.totals next
