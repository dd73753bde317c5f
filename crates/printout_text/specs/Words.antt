-- The words of Text.antt over a judged sheet as it is lent. Definitions only.
use Rattle.verdicts.specs.Judge.{Outcome}
use Rattle.printout_text.specs.declared.judged.JudgedSheet.{JudgedSheet}
use Rattle.printout_text.specs.Text.{PrintAsks}

-- The sheet is what `judge` left with this outcome.
abbrev pub PrintAsked : JudgedSheet → Outcome → Type 0
PrintAsked s o = PrintAsks s.bytes.now s.entries.records.now s.entries.places.now s.rows.now s.answers.now o
