-- The words of PageText.antt over a judged sheet as it is lent. Definitions only.
use Rattle.std.specs.Prelude.{ℕ, List}
use Rattle.verdicts.specs.Judge.{Outcome}
use Rattle.printout_text.specs.declared.judged.JudgedSheet.{JudgedSheet}
use Rattle.page_text.specs.PageText.{PagesAsk, PageSizesAsk, PageSizesAre}

-- The sheet is what `judge` left with this outcome.
abbrev pub PagesAsked : JudgedSheet → Outcome → Type 0
PagesAsked s o = PagesAsk s.bytes.now s.entries.records.now s.entries.places.now s.rows.now s.answers.now o

-- The sizes of its texts have room in the table z; and they stand there, of its t terms.
abbrev pub PageSizesAsked : JudgedSheet → List ℕ → Type 0
PageSizesAsked s z = PageSizesAsk s.bytes.now s.entries.records.now s.entries.places.now s.rows.now s.answers.now z

abbrev pub PageSized : JudgedSheet → List ℕ → ℕ → Type 0
PageSized s z t = PageSizesAre s.bytes.now s.entries.records.now s.entries.places.now s.rows.now z t
