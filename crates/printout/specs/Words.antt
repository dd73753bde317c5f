-- The words of Whole.antt over what is printed of a judged sheet and the buffer that is written. Definitions only.
use Rattle.std.specs.Prelude.{ℕ, List, Result}
use Rattle.printout_sort.specs.declared.buffer.TextBuffer.{TextBuffer}
use Rattle.printout.specs.declared.NoRoom.{NoRoom}
use Rattle.printout.specs.declared.whole.Printable.{Printable}
use Rattle.printout.specs.declared.whole.Piece.{Piece}
use Rattle.printout.specs.LineAsks.{shown}
use Rattle.printout.specs.Whole.{LineAsks, LineHas, PieceAsks, PieceHas}

-- The line with the number k of the sheet s can be shown; and the call that left r showed it behind what the buffer held.
abbrev pub LineAsked : Printable → ℕ → Type 0
LineAsked s k = LineAsks s.entries.records.now s.entries.places.now s.rows.now s.kinds.now s.answers.now s.totals.terms s.totals.questions k

abbrev pub LineShown : Printable → ℕ → TextBuffer → TextBuffer → Result (Unit {0}) NoRoom → Type 0
LineShown s k o o' r = LineHas s.entries.records.now s.entries.places.now s.rows.now s.kinds.now s.answers.now s.totals.terms s.totals.questions k o.bytes.now o.end o'.bytes.now (shown o'.end r)

-- The lines from the number `from` on can be shown; and they are shown up to r.
abbrev pub PieceAsked : Printable → ℕ → Type 0
PieceAsked s from = PieceAsks s.entries.records.now s.entries.places.now s.rows.now s.kinds.now s.answers.now s.totals.terms s.totals.questions from

abbrev pub PieceShown : Printable → ℕ → List ℕ → List ℕ → Piece → Type 0
PieceShown s from o o' r = PieceHas s.entries.records.now s.entries.places.now s.rows.now s.kinds.now s.answers.now s.totals.terms s.totals.questions from o o' r
