-- Reading a term record again, without the tests: what it asks, and what it gives.
use Rattle.std.specs.Prelude.{◌≡◌, ℕ, List}
use Rattle.reader.specs.declared.Cursor.{Cursor}
use Rattle.reader.specs.declared.TermRecord.{TermRecord}
use Rattle.reader.specs.Reader.{gave, read_term}

-- The term record at x was read before: it is that with the number t on a sheet of `sorts` sorts.
pub record ReadBefore (s : List ℕ) (x : ℕ) : Type 0 where
  pub sorts : ℕ
  pub t : ℕ
  pub fields : TermRecord
  pub next : Cursor
  pub read : read_term s sorts t x ≡ gave fields next

-- WHATEVER READING GAVE at x, r is it.
abbrev pub ReadAgain : List ℕ → ℕ → TermRecord → Type 0
ReadAgain s x r = (sorts t : ℕ) (fields : TermRecord) (next : Cursor) → read_term s sorts t x ≡ gave fields next → r ≡ fields
