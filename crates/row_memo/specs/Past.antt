-- What the table of Apps says is true, and what both rows of a record ask and promise over such a table. Definitions only.
use Rattle.std.specs.Prelude.{ℕ, zero, suc, ◌<◌, ◌≡◌, List, length, get_or}
use Rattle.record.specs.Sort.{Sort, Sorts}
use Rattle.record.specs.Record.{sorts_of}
use Rattle.record.specs.Decode.{store_of}
use Rattle.reader.specs.declared.TermRecord.{TermRecord}
use Rattle.sheet.specs.Sheet.{Lengths}
use Rattle.row_rules.specs.Verdict.{Verdict}
use Rattle.row_rules.specs.Term.{Site}
use Rattle.row_rules.specs.Outcome.{outcome}
use Rattle.infer_rules.specs.Inferred.{inferred, inferred_app}
use Rattle.check_rules.specs.Ranks.{smt_lib}
use Rattle.check_rules.specs.Checked.{checked, checked_app}
use Rattle.row_answer.specs.Answer.{Answer}
use Rattle.row_parts.specs.Site.{TermAsks, TermIs}
use Rattle.row_slots.specs.Slots.{column_of, PastSays}

---------------------------------------------------------------- the two columns
-- The verdict of a column of the rows: 0 the inferred one, 1 the checked one.
unfoldable pub column_verdict : ℕ → Site → Verdict
column_verdict zero = inferred
column_verdict (suc c) = checked smt_lib

-- The same of an App, by the sorts of its head and its arguments.
unfoldable pub judging_app : ℕ → Sorts → Verdict
judging_app zero = inferred_app
judging_app (suc c) = checked_app

---------------------------------------------------------------- the table
-- The truth about an App of the terms with these numbers, by a verdict f on Apps, over the sorts st in buffers of the lengths lb
-- and lp: its row has the code c, and nothing is added to the store.
pub record AppTold (f : Sorts → Verdict) (lb lp : ℕ) (st : List Sort) (key : List ℕ) (c : ℕ) : Type 0 where
  pub below : (j : ℕ) → j < length key → get_or key j 0 < length st
  pub is : (l : Lengths) → l.records ≡ lb → l.places ≡ lp → outcome l st (f (sorts_of st key)) ≡ record { store = st; code = c }

-- WHAT THE TABLE SAYS IS TRUE, of each slot by the verdict of its column.
pub record Past (lb lp : ℕ) (st : List Sort) (ws : List ℕ) : Type 0 where
  pub each : (slot : ℕ) (key : List ℕ) (c : ℕ) → PastSays ws slot key c → AppTold (judging_app (column_of slot)) lb lp st key c

-- The same over the store of n sorts in b p.
abbrev pub PastOf : List ℕ → List ℕ → ℕ → List ℕ → Type 0
PastOf b p n ws = Past (length b) (length p) (store_of b p n) ws

---------------------------------------------------------------- the rows of a record
-- What a row asks, and a table that says the truth.
pub record PastAsks (column : ℕ) (b p ix : List ℕ) (n u : ℕ) (prm imgs bnd s tbl xs rows : List ℕ) (r : TermRecord) (a ws : List ℕ) : Type 0 where
  pub asks : TermAsks b p ix n u prm imgs bnd s tbl xs rows r a
  pub past : PastOf b p n ws

-- THE ROW IN A COLUMN, and a table that says the truth over the store after it.
pub record PastIs (column : ℕ) (b p : List ℕ) (n : ℕ) (prm imgs bnd s tbl xs rows : List ℕ) (r : TermRecord) (b' p' ix' prm' imgs' bnd' : List ℕ) (q : Answer) (ws' : List ℕ) : Type 0 where
  pub row : TermIs (column_verdict column) column b p n prm imgs bnd s tbl xs rows r b' p' ix' prm' imgs' bnd' q
  pub past : PastOf b' p' q.count ws'
