-- The words of the contracts over a store that is lent where a sheet is read: s before, t afterwards.
use Rattle.std.specs.Prelude.{ℕ, ◌≡◌, List, Option, Result}
use Rattle.reader.specs.declared.Cursor.{Cursor}
use Rattle.reader.specs.declared.Refusal.{Refusal}
use Rattle.store.specs.declared.Store.{Store}
use Rattle.sheet.specs.Contract.{AddSortAsks, AddSortIs, NextSortAsks, NextSortIs, ReadSortsAsks, ReadSortsIs, ReadRecordsAsks, ReadRecordsIs}
use Rattle.sheet.specs.declared.Header.{Header}
use Rattle.sheet.specs.declared.SheetCounts.{SheetCounts}
use Rattle.sheet.specs.declared.tables.SheetTables.{SheetTables}

-- The sort of the record r, number i of its sheet, is to be added; it was, or was refused. w is what its record says of its size.
abbrev pub AddAsked : Store → List ℕ → List ℕ → ℕ → Type 0
AddAsked s r tbl i = AddSortAsks s.records.now s.places.now s.index.now s.count s.used r tbl i

abbrev pub Added : Store → List ℕ → Option ℕ → List ℕ → ℕ → Store → List ℕ → Result (Unit {0}) Refusal → Type 0
Added s r w tbl i t tbl' q = AddSortIs s.records.now s.places.now s.count r w tbl i t.records.now t.places.now t.index.now tbl' t.count t.used q

-- The sort record i, at x of the sheet z, is to be read; it was, or was refused.
abbrev pub NextAsked : Store → List ℕ → List ℕ → ℕ → Type 0
NextAsked s tbl rec i = NextSortAsks s.records.now s.places.now s.index.now tbl rec i s.count s.used

abbrev pub NextRead : List ℕ → Store → List ℕ → ℕ → ℕ → Store → List ℕ → List ℕ → Result Cursor Refusal → Type 0
NextRead z s tbl i x t tbl' rec' q =
    NextSortIs z s.records.now s.places.now tbl i x s.count t.records.now t.places.now t.index.now tbl' rec' t.count t.used q

-- The first m sort records of the sheet z are to be read; they were, or one was refused.
abbrev pub SortsAsked : List ℕ → Store → List ℕ → List ℕ → ℕ → Type 0
SortsAsked z s tbl rec m = ReadSortsAsks z s.records.now s.places.now s.index.now tbl rec m s.count s.used

abbrev pub AllSortsRead : List ℕ → Store → ℕ → Store → List ℕ → List ℕ → Result Cursor Refusal → Type 0
AllSortsRead z s m t tbl' rec' q =
    ReadSortsIs z s.records.now s.places.now m t.records.now t.places.now t.index.now tbl' rec' t.count t.used q

-- w are the tables that v was.
abbrev pub SameTables : SheetTables → SheetTables → Type 0
SameTables v w =
    (w.table.ghost_name ≡ v.table.ghost_name) × (w.terms.ghost_name ≡ v.terms.ghost_name) × (w.questions.ghost_name ≡ v.questions.ghost_name)
    × (w.scratch.ghost_name ≡ v.scratch.ghost_name)

-- All records of the sheet z are to be read, the places of its terms and questions into xs and ys; they were, or one was refused.
abbrev pub RecordsAsked : List ℕ → Store → List ℕ → List ℕ → List ℕ → List ℕ → Header → Type 0
RecordsAsked z s tbl xs ys rec h = ReadRecordsAsks z s.records.now s.places.now s.index.now s.count s.used tbl xs ys rec h

abbrev pub AllRecordsRead : List ℕ → Store → Header → Store → List ℕ → List ℕ → List ℕ → Result SheetCounts Refusal → Type 0
AllRecordsRead z s h t tbl' xs' ys' q =
    ReadRecordsIs z s.records.now s.places.now h t.records.now t.places.now t.index.now tbl' xs' ys' q
