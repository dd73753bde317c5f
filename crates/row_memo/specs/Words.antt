-- The words of Past.antt over a store, the tables of names, a sheet, the arguments of a term and the table of Apps as they are lent.
-- Definitions only.
use Rattle.std.specs.Prelude.{ℕ, ◌≡◌, Bool, List, Result}
use Rattle.reader.specs.declared.TermRecord.{TermRecord}
use Rattle.sheet.specs.declared.ReadSheet.{ReadSheet}
use Rattle.store.specs.declared.Store.{Store}
use Rattle.matching_tables.specs.declared.names.Names.{Names}
use Rattle.row_rules.specs.declared.Cause.{Cause}
use Rattle.row_answer.specs.declared.arguments.Args.{Args}
use Rattle.row_answer.specs.Answer.{answer}
use Rattle.row_parts.specs.Site.{SiteAsks, SiteIs}
use Rattle.row_slots.specs.declared.Look.{Look}
use Rattle.row_slots.specs.declared.Past.{Past as Table}
use Rattle.row_slots.specs.Slots.{LackAsks, LackIs}
use Rattle.row_application.specs.Words.{AppCrowdedIn}
use Rattle.row_memo.specs.Past.{column_verdict, PastOf, PastAsks, PastIs}

-- What who judges a term for a column may ask: a record whose parts are gathered, and that the note of its look-up, if it says so, says the
-- truth about the room for the inferred sort.
pub record JudgeAsked (s : Store) (x : Names) (d : ReadSheet) (r : TermRecord) (a : Args) (ws : Table) (q : Look) : Type 0 where
  pub site : SiteAsks s.records.now s.places.now s.index.now s.count s.used x.params.now x.images.now x.bound.now d.bytes.now d.table.now d.starts.now r a.bytes.now
  pub count : a.count ≡ r.list.count
  pub lack : LackAsks a.bytes.now a.count q
  pub crowded : (t : Bool) → LackIs ws.bytes.now a.bytes.now a.count q t → AppCrowdedIn t s a

-- THE ROW of the verdict of a column, with the tables as they were.
abbrev pub Judged : ℕ → Store → Names → ReadSheet → TermRecord → Args → Store → Names → Result ℕ Cause → Type 0
Judged column s x d r a t y q =
    SiteIs (column_verdict column) s.records.now s.places.now s.count x.params.now x.images.now x.bound.now d.bytes.now d.table.now d.starts.now r a.bytes.now
    t.records.now t.places.now t.index.now y.params.now y.images.now y.bound.now (answer t q)

---------------------------------------------------------------- the rows of a record
abbrev pub RowAsked : ℕ → Store → Names → ReadSheet → List ℕ → TermRecord → Args → Table → Type 0
RowAsked column s x d rows r a ws =
    PastAsks column s.records.now s.places.now s.index.now s.count s.used x.params.now x.images.now x.bound.now d.bytes.now d.table.now d.starts.now rows r a.bytes.now ws.bytes.now

abbrev pub RowIs : ℕ → Store → Names → ReadSheet → List ℕ → TermRecord → Store → Names → Result ℕ Cause → Table → Type 0
RowIs column s x d rows r t y q ws =
    PastIs column s.records.now s.places.now s.count x.params.now x.images.now x.bound.now d.bytes.now d.table.now d.starts.now rows r
    t.records.now t.places.now t.index.now y.params.now y.images.now y.bound.now (answer t q) ws.bytes.now

-- What the table says is true over the store.
abbrev pub PastTrue : Store → Table → Type 0
PastTrue s ws = PastOf s.records.now s.places.now s.count ws.bytes.now
