-- The words of Table.antt over a store, the tables of names and a sheet as they are lent. Definitions only.
use Rattle.std.specs.Prelude.{ℕ, List}
use Rattle.reader.specs.declared.TermRecord.{TermRecord}
use Rattle.sheet.specs.declared.ReadSheet.{ReadSheet}
use Rattle.store.specs.declared.Store.{Store}
use Rattle.matching_tables.specs.declared.names.Names.{Names}
use Rattle.questions.specs.Words.{counts_of}
use Rattle.row_table.specs.Table.{BothAsk, BothAre, TurnAsks, TermRowsAre, RowsAsk, RowsAre}

-- Both rows of the record r of the term t.
abbrev pub BothAsked : Store → Names → ReadSheet → List ℕ → TermRecord → ℕ → Type 0
BothAsked s x d rows r t =
    BothAsk s.records.now s.places.now s.index.now s.count s.used x.params.now x.images.now x.bound.now d.bytes.now d.table.now d.starts.now rows r t

abbrev pub BothWritten : Store → Names → ReadSheet → List ℕ → TermRecord → ℕ → Store → Names → List ℕ → Type 0
BothWritten s x d rows r t s' x' rows' =
    BothAre s.records.now s.places.now s.count x.params.now x.images.now x.bound.now d.bytes.now d.table.now d.starts.now rows r t
    s'.records.now s'.places.now s'.index.now x'.params.now x'.images.now x'.bound.now rows' (counts_of s')

-- Both rows of the term t of a sheet.
abbrev pub TurnAsked : Store → Names → ReadSheet → List ℕ → ℕ → Type 0
TurnAsked s x d rows t =
    TurnAsks s.records.now s.places.now s.index.now s.count s.used x.params.now x.images.now x.bound.now d.bytes.now d.table.now d.sorts d.starts.now rows t

abbrev pub TurnWritten : Store → Names → ReadSheet → List ℕ → ℕ → Store → Names → List ℕ → Type 0
TurnWritten s x d rows t s' x' rows' =
    TermRowsAre s.records.now s.places.now s.count x.params.now x.images.now x.bound.now d.bytes.now d.table.now d.sorts d.starts.now rows t
    s'.records.now s'.places.now s'.index.now x'.params.now x'.images.now x'.bound.now rows' (counts_of s')

-- The rows of the first c terms.
abbrev pub RowsAsked : Store → Names → ReadSheet → ℕ → List ℕ → Type 0
RowsAsked s x d c rows =
    RowsAsk s.records.now s.places.now s.index.now s.count s.used x.params.now x.images.now x.bound.now d.bytes.now d.table.now d.sorts d.starts.now c rows

abbrev pub RowsWritten : Store → Names → ReadSheet → ℕ → List ℕ → Store → Names → List ℕ → Type 0
RowsWritten s x d c rows s' x' rows' =
    RowsAre s.records.now s.places.now s.count x.params.now x.images.now x.bound.now d.bytes.now d.table.now d.sorts d.starts.now c rows
    s'.records.now s'.places.now s'.index.now x'.params.now x'.images.now x'.bound.now rows' (counts_of s')
