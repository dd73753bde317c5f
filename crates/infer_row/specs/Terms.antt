-- What the functions on a record by its kind ask of their callers, and what they promise.
use Rattle.std.specs.Prelude.{ℕ, ◌≤◌, ◌<◌, ◌≡◌, List, Result}
use Rattle.record.specs.Decode.{store_of}
use Rattle.record.specs.Kinds.{term_number}
use Rattle.reader.specs.declared.TermRecord.{TermRecord}
use Rattle.sheet.specs.Sheet.{Binding}
use Rattle.sheet.specs.declared.ReadSheet.{ReadSheet}
use Rattle.store.specs.declared.Store.{Store}
use Rattle.matching_tables.specs.declared.names.Names.{Names}
use Rattle.row_rules.specs.declared.Cause.{Cause}
use Rattle.infer_rules.specs.Inferred.{inferred}
use Rattle.row_answer.specs.declared.arguments.Args.{Args}
use Rattle.row_answer.specs.Answer.{Answered, answer}
use Rattle.row_answer.specs.Arguments.{ConstantsAsk}
use Rattle.row_parts.specs.Site.{site_over, bindings_over, SiteAsks, SiteIs}
use Rattle.row_parts.specs.SiteLaws.{OwnIs, Bound}
use Rattle.infer_operator.specs.Asks.{ArgumentsAsk}

-- The bindings of a Binder over the store.
abbrev pub bindings : Store → ReadSheet → TermRecord → List Binding
bindings s z r = bindings_over (store_of s.records.now s.places.now s.count) z.table.now z.bytes.now r

-- A constant, or a record with an own sort that the store has.
pub data PlainTerm (b p : List ℕ) (n : ℕ) (tbl : List ℕ) (r : TermRecord) : Type 0 where
  constant : term_number r.kind < 5 → PlainTerm b p n tbl r
  variable : term_number r.kind ≡ 5 → OwnIs b p n tbl r → PlainTerm b p n tbl r
  qualified : term_number r.kind ≡ 12 → OwnIs b p n tbl r → PlainTerm b p n tbl r

abbrev pub PlainTermAsks : Store → ReadSheet → TermRecord → Type 0
PlainTermAsks s z r = PlainTerm s.records.now s.places.now s.count z.table.now r

-- Its verdict, whatever the sheet's bytes, the places of terms, and the arguments.
abbrev pub PlainTermIs : Store → ReadSheet → TermRecord → Store → Result ℕ Cause → Type 0
PlainTermIs s z r t q =
    (bytes xs a : List ℕ) → Answered s (inferred (site_over (store_of s.records.now s.places.now s.count) bytes z.table.now xs a r)) t q

-- A Binder's body among the arguments, and its pairs.
pub record BoundAsks (s : Store) (z : ReadSheet) (r : TermRecord) (a : Args) : Type 0 where
  pub args : ArgumentsAsk s a
  pub body : 0 < a.count
  pub pairs : Bound s.count z.bytes.now z.table.now r

-- The arguments of a record of a kind from 7 to 11, and what its kind has besides.
pub record InferComposedAsks (s : Store) (z : ReadSheet) (r : TermRecord) (a : Args) : Type 0 where
  pub args : ArgumentsAsk s a
  pub count : a.count ≡ r.list.count
  pub low : 7 ≤ term_number r.kind
  pub high : term_number r.kind ≤ 11
  pub terms : ConstantsAsk z.bytes.now z.starts.now r.list.at r.list.count
  pub body : term_number r.kind ≡ 8 → 0 < r.list.count
  pub pairs : Bound s.count z.bytes.now z.table.now r
  pub indices : term_number r.kind ≡ 11 → ConstantsAsk z.bytes.now z.starts.now r.second.at r.second.count

-- The verdict on the record with these arguments.
abbrev pub ComposedIs : Store → ReadSheet → TermRecord → Args → Store → Result ℕ Cause → Type 0
ComposedIs s z r a t q =
    Answered s (inferred (site_over (store_of s.records.now s.places.now s.count) z.bytes.now z.table.now z.starts.now a.bytes.now r)) t q

-- A record of the sheet, as many arguments as it names, and tables of names; its verdict, with the tables as they were.
pub record InferAsks (s : Store) (names : Names) (z : ReadSheet) (r : TermRecord) (a : Args) : Type 0 where
  pub site : SiteAsks s.records.now s.places.now s.index.now s.count s.used names.params.now names.images.now names.bound.now z.bytes.now z.table.now z.starts.now r a.bytes.now
  pub count : a.count ≡ r.list.count

abbrev pub InferIs : Store → Names → ReadSheet → TermRecord → Args → Store → Names → Result ℕ Cause → Type 0
InferIs s names z r a t names' q =
    SiteIs inferred s.records.now s.places.now s.count names.params.now names.images.now names.bound.now z.bytes.now z.table.now z.starts.now r a.bytes.now
    t.records.now t.places.now t.index.now names'.params.now names'.images.now names'.bound.now (answer t q)
