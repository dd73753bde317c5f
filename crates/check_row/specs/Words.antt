-- The words of the contracts over a store, its sorts, a sheet and the array of arguments as they are lent.
use Rattle.std.specs.Prelude.{ℕ}
use Rattle.record.specs.Sort.{Sorts as SortList}
use Rattle.record.specs.declared.span.Span.{Span}
use Rattle.store.specs.declared.Store.{Store}
use Rattle.store.specs.declared.entries.Sorts.{Sorts}
use Rattle.sheet.specs.declared.ReadSheet.{ReadSheet}
use Rattle.row_answer.specs.declared.arguments.Args.{Args}
use Rattle.check_operator.specs.Contract.{args_of}
use Rattle.check_row.specs.Bound.{bound_sorts, BindingsAsk, BodyAsks, BinderAsks}
use Rattle.check_row.specs.Indexed.{OneIndexAsks, CheckIndexedAsks, IndexingAsks}
use Rattle.check_row.specs.declared.indexed.Indices.{Indices}

---------------------------------------------------------------- sorts
-- Among the sorts of a store, those of pairs of the sheet, and those whose numbers are in the array.
abbrev pub bound_among : Sorts → ReadSheet → Span → SortList
bound_among s z pairs = bound_sorts s.records.now s.places.now s.count z pairs

abbrev pub args_among : Sorts → Args → SortList
args_among s a = args_of s.records.now s.places.now s.count a.bytes.now a.count

-- The sort of the first argument, by itself.
abbrev pub first_in : Store → Args → SortList
first_in s a = args_of s.records.now s.places.now s.count a.bytes.now 1

---------------------------------------------------------------- Binders
-- The sorts of pairs are to be looked at.
abbrev pub BindingsAsked : Sorts → ReadSheet → Span → Type 0
BindingsAsked s z pairs = BindingsAsk s.records.now s.places.now s.count z.bytes.now z.table.now pairs.at pairs.count

-- A Binder is to be checked over a body with a number, or over the first argument.
abbrev pub BodyAsked : Store → ReadSheet → Span → Args → ℕ → Type 0
BodyAsked s z pairs a body =
    BodyAsks s.records.now s.places.now s.index.now s.count s.used z.bytes.now z.table.now pairs.at pairs.count a.bytes.now body

abbrev pub BinderAsked : Store → ReadSheet → Span → Args → Type 0
BinderAsked s z pairs a =
    BinderAsks s.records.now s.places.now s.index.now s.count s.used z.bytes.now z.table.now pairs.at pairs.count a.bytes.now a.count

---------------------------------------------------------------- indexed operators
-- An indexed operator is to be checked with one index, with one or two, or with the index terms that the sheet names.
abbrev pub OneIndexAsked : Store → ℕ → ℕ → Type 0
OneIndexAsked s i k = OneIndexAsks s.records.now s.places.now s.index.now s.count s.used i k

abbrev pub CheckIndexedAsked : Store → Indices → ℕ → Type 0
CheckIndexedAsked s is k = CheckIndexedAsks s.records.now s.places.now s.index.now s.count s.used is k

abbrev pub IndexingAsked : Store → ReadSheet → Span → Args → Type 0
IndexingAsked s z l a =
    IndexingAsks s.records.now s.places.now s.index.now s.count s.used z.bytes.now z.starts.now l.at l.count a.bytes.now a.count
