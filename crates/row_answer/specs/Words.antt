-- The words of the contracts over a store, a sheet and the numbers of sorts in an array as they are lent.
use Rattle.std.specs.Prelude.{ℕ, ◌<◌, ◌≡◌, Bool, true, List, Result, Option as Maybe, Some, None}
use Rattle.std.proofs.Math.Option.{Option}
use Rattle.record.specs.Number.{numbers_at}
use Rattle.record.specs.Sort.{Sorts, end, node, set}
use Rattle.record.specs.Record.{sort_of, sorts_of}
use Rattle.record.specs.Decode.{fields_at}
use Rattle.record.specs.declared.span.Span.{Span}
use Rattle.store.specs.declared.Store.{Store}
use Rattle.store.specs.Words.{store_in, sort_in}
use Rattle.sheet.specs.declared.ReadSheet.{ReadSheet}
use Rattle.row_rules.specs.declared.Cause.{Cause}
use Rattle.row_answer.specs.declared.arguments.Args.{Args}
use Rattle.row_answer.specs.Answer.{answer}
use Rattle.row_answer.specs.Asks.{MakeAsks, LeafAsks, VariableAsks, StoredListAsks, ListedAsks, RemainingAsks, SetOverAsks, OverIs}
use Rattle.row_answer.specs.Arguments.{LambdaAsks, bound_numbers, constants_in}

---------------------------------------------------------------- sorts
-- The sorts whose numbers are in the array.
abbrev pub args_in : Store → Args → Sorts
args_in s a = sorts_of (store_in s) (numbers_at a.bytes.now 3 a.count)

-- Those that the store's own bytes name in a list.
abbrev pub parts_in : Store → Span → Sorts
parts_in s l = sorts_of (store_in s) (numbers_at s.records.now l.at l.count)

-- Those of pairs of the sheet.
abbrev pub bound_in : Store → ReadSheet → Span → Sorts
bound_in s z pairs = sorts_of (store_in s) (bound_numbers z.table.now z.bytes.now pairs.at pairs.count)

-- The integer constants among the terms that the sheet names in a list.
abbrev pub constants : ReadSheet → Span → List (Option ℕ)
constants z l = constants_in z.bytes.now z.starts.now l.at l.count

---------------------------------------------------------------- what is asked
-- The sort of the record r is to be made.
abbrev pub MakeAsked : Store → List ℕ → Type 0
MakeAsked s r = MakeAsks s.records.now s.places.now s.index.now s.count s.used r

-- Where the answer is yes, the number is that of the record's sort; or that of the kind's. Where a number is given, `near` is the Set of its sort.
abbrev pub NearIs : Store → List ℕ → ℕ → Bool → Type 0
NearIs s r near t = t ≡ true → (near < s.count) × (sort_in s near ≡ sort_of (store_in s) (fields_at r 0))

abbrev pub LeafIs : Store → ℕ → ℕ → Bool → Type 0
LeafIs s kind near t = t ≡ true → (near < s.count) × (sort_in s near ≡ node kind 0 0 end)

abbrev pub PartIs : Store → ℕ → Maybe ℕ → Type 0
PartIs s near None = Unit {0}
PartIs s near (Some k) = (near < s.count) × (sort_in s near ≡ set (sort_in s k))

-- The sort of a kind without fields, a variable.
abbrev pub LeafAsked : Store → ℕ → Type 0
LeafAsked s kind = LeafAsks s.records.now s.places.now s.index.now s.count s.used kind

abbrev pub VariableAsked : Store → ℕ → Type 0
VariableAsked s name = VariableAsks s.records.now s.places.now s.index.now s.count s.used name

-- A sort that was made last over n sorts.
abbrev pub SetOverAsked : Store → ℕ → ℕ → Type 0
SetOverAsked s k n = SetOverAsks s.records.now s.places.now s.index.now s.count s.used k n

-- The sorts in the array are to be the columns of a relation, or the list of a sort of a kind.
abbrev pub StoredListAsked : Store → Args → Type 0
StoredListAsked s a = StoredListAsks s.records.now s.places.now s.index.now s.count s.used a.bytes.now a.count

abbrev pub ListedAsked : Store → ℕ → Args → Type 0
ListedAsked s kind a = ListedAsks s.records.now s.places.now s.index.now s.count s.used kind a.bytes.now a.count

-- The sorts that the store names in a list are to be put together in the array, or those of pairs and a body.
abbrev pub RemainingAsked : Store → Args → Span → Type 0
RemainingAsked s a l = RemainingAsks s.records.now s.places.now s.index.now s.count s.used a.bytes.now l.at l.count

abbrev pub LambdaAsked : Store → ReadSheet → Span → Args → ℕ → Type 0
LambdaAsked s z pairs a body =
    LambdaAsks s.records.now s.places.now s.index.now s.count s.used z.bytes.now pairs.at pairs.count z.table.now a.bytes.now body

---------------------------------------------------------------- what is answered
-- The Set of the sort k that was made last over a store of n sorts, whatever store that was.
abbrev pub SetOver : Store → ℕ → ℕ → Store → Result ℕ Cause → Type 0
SetOver s k n t r =
    (u : ℕ) → OverIs s.records.now s.places.now s.count k n u t.records.now t.places.now t.index.now (answer t r)
