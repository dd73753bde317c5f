-- The words of the contracts over a store that is lent: its sorts, and what finding, interning and undoing ask of it.
use Rattle.std.specs.Prelude.{ℕ, List, Result}
use Rattle.record.specs.Sort.{Sort}
use Rattle.record.specs.Decode.{store_of, sort_at}
use Rattle.store.specs.Contract.{FindAsks, FindHas, InternAsks, UndoAsks}
use Rattle.store.specs.declared.Store.{Store}

-- The sorts of a store, and the one with a number.
abbrev pub store_in : Store → List Sort
store_in s = store_of s.records.now s.places.now s.count

abbrev pub sort_in : Store → ℕ → Sort
sort_in s k = sort_at s.records.now s.places.now s.count k

-- The record r is to be found in the store s; f is what was found.
abbrev pub FindAsked : Store → List ℕ → Type 0
FindAsked s r = FindAsks s.records.now s.places.now s.index.now r

abbrev pub Found : Store → List ℕ → Result ℕ ℕ → Type 0
Found s r f = FindHas s.records.now s.places.now s.index.now r f

-- The record r, of the tree size w, is to be interned.
abbrev pub InternAsked : Store → List ℕ → ℕ → Type 0
InternAsked s r w = InternAsks s.records.now s.places.now s.index.now s.count s.used r w

-- The store is to be what it was when it had n sorts.
abbrev pub UndoAsked : Store → ℕ → Type 0
UndoAsked s n = UndoAsks s.records.now s.places.now s.index.now s.count s.used n
