-- What becomes of a store that is lent: the words of `Contract.antt` over whole stores.
use Rattle.std.specs.Prelude.{ℕ, ◌≡◌, List, Result}
use Rattle.store.specs.Contract.{InternedIs, UndoIs}
use Rattle.store.specs.declared.Full.{Full}
use Rattle.store.specs.declared.Store.{Store}

-- t is in the buffers in which s was.
abbrev pub Same : Store → Store → Type 0
Same s t = (t.records.ghost_name ≡ s.records.ghost_name) × (t.places.ghost_name ≡ s.places.ghost_name) × (t.index.ghost_name ≡ s.index.ghost_name)

-- t is the store s after interning the record r.
abbrev pub Interned : Store → List ℕ → Store → Result ℕ Full → Type 0
Interned s r t k = InternedIs s.records.now s.places.now s.index.now s.count s.used r t.records.now t.places.now t.index.now t.count t.used k

-- t is the store that s was when it had n sorts.
abbrev pub Undone : Store → ℕ → Store → Type 0
Undone s n t = UndoIs s.records.now s.places.now s.count t.records.now t.places.now t.index.now n t.used × (t.count ≡ n)
