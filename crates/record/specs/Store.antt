-- The store (document 01, "Sort records and the store"; storage.rs): each distinct sort once, in first-made
-- order, parts first from left to right, as records back to back with their byte offsets beside them. Each record
-- carries the tree size of its sort (document 02, A.6).
use Rattle.std.specs.Prelude.{ℕ, suc, ◌+◌, ◌*◌, ◌-◌, Bool, true, false, cond, ◌&&◌, ◌||◌, List, [], ◌∷◌, ◌++◌, length, replicate, leb}
use Rattle.record.specs.Sort.{Sort, Sorts, var, par, node, end, ◌then◌, same, count, size}
use Rattle.record.specs.Record.{Fields, map_of, bit, sized_bytes}

-- Whether a sort is among those of a store.
unfoldable pub memb : Sort → List Sort → Bool
unfolding same
memb s [] = false
memb s (t ∷ ts) = same t s || memb s ts

-- A sort behind the others, unless it is among them: "keeps each distinct sort once" (Storage::add).
unfoldable pub add_once : List Sort → Sort → List Sort
unfolding memb
add_once st s = cond (memb s st) st (st ++ (s ∷ []))

-- THE STORE AFTER MAKING A SORT: its parts first, from left to right, then itself, each once.
unfoldable mutual
  unfolding add_once

  pub intern : Sort → List Sort → List Sort
  intern (var v) st = add_once st (var v)
  intern (par ns b) st = add_once (intern b st) (par ns b)
  intern (node k a w ss) st = add_once (intern_all ss st) (node k a w ss)

  pub intern_all : Sorts → List Sort → List Sort
  intern_all end st = st
  intern_all (s then ss) st = intern_all ss (intern s st)

-- The number of a sort in a store: how many stand before it.
unfoldable pub index_of : Sort → List Sort → ℕ
unfolding same
index_of s [] = 0
index_of s (t ∷ ts) = cond (same t s) 0 (suc (index_of s ts))

unfoldable pub indices_of : Sorts → List Sort → List ℕ
unfolding index_of
indices_of end st = []
indices_of (s then ss) st = index_of s st ∷ indices_of ss st

-- A sort as the fields of a record over the store numbers of its parts.
unfoldable pub fields_of : List Sort → Sort → Fields
unfolding indices_of
fields_of st (var v) = record { kind = 2; name = v; number = 0; list = []; names = [] }
fields_of st (par ns b) = record { kind = 12; name = 0; number = 0; list = index_of b st ∷ []; names = ns }
fields_of st (node k a w ss) = record { kind = k; name = a; number = w; list = indices_of ss st; names = [] }

-- The record of a sort of a store: "each store record now carries its tree size".
unfoldable pub record_of : List Sort → Sort → List ℕ
unfolding fields_of size sized_bytes
record_of st s = sized_bytes (size s) (fields_of st s)

-- The records of some sorts of a store, back to back, and their offsets from x on.
unfoldable pub records_of : List Sort → List Sort → List ℕ
unfolding record_of
records_of st [] = []
records_of st (s ∷ ss) = record_of st s ++ records_of st ss

unfoldable pub offsets_of : List Sort → ℕ → List Sort → List ℕ
unfolding record_of
offsets_of st x [] = []
offsets_of st x (s ∷ ss) = x ∷ offsets_of st (x + length (record_of st s)) ss

-- Values followed by zeros up to a lent length: "Unused entries are zero."
unfoldable pub padded : ℕ → List ℕ → List ℕ
padded n vs = vs ++ replicate (n - length vs) 0

-- THE TWO LENT BUFFERS OF A STORE, over their whole length.
unfoldable pub store_bytes : ℕ → List Sort → List ℕ
unfolding padded records_of
store_bytes n st = padded n (records_of st st)

unfoldable pub store_places : ℕ → List Sort → List ℕ
unfolding padded offsets_of
store_places n st = padded n (offsets_of st 0 st)

-- How many bytes the record of a sort takes, whatever the store: that is the length of `record_of`.
abbrev pub given : Bool → ℕ → ℕ
given true v = v
given false v = 0

unfoldable pub record_size : Sort → ℕ
unfolding map_of bit count
record_size (var v) = 6
record_size (par ns b) = 8 + 2 * length ns
record_size (node k a w ss) =
    4 + given (bit 2 (map_of k)) 2 + given (bit 4 (map_of k)) 4 + given (bit 16 (map_of k)) (1 + 2 * count ss)

unfoldable pub bytes_of : List Sort → ℕ
unfolding record_size
bytes_of [] = 0
bytes_of (s ∷ st) = record_size s + bytes_of st

-- ROOM for a store in the lent lengths: "It is full when a sort would be the 4,097th or wouldn't fit the lent
-- places or record bytes; only then can't it hold one." Interning only appends, so a store can hold an answer
-- exactly when there is room for the store after interning it.
unfoldable pub room : ℕ → ℕ → List Sort → Bool
unfolding bytes_of
room records places st = leb (bytes_of st) records && (leb (length st) places && leb (length st) 4096)
