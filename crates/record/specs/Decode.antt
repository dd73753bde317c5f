-- How the lent buffers of a store are read back: the fields that the bytes at a place stand for, the sorts of a
-- store of n records, and when records and stores are well formed. `Store.antt` has the other direction.
use Rattle.std.specs.Prelude.{ℕ, zero, suc, ◌+◌, ◌*◌, ◌%◌, ◌<◌, ◌≤◌, ◌≡◌, Bool, true, false, List, [], ◌∷◌, ◌++◌, length, get_or, take, drop}
use Rattle.record.specs.Names.{distinct}
use Rattle.record.specs.Number.{u16_at, u32_at, numbers_at}
use Rattle.record.specs.Sort.{Sort, size}
use Rattle.record.specs.Record.{Fields, map_of, bit, least_of, most_of, behind_map, record_bytes, sized_bytes, leaf, sort_of}
use Rattle.record.specs.Store.{given, bytes_of}

-- A list field at x, if its bit stands, and how many bytes it takes.
abbrev pub list_of : Bool → List ℕ → ℕ → List ℕ
list_of true b x = numbers_at b (x + 1) (get_or b x 0)
list_of false b x = []

abbrev pub list_width : Bool → List ℕ → ℕ → ℕ
list_width true b x = 1 + 2 * get_or b x 0
list_width false b x = 0

-- Where the fields of a record with the map m at x start, and where it ends.
abbrev pub number_place : ℕ → ℕ → ℕ
number_place m x = x + 2 + given (bit 2 m) 2

abbrev pub list_place : ℕ → ℕ → ℕ
list_place m x = number_place m x + given (bit 4 m) 4

abbrev pub names_place : ℕ → List ℕ → ℕ → ℕ
names_place m b x = list_place m x + list_width (bit 16 m) b (list_place m x)

abbrev pub end_place : ℕ → List ℕ → ℕ → ℕ
end_place m b x = names_place m b x + list_width (bit 64 m) b (names_place m b x)

-- Fields by their values.
abbrev pub fields : ℕ → ℕ → ℕ → List ℕ → List ℕ → Fields
fields k a w l ns = record { kind = k; name = a; number = w; list = l; names = ns }

-- THE FIELDS OF THE RECORD AT A PLACE, by the map m that stands there.
unfoldable pub fields_by : ℕ → List ℕ → ℕ → Fields
fields_by m b x =
    record {
      kind = get_or b (x + 1) 0;
      name = given (bit 2 m) (u16_at b (x + 2));
      number = given (bit 4 m) (u32_at b (number_place m x));
      list = list_of (bit 16 m) b (list_place m x);
      names = list_of (bit 64 m) b (names_place m b x);
    }

unfoldable pub fields_at : List ℕ → ℕ → Fields
unfolding fields_by
fields_at b x = fields_by (get_or b x 0) b x

-- THE SIZE THAT THE RECORD AT A PLACE CARRIES, behind its other fields; 0 where bit 128 does not stand.
unfoldable pub size_at : List ℕ → ℕ → ℕ
size_at b x = given (bit 128 (get_or b x 0)) (u16_at b (end_place (get_or b x 0) b x))

-- Fields with none that the map of the kind leaves out.
pub record ProperFields (f : Fields) : Type 0 where
  pub no_name : bit 2 (map_of f.kind) ≡ false → f.name ≡ 0
  pub no_number : bit 4 (map_of f.kind) ≡ false → f.number ≡ 0
  pub no_list : bit 16 (map_of f.kind) ≡ false → f.list ≡ []
  pub no_names : bit 64 (map_of f.kind) ≡ false → f.names ≡ []

-- Fields of a sort record of document 01: a known kind, ranges, list lengths, distinct names.
pub record Shape (f : Fields) : Type 0 where
  pub known : f.kind < 16
  pub proper : ProperFields f
  pub name : f.name < 65536
  pub number : f.number < 65536
  pub least : least_of f.kind ≤ length f.list
  pub most : length f.list ≤ most_of f.kind
  pub some : f.kind ≡ 12 → 1 ≤ length f.names
  pub few : length f.names ≤ 64
  pub once : distinct f.names ≡ true

-- Its references are to sorts below n.
abbrev pub Below : Fields → ℕ → Type 0
Below f n = (j : ℕ) → j < length f.list → get_or f.list j 0 < n

-- The bytes s stand in b from x on.
unfoldable pub Stands : List ℕ → List ℕ → ℕ → Type 0
Stands [] b x = Unit {0}
Stands (a ∷ s) b x = (a ≡ get_or b x 0) × Stands s b (x + 1)

-- The bit map m is that of the kind k, with bit 128 or without it.
abbrev pub MapOf : ℕ → ℕ → Type 0
MapOf m k = m % 128 ≡ map_of k

-- The record of f lies at x, up to a size that it may carry, and its references are below n.
pub record Lies (f : Fields) (b : List ℕ) (x n : ℕ) : Type 0 where
  pub within : x + length (record_bytes f) ≤ length b
  pub map : MapOf (get_or b x 0) f.kind
  pub stands : Stands (behind_map f) b (x + 1)
  pub shape : Shape f
  pub below : Below f n

-- A record lies at x.
abbrev pub Held : List ℕ → ℕ → ℕ → Type 0
Held b x n = Lies (fields_at b x) b x n

-- Bytes that are one whole record without a size, to be appended to a store of n sorts.
pub record Fresh (r : List ℕ) (n : ℕ) : Type 0 where
  pub whole : record_bytes (fields_at r 0) ≡ r
  pub shape : Shape (fields_at r 0)
  pub below : Below (fields_at r 0) n

-- THE SORTS OF A STORE of n records, each made over those before it.
unfoldable pub store_of : List ℕ → List ℕ → ℕ → List Sort
unfolding sort_of fields_at
store_of b p zero = []
store_of b p (suc n) = store_of b p n ++ (sort_of (store_of b p n) (fields_at b (get_or p n 0)) ∷ [])

-- The sort with the number k of a store of n sorts.
unfoldable pub sort_at : List ℕ → List ℕ → ℕ → ℕ → Sort
unfolding store_of
sort_at b p n k = get_or (store_of b p n) k leaf

-- A store of n sorts is well formed: what walks over it need.
pub record Stored (b p : List ℕ) (n : ℕ) : Type 0 where
  pub placed : n ≤ length p
  pub each : (k : ℕ) → k < n → Held b (get_or p k 0) k

-- No two records of the first n have the same fields.
unfoldable pub Distinct : List ℕ → List ℕ → ℕ → Type 0
Distinct b p n = (i j : ℕ) → i < n → j < n → fields_at b (get_or p i 0) ≡ fields_at b (get_or p j 0) → i ≡ j

-- The records of the first n sorts lie, with their sizes, in the first u bytes.
pub record Packed (b p : List ℕ) (n u : ℕ) : Type 0 where
  pub used : u ≤ length b
  pub each : (k : ℕ) → k < n → get_or p k 0 + (length (record_bytes (fields_at b (get_or p k 0))) + 2) ≤ u

-- The record at x stands whole, with the tree size of the sort t.
pub record Carries (b : List ℕ) (x : ℕ) (t : Sort) : Type 0 where
  pub within : x + (length (record_bytes (fields_at b x)) + 2) ≤ length b
  pub stands : Stands (sized_bytes (size t) (fields_at b x)) b x

-- THE SIZES OF A STORE of n sorts: each record carries the tree size of its sort, none over document 01's limit.
pub record Sized (b p : List ℕ) (n : ℕ) : Type 0 where
  pub each : (k : ℕ) → k < n → Carries b (get_or p k 0) (sort_at b p n k)
  pub small : (k : ℕ) → k < n → size (sort_at b p n k) ≤ 4096

-- They lie back to back from 0 on: each place is how many bytes the sorts before it take.
unfoldable pub Running : List ℕ → List ℕ → ℕ → Type 0
Running b p n = (k : ℕ) → k < n → get_or p k 0 ≡ bytes_of (store_of b p k)

-- The list is zero from n on; what lies past its end counts as 0.
abbrev pub Zeros : List ℕ → ℕ → Type 0
Zeros l n = (i : ℕ) → n ≤ i → get_or l i 0 ≡ 0

-- b with r written from u on.
unfoldable pub written : List ℕ → ℕ → List ℕ → List ℕ
written b u r = take u b ++ r ++ drop (u + length r) b
