-- A sort record (document 01, "Sort records and the store"): its fields, its bytes, and the sort it stands for.
use Rattle.std.specs.Prelude.{ℕ, ◌+◌, ◌/◌, ◌%◌, Bool, true, false, cond, List, [], ◌∷◌, ◌++◌, length, get_or, eqb}
use Rattle.record.specs.Number.{u16_bytes, u32_bytes, numbers_bytes}
use Rattle.record.specs.Sort.{Sort, Sorts, var, par, node, end, ◌then◌}

-- The fields of a sort record. One that the bit map leaves out is 0 or empty.
pub record Fields : Type 0 where
  pub kind : ℕ
  pub name : ℕ
  pub number : ℕ
  pub list : List ℕ
  pub names : List ℕ

-- Whether the bit of value w stands in the map m.
unfoldable pub bit : ℕ → ℕ → Bool
bit w m = eqb (m / w % 2) 1

-- The bit map of each kind of sort record, 0 Function to 15 Tuple.
unfoldable pub maps : List ℕ
maps = 17 ∷ 19 ∷ 3 ∷ 1 ∷ 1 ∷ 1 ∷ 1 ∷ 1 ∷ 17 ∷ 5 ∷ 1 ∷ 19 ∷ 81 ∷ 1 ∷ 17 ∷ 17 ∷ []

-- 0, which is no map, for an unknown kind.
unfoldable pub map_of : ℕ → ℕ
unfolding maps
map_of k = get_or maps k 0

-- How many sorts the list of each kind has at least, and at most: Array two, Par and Set one.
unfoldable pub leasts : List ℕ
leasts = 0 ∷ 0 ∷ 0 ∷ 0 ∷ 0 ∷ 0 ∷ 0 ∷ 0 ∷ 2 ∷ 0 ∷ 0 ∷ 0 ∷ 1 ∷ 0 ∷ 1 ∷ 0 ∷ []

unfoldable pub mosts : List ℕ
mosts = 64 ∷ 64 ∷ 0 ∷ 0 ∷ 0 ∷ 0 ∷ 0 ∷ 0 ∷ 2 ∷ 0 ∷ 0 ∷ 64 ∷ 1 ∷ 0 ∷ 1 ∷ 64 ∷ []

unfoldable pub least_of : ℕ → ℕ
unfolding leasts
least_of k = get_or leasts k 0

unfoldable pub most_of : ℕ → ℕ
unfolding mosts
most_of k = get_or mosts k 0

-- The bytes of a field, none where its bit does not stand.
abbrev pub name_bytes : Bool → ℕ → List ℕ
name_bytes true v = u16_bytes v
name_bytes false v = []

abbrev pub number_bytes : Bool → ℕ → List ℕ
number_bytes true v = u32_bytes v
number_bytes false v = []

abbrev pub list_bytes : Bool → List ℕ → List ℕ
list_bytes true vs = length vs ∷ numbers_bytes vs
list_bytes false vs = []

-- What stands behind the bit map of a record: its kind, then only the fields whose bit stands, lowest bit first.
abbrev pub behind_map : Fields → List ℕ
behind_map f =
    f.kind
    ∷ (name_bytes (bit 2 (map_of f.kind)) f.name
    ++ (number_bytes (bit 4 (map_of f.kind)) f.number
    ++ (list_bytes (bit 16 (map_of f.kind)) f.list
    ++ list_bytes (bit 64 (map_of f.kind)) f.names)))

-- THE BYTES OF A RECORD: the bit map of its kind, the kind and the fields.
unfoldable pub record_bytes : Fields → List ℕ
unfolding map_of bit numbers_bytes
record_bytes f = map_of f.kind ∷ behind_map f

-- THE BYTES OF A RECORD THAT CARRIES ITS TREE SIZE z (document 02, A.6): "in two bytes under bit 128, last among its fields".
unfoldable pub sized_bytes : ℕ → Fields → List ℕ
unfolding map_of bit numbers_bytes
sized_bytes z f = (map_of f.kind + 128) ∷ (behind_map f ++ u16_bytes z)

-- What stands for a sort that is not there; no reference of an accepted record needs it.
abbrev pub leaf : Sort
leaf = var 0

-- The sorts with these numbers.
unfoldable pub sorts_of : List Sort → List ℕ → Sorts
sorts_of ts [] = end
sorts_of ts (r ∷ rs) = get_or ts r leaf then sorts_of ts rs

-- THE SORT OF A RECORD whose references are numbers of the sorts ts.
unfoldable pub sort_of : List Sort → Fields → Sort
unfolding sorts_of
sort_of ts f =
    cond (eqb f.kind 2) (var f.name)
    (cond (eqb f.kind 12) (par f.names (get_or ts (get_or f.list 0 0) leaf))
    (node f.kind f.name f.number (sorts_of ts f.list)))
