-- The sorts of a store by their numbers alone, what printing them asks and gives, and how much room their texts need.
use Rattle.std.specs.Prelude.{ℕ, suc, ◌+◌, ◌*◌, ◌≤◌, ◌<◌, ◌≡◌, List, [], ◌∷◌, length, get_or}
use Rattle.record.specs.Number.{u16_at, numbers_at}
use Rattle.record.specs.Sort.{Sort, Sorts, end, ◌then◌, size, sizes}
use Rattle.record.specs.Decode.{sort_at, Stored}
use Rattle.record.specs.declared.SortRecord.{SortRecord}
use Rattle.printout_sort.specs.Pieces.{inners, inner_text}

-- The sort k of a store: the first k + 1 records make it, however many there are.
unfoldable pub tree_at : List ℕ → List ℕ → ℕ → Sort
unfolding sort_at
tree_at b p k = sort_at b p (suc k) k

-- The sorts with these numbers.
unfoldable pub trees_at : List ℕ → List ℕ → List ℕ → Sorts
unfolding tree_at
trees_at b p [] = end
trees_at b p (r ∷ rs) = tree_at b p r then trees_at b p rs

-- A sort k whose records are well formed, of a tree size within document 01's limit.
pub record TextAsks (b p : List ℕ) (k : ℕ) : Type 0 where
  pub stored : Stored b p (suc k)
  pub small : size (tree_at b p k) ≤ 4096

-- The same of the m sorts whose numbers stand from x on.
pub record TextsAsk (b p : List ℕ) (x m : ℕ) : Type 0 where
  pub within : x + 2 * m ≤ length b
  pub stored : (j : ℕ) → j < m → Stored b p (suc (u16_at b (x + 2 * j)))
  pub small : sizes (trees_at b p (numbers_at b x m)) ≤ 4096

-- What stands between the word and the parts of an entry, and when it can be read.
abbrev pub inner_text_of : List ℕ → ℕ → SortRecord → List ℕ
inner_text_of b f r = inner_text f r.name r.number (numbers_at b r.names.at r.names.count)

pub record InnerAsks (b : List ℕ) (f : ℕ) (r : SortRecord) : Type 0 where
  pub name : r.name < 65536
  pub number : r.number < 65536
  pub within : r.names.at + 2 * r.names.count ≤ length b
  pub few : r.names.count ≤ 64
  pub form : f < 17
  pub some : get_or inners f 0 ≡ 3 → 1 ≤ r.names.count

-- Its length, which is over 6 only of a Par's names.
pub record InnerIs (b : List ℕ) (f : ℕ) (a : SortRecord) (r : ℕ) : Type 0 where
  pub is : r ≡ length (inner_text_of b f a)
  pub most : r ≤ 448
  pub low : (get_or inners f 0 ≡ 3 → ⊥) → r ≤ 6

-- The length of a sort's text, with the bound that its size gives; one byte is left for the blank before it.
pub record TextSizeIs (t : List ℕ) (z r : ℕ) : Type 0 where
  pub is : r ≡ length t
  pub most : r + 1 ≤ 456 * z

-- The same of a list of sorts, each behind a blank.
pub record TextsAre (t : List ℕ) (z r : ℕ) : Type 0 where
  pub is : r ≡ length t
  pub most : r ≤ 456 * z

-- HOW MUCH ROOM TEXTS NEED, in bytes, of sorts of at most 4,096 nodes. Any sort's text, and a blank before it: the worst node is a Par
-- of 64 names.
abbrev pub sort_room : ℕ
sort_room = 456 * 4096

-- The text of a sort that has at most one Par, as every checked sort, and a blank: the worst other node is `(_ BitVec 65535)`.
abbrev pub checked_room : ℕ
checked_room = 17 * 4096 + 439
