-- What the walks of a substitution over a store ask and promise: the size of an answer, capped; and the answer made in the store,
-- or the store where there was no room.
use Rattle.std.specs.Prelude.{ℕ, ◌+◌, ◌*◌, ◌≤◌, ◌<◌, ◌≡◌, Bool, true, cond, ◌&&◌, List, length, get_or, eqb, leb, Result, Ok, Err}
use Rattle.record.specs.Number.{u16_at, numbers_at}
use Rattle.record.specs.Sort.{Sort, Sorts, size, sizes, kind_of, parts_of}
use Rattle.record.specs.Record.{sorts_of}
use Rattle.record.specs.Store.{intern, intern_all, indices_of}
use Rattle.record.specs.Decode.{store_of, sort_at}
use Rattle.record.specs.SortLists.{memb_all}
use Rattle.store.specs.Good.{Good, Kept}
use Rattle.store.specs.Entry.{SizedStore}
use Rattle.store.specs.declared.Full.{Full}
use Rattle.substitution.specs.Substitution.{apply, apply_all}
use Rattle.apply_walk.specs.Images.{images_of, ImageTable}
use Rattle.apply_walk.specs.Made.{Made}
use Rattle.apply_walk.specs.Halted.{Halted}

-- A size, or 4,097 for each that is larger than 4,096.
unfoldable pub capped : ℕ → ℕ
capped v = cond (leb v 4096) v 4097

-- A Par without names: its wrapper goes.
unfoldable pub goes : ℕ → ℕ → Bool
goes k names = eqb k 12 && eqb names 0

-- THE ANSWER: the sort k of the store with its names replaced by the table l; and those of several numbers.
abbrev pub answer_at : List ℕ → List ℕ → ℕ → List ℕ → ℕ → Sort
answer_at b p n l k = apply (images_of (store_of b p n) l) (sort_at b p n k)

abbrev pub answers_at : List ℕ → List ℕ → ℕ → List ℕ → List ℕ → Sorts
answers_at b p n l vs = apply_all (images_of (store_of b p n) l) (sorts_of (store_of b p n) vs)

-- A store that is only read, and a table of images in it.
pub record ReadStore (b p : List ℕ) (n u : ℕ) (l : List ℕ) : Type 0 where
  pub whole : SizedStore b p n u
  pub count : n ≤ 4096
  pub table : ImageTable l n

pub record SizeAsks (b p : List ℕ) (n u k : ℕ) (l : List ℕ) : Type 0 where
  pub reading : ReadStore b p n u l
  pub known : k < n

pub record SizesAsk (b p : List ℕ) (n u x m : ℕ) (l : List ℕ) : Type 0 where
  pub reading : ReadStore b p n u l
  pub within : x + 2 * m ≤ length b
  pub below : (j : ℕ) → j < m → u16_at b (x + 2 * j) < n

abbrev pub SizeIs : List ℕ → List ℕ → ℕ → ℕ → List ℕ → ℕ → Type 0
SizeIs b p n k l r = r ≡ capped (size (answer_at b p n l k))

abbrev pub SizesAre : List ℕ → List ℕ → ℕ → ℕ → ℕ → List ℕ → ℕ → Type 0
SizesAre b p n x m l r = r ≡ capped (sizes (answers_at b p n l (numbers_at b x m)))

-- A good store, and a table of images in it.
pub record Ready (b p ix : List ℕ) (n u : ℕ) (l : List ℕ) : Type 0 where
  pub good : Good b p ix n u
  pub table : ImageTable l n

-- The sort k is no variable, and parts has the numbers of its parts replaced, which the store has.
pub record RebuildAsks (b p ix : List ℕ) (n u k : ℕ) (parts l : List ℕ) : Type 0 where
  pub ready : Ready b p ix n u l
  pub known : k < n
  pub other : kind_of (sort_at b p n k) ≡ 2 → ⊥
  pub there : memb_all (apply_all (images_of (store_of b p n) l) (parts_of (sort_at b p n k))) (store_of b p n) ≡ true
  pub has : parts ≡ indices_of (apply_all (images_of (store_of b p n) l) (parts_of (sort_at b p n k))) (store_of b p n)
  pub small : size (answer_at b p n l k) ≤ 4096

pub record SortAsks (b p ix : List ℕ) (n u k : ℕ) (l : List ℕ) : Type 0 where
  pub ready : Ready b p ix n u l
  pub known : k < n
  pub small : size (answer_at b p n l k) ≤ 4096

-- The number of the sort s, which is made; or there is no room, and the store is what was made so far.
abbrev pub ReplacedIs : List ℕ → List ℕ → ℕ → ℕ → Sort → List ℕ → List ℕ → List ℕ → ℕ → ℕ → Result ℕ Full → Type 0
ReplacedIs b p n u s c q ix' m v (Ok i) = Made b p n u s c q ix' i m v
ReplacedIs b p n u s c q ix' m v (Err e) = Halted b p n u (intern s (store_of b p n)) c q ix' m v

pub record PartsAsk (b p ix : List ℕ) (n u : ℕ) (parts l : List ℕ) : Type 0 where
  pub ready : Ready b p ix n u l
  pub below : (j : ℕ) → j < length parts → get_or parts j 0 < n
  pub small : sizes (answers_at b p n l parts) ≤ 4096

-- The store after making the sorts ss, and their numbers in it.
pub record PartsMade (b p : List ℕ) (n u : ℕ) (ss : Sorts) (c q ix' o : List ℕ) (m v : ℕ) : Type 0 where
  pub good : Good c q ix' m v
  pub added : store_of c q m ≡ intern_all ss (store_of b p n)
  pub has : o ≡ indices_of ss (store_of c q m)
  pub kept : Kept b p n u c q

-- All are made, and their numbers stand in o; or there is no room, and the store is what was made so far.
abbrev pub PartsAre : List ℕ → List ℕ → ℕ → ℕ → List ℕ → List ℕ → List ℕ → List ℕ → List ℕ → List ℕ → ℕ → ℕ → Result (Unit {0}) Full → Type 0
PartsAre b p n u parts l c q ix' o m v (Ok w) = PartsMade b p n u (answers_at b p n l parts) c q ix' o m v
PartsAre b p n u parts l c q ix' o m v (Err e) = Halted b p n u (intern_all (answers_at b p n l parts) (store_of b p n)) c q ix' m v
