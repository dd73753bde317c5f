-- The sorts of a store in the order in which their answers are made: a list of their numbers, parts first from left to right. What
-- listing the sorts of one more asks and promises, and what making the answers of a list does.
use Rattle.std.specs.Prelude.{ℕ, suc, ◌+◌, ◌≤◌, ◌<◌, ◌≡◌, Bool, true, false, cond, List, [], ◌∷◌, length, get_or, Result, Ok, Err}
use Rattle.record.specs.Sort.{Sort, end, size, parts_of}
use Rattle.record.specs.Record.{leaf, sorts_of}
use Rattle.record.specs.Store.{memb, intern, intern_all}
use Rattle.record.specs.Decode.{store_of, Stored}
use Rattle.record.specs.SortLists.{Ordered}
use Rattle.store.specs.Good.{Good, Kept}
use Rattle.store.specs.declared.Full.{Full}
use Rattle.substitution.specs.Substitution.{Map, apply, apply_all}
use Rattle.apply_walk.specs.Images.{images_of}
use Rattle.apply_walk.specs.Halted.{Halted}
use Rattle.apply_walk.specs.Contract.{answers_at, Ready}
use Rattle.apply_walk.specs.Known.{Known}

-- The answer of the sort k of S.
abbrev pub sort_answer : Map → List Sort → ℕ → Sort
sort_answer θ S k = apply θ (get_or S k leaf)

-- THE STORE st WITH THE ANSWERS of a list of numbers of S, made one after the other.
abbrev pub answers_listed : Map → List Sort → List ℕ → List Sort → List Sort
answers_listed θ S o st = intern_all (apply_all θ (sorts_of S o)) st

-- A store to make the answers in: parts stand before wholes, and it has the answers of the sorts without parts.
pub record Base (θ : Map) (S st : List Sort) : Type 0 where
  pub ordered : Ordered st
  pub leaves : (k : ℕ) → k < length S → parts_of (get_or S k leaf) ≡ end → memb (sort_answer θ S k) st ≡ true

-- The list o covers the sorts noted in seen: with its answers made, theirs are there.
abbrev pub Covers : List Sort → List Bool → List ℕ → Type 0
Covers S seen o =
    (θ : Map) (st : List Sort) → Base θ S st → (k : ℕ) → get_or seen k false ≡ true → memb (sort_answer θ S k) (answers_listed θ S o st) ≡ true

-- Each of the list is a number of S, and its answer has at most the size z.
abbrev pub SizesWithin : Map → List Sort → ℕ → List ℕ → Type 0
SizesWithin θ S z o = (j : ℕ) → j < length o → (get_or o j 0 < length S) × (size (sort_answer θ S (get_or o j 0)) ≤ z)

-- How many are not noted.
unfoldable pub unnoted : List Bool → ℕ
unnoted [] = 0
unnoted (a ∷ l) = cond a (unnoted l) (suc (unnoted l))

-- A list that covers what is noted, with a place for each sort that is not.
pub record OrderAsks (b p : List ℕ) (seen : List Bool) (o : List ℕ) (n k : ℕ) : Type 0 where
  pub stored : Stored b p n
  pub few : n ≤ 4096
  pub known : k < n
  pub table : length seen ≡ 4096
  pub room : length o + unnoted seen ≤ 4096
  pub covers : Covers (store_of b p n) seen o

-- THE LIST WITH THE SORTS OF k: making its answers is making those of the list before, then the answer of k; none is larger than
-- that or than those before.
pub record OrderIs (b p : List ℕ) (seen : List Bool) (o : List ℕ) (n k : ℕ) (seen' : List Bool) (o' : List ℕ) : Type 0 where
  pub table : length seen' ≡ length seen
  pub above : (j : ℕ) → k < j → get_or seen' j false ≡ get_or seen j false
  pub room : length o' + unnoted seen' ≤ 4096
  pub covers : Covers (store_of b p n) seen' o'
  pub adds : (θ : Map) (st : List Sort) → Base θ (store_of b p n) st
      → answers_listed θ (store_of b p n) o' st ≡ intern (sort_answer θ (store_of b p n) k) (answers_listed θ (store_of b p n) o st)
  pub within : (θ : Map) (z : ℕ) → size (sort_answer θ (store_of b p n) k) ≤ z → SizesWithin θ (store_of b p n) z o → SizesWithin θ (store_of b p n) z o'

-- A list of sorts whose answers are to be made, and a table of answers that says the truth.
pub record InOrderAsk (b p ix ws : List ℕ) (n u : ℕ) (o l : List ℕ) : Type 0 where
  pub ready : Ready b p ix n u l
  pub known : Known b p n l ws
  pub within : SizesWithin (images_of (store_of b p n) l) (store_of b p n) 4096 o

-- THE STORE WITH THEIR ANSWERS, of which the table says the truth; or there is no room for that store.
pub record InOrderMade (b p : List ℕ) (n u : ℕ) (o l c q ix' ws' : List ℕ) (m v : ℕ) : Type 0 where
  pub good : Good c q ix' m v
  pub added : store_of c q m ≡ intern_all (answers_at b p n l o) (store_of b p n)
  pub kept : Kept b p n u c q
  pub known : Known c q m l ws'

abbrev pub InOrderAre : List ℕ → List ℕ → ℕ → ℕ → List ℕ → List ℕ → List ℕ → List ℕ → List ℕ → List ℕ → ℕ → ℕ → Result (Unit {0}) Full → Type 0
InOrderAre b p n u o l c q ix' ws' m v (Ok w) = InOrderMade b p n u o l c q ix' ws' m v
InOrderAre b p n u o l c q ix' ws' m v (Err e) =
    Halted b p n u (intern_all (answers_at b p n l o) (store_of b p n)) c q ix' m v
