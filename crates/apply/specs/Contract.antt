-- What substitution over a store asks and promises: the answer made in the store, or the cause why it is not; then every buffer
-- is as it was.
use Rattle.std.specs.Prelude.{ℕ, ◌+◌, ◌*◌, ◌≤◌, ◌<◌, ◌≡◌, false, List, length, Result, Ok, Err}
use Rattle.record.specs.Number.{u16_at, numbers_at}
use Rattle.record.specs.Sort.{Sort, function, size}
use Rattle.record.specs.Store.{intern, room}
use Rattle.record.specs.Decode.{store_of}
use Rattle.store.specs.Contract.{Untouched}
use Rattle.apply_walk.specs.Made.{Made}
use Rattle.apply_walk.specs.Contract.{answers_at, Ready}
use Rattle.apply.specs.declared.ApplyError.{ApplyError}
use Rattle.apply.specs.declared.ApplyError.TheVariants.{TooLarge, NoRoom}

pub record ApplyAsks (b p ix : List ℕ) (n u k : ℕ) (l : List ℕ) : Type 0 where
  pub ready : Ready b p ix n u l
  pub known : k < n

-- THE FUNCTION of the sorts replaced whose m numbers stand from x on.
abbrev pub function_at : List ℕ → List ℕ → ℕ → List ℕ → ℕ → ℕ → Sort
function_at b p n l x m = function (answers_at b p n l (numbers_at b x m))

-- At most 64 numbers of sorts, two bytes each from x on.
pub record FunctionAsks (b p ix : List ℕ) (n u : ℕ) (l : List ℕ) (x m : ℕ) : Type 0 where
  pub ready : Ready b p ix n u l
  pub within : x + 2 * m ≤ length b
  pub below : (j : ℕ) → j < m → u16_at b (x + 2 * j) < n
  pub few : m ≤ 64

pub record FunctionFits (b p ix : List ℕ) (n u : ℕ) (l : List ℕ) (x m : ℕ) : Type 0 where
  pub asks : FunctionAsks b p ix n u l x m
  pub small : size (function_at b p n l x m) ≤ 4096

-- An answer whose tree is at most 4,096 is made.
pub record AnswerMade (b p : List ℕ) (n u : ℕ) (s : Sort) (b' p' ix' : List ℕ) (i n' u' : ℕ) : Type 0 where
  pub small : size s ≤ 4096
  pub made : Made b p n u s b' p' ix' i n' u'

-- THE OUTCOME OF AN ANSWER s over a store: 22 exactly if its tree is larger than 4,096; 23 exactly if it is not and the
-- store after interning it has no room; both leave the whole store as it was.
abbrev pub AppliedIs : List ℕ → List ℕ → List ℕ → ℕ → ℕ → Sort → List ℕ → List ℕ → List ℕ → ℕ → ℕ → Result ℕ ApplyError → Type 0
AppliedIs b p ix n u s b' p' ix' n' u' (Ok i) = AnswerMade b p n u s b' p' ix' i n' u'
AppliedIs b p ix n u s b' p' ix' n' u' (Err TooLarge) = (4096 < size s) × Untouched b p ix b' p' ix' × (n' ≡ n) × (u' ≡ u)
AppliedIs b p ix n u s b' p' ix' n' u' (Err NoRoom) =
    (size s ≤ 4096) × (room (length b) (length p) (intern s (store_of b p n)) ≡ false) × Untouched b p ix b' p' ix' × (n' ≡ n) × (u' ≡ u)
