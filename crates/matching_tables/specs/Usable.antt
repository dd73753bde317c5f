-- Sorts of a store by their numbers: what a walk over one sort, a list of sorts, or two of them asks. Definitions only.
use Rattle.std.specs.Prelude.{ℕ, ◌+◌, ◌*◌, ◌≤◌, ◌<◌, ◌≡◌, Bool, ◌&&◌, List, length, get_or, eqb}
use Rattle.record.specs.Kinds.{sort_number}
use Rattle.record.specs.Number.{u16_at, numbers_at}
use Rattle.record.specs.Sort.{Sorts}
use Rattle.record.specs.Record.{sorts_of}
use Rattle.record.specs.Decode.{store_of}
use Rattle.record.specs.declared.SortRecord.{SortRecord}
pub use Rattle.store.specs.Usable.{Usable}

-- m numbers below n stand in s from x on.
pub record Refs (s : List ℕ) (x m n : ℕ) : Type 0 where
  pub within : x + 2 * m ≤ length s
  pub below : (j : ℕ) → j < m → u16_at s (x + 2 * j) < n

-- Their sorts.
abbrev pub sorts_at : List ℕ → List ℕ → ℕ → List ℕ → ℕ → ℕ → Sorts
sorts_at b p n s x m = sorts_of (store_of b p n) (numbers_at s x m)

pub record OneAsks (b p : List ℕ) (n k : ℕ) : Type 0 where
  pub usable : Usable b p n
  pub known : k < n

pub record ListAsks (b p : List ℕ) (n : ℕ) (s : List ℕ) (x m : ℕ) : Type 0 where
  pub usable : Usable b p n
  pub refs : Refs s x m n

pub record PairAsks (b p : List ℕ) (n k j : ℕ) : Type 0 where
  pub usable : Usable b p n
  pub left : k < n
  pub right : j < n

pub record PairsAsk (b p : List ℕ) (n : ℕ) (s : List ℕ) (x : ℕ) (t : List ℕ) (y m : ℕ) : Type 0 where
  pub usable : Usable b p n
  pub left : Refs s x m n
  pub right : Refs t y m n

---------------------------------------------------------------- by lists of numbers
-- Each number is below n.
abbrev pub AllBelow : List ℕ → ℕ → Type 0
AllBelow ks n = (i : ℕ) → i < length ks → get_or ks i 0 < n

-- Two lists as long of numbers of a store.
pub record ListsAsk (b p : List ℕ) (n : ℕ) (ks js : List ℕ) : Type 0 where
  pub usable : Usable b p n
  pub left : AllBelow ks n
  pub right : AllBelow js n
  pub even : length js ≡ length ks

---------------------------------------------------------------- heads
-- The fields of two records other than their lists are equal, and their lists are as long.
unfoldable pub same_head : SortRecord → SortRecord → Bool
same_head r q = eqb (sort_number r.kind) (sort_number q.kind) && eqb r.name q.name && eqb r.number q.number && eqb r.parts.count q.parts.count
