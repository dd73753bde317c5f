-- The lent tables of what a walk has found already. Definitions only.
use Rattle.std.specs.Prelude.{ℕ, ◌+◌, ◌*◌, ◌%◌, ◌<◌, ◌≡◌, Bool, true, List, length, get_or, set}

---------------------------------------------------------------- sorts by their numbers
-- A table of 64 entries in which P holds of each number noted: one less than the entry, where that is not 0.
pub record NoteTable (P : ℕ → Type 0) (l : List ℕ) : Type 0 where
  pub long : length l ≡ 64
  pub each : (i k : ℕ) → get_or l i 0 ≡ k + 1 → P k

abbrev pub NotedIs : List ℕ → ℕ → Bool → Type 0
NotedIs l k r = r ≡ true → get_or l (k % 64) 0 ≡ k + 1

abbrev pub NoteIs : List ℕ → ℕ → List ℕ → Type 0
NoteIs l k l' = l' ≡ set l (k % 64) (k + 1)

---------------------------------------------------------------- pairs of a pattern and a target
-- What is noted of the pattern k and the target j.
abbrev pub pair_of : ℕ → ℕ → ℕ
pair_of k j = (k + 1) * 65536 + j

pub record MetAsks (k j : ℕ) : Type 0 where
  pub small : k < 65535
  pub target : j < 65536

abbrev pub MetIs : List ℕ → ℕ → ℕ → Bool → Type 0
MetIs l k j r = r ≡ true → get_or l (k % 32) 0 ≡ pair_of k j

abbrev pub PairIs : List ℕ → ℕ → ℕ → List ℕ → Type 0
PairIs l k j l' = l' ≡ set l (k % 32) (pair_of k j)

-- A table of 32 entries in which G holds of each pair noted.
pub record Pairs (G : ℕ → ℕ → Type 0) (l : List ℕ) : Type 0 where
  pub long : length l ≡ 32
  pub each : (i k j : ℕ) → j < 65536 → get_or l i 0 ≡ pair_of k j → G k j
