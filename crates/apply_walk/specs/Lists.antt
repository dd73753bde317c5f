-- The names that a table of images leaves, and what reading a list of at most 64 numbers asks.
use Rattle.std.specs.Prelude.{ℕ, ◌+◌, ◌*◌, ◌≤◌, ◌≡◌, cond, List, [], ◌∷◌, length, get_or, eqb}

-- Those of some names that have no image in the table l.
unfoldable pub unbound : List ℕ → List ℕ → List ℕ
unbound l [] = []
unbound l (v ∷ vs) = cond (eqb (get_or l v 0) 0) (v ∷ unbound l vs) (unbound l vs)

-- A list of at most 64 numbers.
pub record ReadAsks (b : List ℕ) (x n : ℕ) : Type 0 where
  pub within : x + 2 * n ≤ length b
  pub few : n ≤ 64

pub record NamesKeptAsk (b : List ℕ) (x n : ℕ) (l : List ℕ) : Type 0 where
  pub read : ReadAsks b x n
  pub table : length l ≡ 65536

-- A list as long as the numbers vs.
pub record SameAsks (b : List ℕ) (x n : ℕ) (vs : List ℕ) : Type 0 where
  pub within : x + 2 * n ≤ length b
  pub long : length vs ≡ n
