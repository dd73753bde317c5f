-- What the function that writes a line of a page asks.
use Rattle.std.specs.Prelude.{ℕ, ◌+◌, ◌≤◌, ◌<◌, List, length}

-- Room for a line of 80 columns and its newline, and a row's number of 5 digits at most.
pub record LineRoom (t : ℕ) (o : List ℕ) (to : ℕ) : Type 0 where
  pub few : t < 100000
  pub fits : to + 81 ≤ length o
