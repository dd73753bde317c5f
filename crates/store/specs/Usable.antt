-- When a store can be read: its records are well formed and distinct.
use Rattle.std.specs.Prelude.{ℕ, ◌≤◌, List}
use Rattle.record.specs.Decode.{Stored, Distinct}

-- A store of n distinct sorts.
pub record Usable (b p : List ℕ) (n : ℕ) : Type 0 where
  pub stored : Stored b p n
  pub distinct : Distinct b p n
  pub count : n ≤ 4096
