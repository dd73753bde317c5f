-- The word of an answer as it is written, and the counts of the store after it. Definitions only.
use Rattle.std.specs.Prelude.{ℕ}

-- How many sorts a store has, and how many bytes of its records are in use.
pub record Counts : Type 0 where
  pub count : ℕ
  pub used : ℕ

-- The same with the code of an answer.
pub record Word : Type 0 where
  pub code : ℕ
  pub count : ℕ
  pub used : ℕ
