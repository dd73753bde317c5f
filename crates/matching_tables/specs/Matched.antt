-- What matching finds. Definitions only.
use Rattle.std.specs.Prelude.{ℕ, Bool, true, false}

-- The pattern fits, or not; either way how many names are bound.
pub data Matched : Type 0 where
  Fits : ℕ → Matched
  Misfits : ℕ → Matched

-- With m names bound; true where the pattern fits.
abbrev pub found : ℕ → Bool → Matched
found m true = Fits m
found m false = Misfits m
