-- Pairs of a pattern and a target, matched one after the other in the order of their list. Definitions only.
use Rattle.std.specs.Prelude.{ℕ, Bool, List, [], ◌∷◌}
use Rattle.std.proofs.Math.Option.{Option, some}
use Rattle.record.specs.Sort.{Sort, Sorts, end, ◌then◌}
use Rattle.substitution.specs.Substitution.{Map}
use Rattle.substitution.specs.Matching.{and_then, matches}

-- A pattern with its target: a declared sort with the argument's.
pub record Pair : Type 0 where
  pub pattern : Sort
  pub target : Sort

-- The pairs of two lists, entry by entry: what is left of the longer list has no pair.
unfoldable pub pairs_of : Sorts → Sorts → List Pair
pairs_of end ts = []
pairs_of (p then ps) end = []
pairs_of (p then ps) (t then ts) = record { pattern = p; target = t } ∷ pairs_of ps ts

-- Each pair is matched from the map that those before it in the list leave; none where one of them fits nothing.
unfoldable pub matches_pairs : (ℕ → Bool) → List Pair → Map → Option Map
unfolding matches
matches_pairs ns [] m = some m
matches_pairs ns (x ∷ xs) m = and_then (matches ns x.pattern x.target m) (λ m'. matches_pairs ns xs m')
