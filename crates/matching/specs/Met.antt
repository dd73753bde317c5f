-- The pairs that matching notes: they fit, and bind nothing. Definitions only.
use Rattle.std.specs.Prelude.{ℕ, ◌≡◌, Bool, List}
use Rattle.std.proofs.Math.Option.{some}
use Rattle.record.specs.Decode.{store_of, sort_at}
use Rattle.substitution.specs.Substitution.{Map}
use Rattle.substitution.specs.Matching.{matches}
use Rattle.matching_tables.specs.Tables.{Told, table_map}
use Rattle.matching_tables.specs.Matched.{Matched, Fits, Misfits}
use Rattle.matching_tables.specs.Notes.{Pairs}

-- The pattern k matches the target j from the map θ and gives θ, for every test of names that the table prm stands for.
abbrev pub MatchedAt : List ℕ → List ℕ → ℕ → List ℕ → Map → ℕ → ℕ → Type 0
MatchedAt b p n prm θ k j = (f : ℕ → Bool) → Told prm f → matches f (sort_at b p n k) (sort_at b p n j) θ ≡ some θ

abbrev pub MetBefore : List ℕ → List ℕ → ℕ → List ℕ → List ℕ → List ℕ → ℕ → List ℕ → Type 0
MetBefore b p n prm imgs bnd m l = Pairs (MatchedAt b p n prm (table_map (store_of b p n) imgs bnd m)) l

-- After a match, for the map found; nothing is said of the table after a misfit.
abbrev pub MetAfter : List ℕ → List ℕ → ℕ → List ℕ → List ℕ → List ℕ → List ℕ → Matched → Type 0
MetAfter b p n prm imgs bnd l (Fits m) = MetBefore b p n prm imgs bnd m l
MetAfter b p n prm imgs bnd l (Misfits m) = Unit {0}
