-- The pairs that match_with and is_compatible note: they fit, and bind nothing. Definitions only.
use Rattle.std.specs.Prelude.{ℕ, ◌≡◌, true, List}
use Rattle.std.proofs.Math.Option.{some}
use Rattle.record.specs.Decode.{store_of, sort_at}
use Rattle.substitution.specs.Substitution.{Map}
use Rattle.substitution.specs.MatchWith.{match_with}
use Rattle.substitution.specs.Compatible.{compatible}
use Rattle.matching_tables.specs.Tables.{Lists, table_map}
use Rattle.matching_tables.specs.Matched.{Matched, Fits, Misfits}
use Rattle.matching_tables.specs.Notes.{Pairs}

-- The pattern k matches the target j from the map θ and gives θ, by match_with, for every list of names that the table prm lists.
abbrev pub MatchedWith : List ℕ → List ℕ → ℕ → List ℕ → Map → ℕ → ℕ → Type 0
MatchedWith b p n prm θ k j = (ns : List ℕ) → Lists prm ns → match_with ns (sort_at b p n k) (sort_at b p n j) θ ≡ some θ

abbrev pub WithBefore : List ℕ → List ℕ → ℕ → List ℕ → List ℕ → List ℕ → ℕ → List ℕ → Type 0
WithBefore b p n prm imgs bnd m l = Pairs (MatchedWith b p n prm (table_map (store_of b p n) imgs bnd m)) l

abbrev pub WithAfter : List ℕ → List ℕ → ℕ → List ℕ → List ℕ → List ℕ → List ℕ → Matched → Type 0
WithAfter b p n prm imgs bnd l (Fits m) = WithBefore b p n prm imgs bnd m l
WithAfter b p n prm imgs bnd l (Misfits m) = Unit {0}

-- Two sorts are compatible.
abbrev pub CompatibleAt : List ℕ → List ℕ → ℕ → ℕ → ℕ → Type 0
CompatibleAt b p n k j = compatible (sort_at b p n k) (sort_at b p n j) ≡ true
