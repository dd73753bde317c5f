-- No listed name, a target's two conditions, matching's premise, and what a table of sorts notes of them. Definitions only.
use Rattle.std.specs.Prelude.{ℕ, ◌≡◌, Bool, true, ◌&&◌, List, length}
use Rattle.record.specs.Decode.{sort_at}
use Rattle.substitution.specs.Matching.{unlisted, premise}
use Rattle.matching_tables.specs.Tables.{Lists}
use Rattle.substitution.specs.Matching.{known}
use Rattle.matching_tables.specs.Usable.{OneAsks}

pub record UnlistedAsks (b p : List ℕ) (n : ℕ) (prm : List ℕ) (k : ℕ) : Type 0 where
  pub one : OneAsks b p n k
  pub table : length prm ≡ 65536

abbrev pub UnlistedIs : List ℕ → List ℕ → ℕ → List ℕ → ℕ → Bool → Type 0
UnlistedIs b p n prm k r = (ns : List ℕ) → Lists prm ns → r ≡ unlisted ns (sort_at b p n k)

-- A target is known, and has no listed name.
abbrev pub TargetIs : List ℕ → List ℕ → ℕ → List ℕ → ℕ → Bool → Type 0
TargetIs b p n prm k r = (ns : List ℕ) → Lists prm ns → r ≡ (known (sort_at b p n k) && unlisted ns (sort_at b p n k))

abbrev pub PremiseIs : List ℕ → List ℕ → ℕ → List ℕ → ℕ → ℕ → Bool → Type 0
PremiseIs b p n prm k j r = (ns : List ℕ) → Lists prm ns → r ≡ premise ns (sort_at b p n k) (sort_at b p n j)

---------------------------------------------------------------- what is noted
abbrev pub KnownAt : List ℕ → List ℕ → ℕ → ℕ → Type 0
KnownAt b p n k = known (sort_at b p n k) ≡ true

abbrev pub UnlistedAt : List ℕ → List ℕ → ℕ → List ℕ → ℕ → Type 0
UnlistedAt b p n prm k = (ns : List ℕ) → Lists prm ns → unlisted ns (sort_at b p n k) ≡ true
