-- When the judgement of a sheet may look up a name. Definitions only.
use Rattle.std.specs.Prelude.{ℕ, ◌<◌, ◌≡◌, Bool, true, false, List}
use Rattle.record.specs.Sort.{kind_of}
use Rattle.record.specs.Decode.{sort_at}

-- WHETHER ONE OF n SORTS IS A PAR: true with one, false with none.
abbrev pub ParIn : List ℕ → List ℕ → ℕ → Bool → Type 0
ParIn b p n true = (k : ℕ) × (k < n) × (kind_of (sort_at b p n k) ≡ 12)
ParIn b p n false = (k : ℕ) → k < n → kind_of (sort_at b p n k) ≡ 12 → ⊥

-- WHETHER NAMES MAY BE LOOKED UP: true where there is a question, or else a Par; false where there is neither.
abbrev pub UsesNames : List ℕ → List ℕ → ℕ → ℕ → Bool → Type 0
UsesNames b p n q true = q ≡ 0 → ParIn b p n true
UsesNames b p n q false = (q ≡ 0) × ParIn b p n false
