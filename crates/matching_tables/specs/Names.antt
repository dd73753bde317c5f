-- The tables of names as one: what a method leaves as it was. Definitions only.
use Rattle.std.specs.Prelude.{ℕ, suc, ◌≡◌, Option, Some, None}
use Rattle.matching_tables.specs.declared.names.Names.{Names}

-- The same three lent tables.
abbrev pub SameNames : Names → Names → Type 0
SameNames s t =
    (t.params.ghost_name ≡ s.params.ghost_name)
    × (t.images.ghost_name ≡ s.images.ghost_name)
    × (t.bound.ghost_name ≡ s.bound.ghost_name)

-- The same names are listed.
abbrev pub SameParams : Names → Names → Type 0
SameParams s t = t.params.now ≡ s.params.now

-- The same names are bound, to the same sorts.
abbrev pub SameMap : Names → Names → Type 0
SameMap s t = (t.images.now ≡ s.images.now) × (t.bound.now ≡ s.bound.now) × (t.many ≡ s.many)

-- The same tables, with no name counted as bound.
abbrev pub Started : Names → Names → Type 0
Started s t = t ≡ record { params = s.params; images = s.images; bound = s.bound; many = 0 }

-- The entry of a name in the table of images: 0 without an image, else one more than its number.
abbrev pub entry_of : Option ℕ → ℕ
entry_of None = 0
entry_of (Some k) = suc k
