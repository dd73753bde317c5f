-- Numbers in bytes, low byte first (document 01: "Numbers are little-endian").
use Rattle.std.specs.Prelude.{ℕ, zero, suc, ◌+◌, ◌*◌, ◌/◌, ◌%◌, List, [], ◌∷◌, get_or}

-- The u16 at a place; what lies past the end counts as 0.
unfoldable pub u16_at : List ℕ → ℕ → ℕ
u16_at s at = get_or s at 0 + get_or s (at + 1) 0 * 256

-- The u32 at a place.
unfoldable pub u32_at : List ℕ → ℕ → ℕ
unfolding u16_at
u32_at s at = u16_at s at + u16_at s (at + 2) * 65536

-- n numbers of two bytes each, from a place on.
unfoldable pub numbers_at : List ℕ → ℕ → ℕ → List ℕ
unfolding u16_at
numbers_at s at zero = []
numbers_at s at (suc n) = u16_at s at ∷ numbers_at s (at + 2) n

-- The two and the four bytes of a number.
abbrev pub u16_bytes : ℕ → List ℕ
u16_bytes v = v % 256 ∷ v / 256 ∷ []

abbrev pub u32_bytes : ℕ → List ℕ
u32_bytes v = v % 256 ∷ v / 256 % 256 ∷ v / 65536 % 256 ∷ v / 16777216 ∷ []

-- Numbers as bytes, two each.
unfoldable pub numbers_bytes : List ℕ → List ℕ
numbers_bytes [] = []
numbers_bytes (v ∷ vs) = v % 256 ∷ v / 256 ∷ numbers_bytes vs

-- n pairs of such numbers, four bytes each, from a place on.
unfoldable pub pairs_at : List ℕ → ℕ → ℕ → List (ℕ × ℕ)
unfolding u16_at
pairs_at s at zero = []
pairs_at s at (suc n) = (u16_at s at, u16_at s (at + 2)) ∷ pairs_at s (at + 4) n
