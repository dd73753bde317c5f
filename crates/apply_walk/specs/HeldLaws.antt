-- An array of zeros.
use Rattle.std.specs.Prelude.{ℕ, zero, suc, ◌≡◌, refl, get_or, replicate}

pub zeros-held : (n i : ℕ) → ◌≡◌ {A = ℕ} (get_or (replicate n 0) i 0) 0
zeros-held zero i = refl
zeros-held (suc n) zero = refl
zeros-held (suc n) (suc i) = zeros-held n i
