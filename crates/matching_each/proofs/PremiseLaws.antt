-- Matching's premise: the pattern's test, then the target's.
use Prim.Native.Nat.{ℕ}
use mathlib.Core.Path.{◌≡◌, refl}
use mathlib.Core.Bool.{Bool, true, false}
use mathlib.Core.List.{List}
use Rattle.record.specs.Decode.{sort_at}
use Rattle.substitution.specs.Matching.{known, premise}
use Rattle.matching_each.specs.Premises.{TargetIs, PremiseIs}

module _ (b p : List ℕ) (n : ℕ) (prm : List ℕ) (k j : ℕ) {f : Bool} (h : f ≡ known (sort_at b p n k)) where
  pub premise-left : f ≡ false → PremiseIs b p n prm k j f
  unfolding premise
  premise-left e ns l = rw (← h, e) refl

  pub premise-right : f ≡ true → (r : Bool) → TargetIs b p n prm j r → PremiseIs b p n prm k j r
  unfolding premise
  premise-right e r t ns l = rw (← h, e) (t ns l)
