-- What questions 1 and 3 ask, said of the parts of sorts and of assignments, free of any test and of matching's walk. Definitions only.
use Rattle.std.specs.Prelude.{ℕ, ◌≡◌, true, List, ◌⊎◌}
use Rattle.std.specs.List.{AllByRecursion}
use Rattle.std.proofs.Math.Option.{some}
use Rattle.record.specs.Names.{member}
use Rattle.record.specs.Sort.{Sort, var, kind_of}
use Rattle.sheet.specs.Sheet.{Binding, given_names}
use Rattle.substitution.specs.Substitution.{Map, find, bound, apply}
use Rattle.substitution.specs.Matching.{Within, listed_in}
use Rattle.check_rules.specs.Parts.{PartOf, Value}

---------------------------------------------------------------- the premise
-- "A pattern and target without Par and ParamBitVec": no part of the sort is one.
abbrev pub KnownSort : Sort → Type 0
KnownSort s = (r : Sort) → PartOf r s → Value r × (kind_of r ≡ 10 → ⊥)

-- "The target also without listed parameters"; a given sort likewise (document 02, A.8).
pub record TargetSort (ns : List ℕ) (t : Sort) : Type 0 where
  pub known : KnownSort t
  pub free : (v : ℕ) → member v ns ≡ true → PartOf (var v) t → ⊥

-- Matching's premise with given pairs.
pub record Premise (ns : List ℕ) (gs : List Binding) (p t : Sort) : Type 0 where
  pub pattern : KnownSort p
  pub target : TargetSort ns t
  pub given : AllByRecursion (λ (g : Binding). TargetSort ns g.sort) gs

---------------------------------------------------------------- assignments
-- "An assignment that keeps the given pairs turns pattern into target": it assigns parameters only.
pub record Turns (ns : List ℕ) (gs : List Binding) (p t : Sort) (θ : Map) : Type 0 where
  pub within : Within (listed_in ns) θ
  pub keeps : AllByRecursion (λ (g : Binding). find θ g.name ≡ some g.sort) gs
  pub turns : apply θ p ≡ t

-- "Unassigned names kept": it assigns given names and variables of the pattern, no others.
abbrev pub Spares : List Binding → Sort → Map → Type 0
Spares gs p θ = (v : ℕ) → bound θ v ≡ true → (member v (given_names gs) ≡ true) ⊎ PartOf (var v) p
