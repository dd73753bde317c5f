-- WHEN EACH CAUSE OF A CHECKED ROW IS GIVEN. A record is ranked, its own sorts are clean, its counts right, its arguments fitting and
-- its result fixed; the cause is that of the first of these that fails, in document 01's order 24, 28, 25, 26, 27. Definitions only;
-- RefusalTheorems, IndexRefusals and AppRefusals say for every kind of term what the five are.
use Rattle.std.specs.Prelude.{ℕ, ◌≤◌, ◌<◌, ◌≡◌, ◌↔◌, ◌⊎◌, List, [], ◌∷◌}
use Rattle.std.proofs.Math.Option.{Option, some}
use Rattle.record.specs.Sort.{Sort, Sorts, end, ◌then◌, int, reglan, bitvec}
use Rattle.row_rules.specs.declared.Cause.{Cause}
use Rattle.row_rules.specs.declared.Cause.TheVariants.{NoRank, Count, Misfit, Unassigned, Barred}
use Rattle.row_rules.specs.Verdict.{Verdict, sort, refused, number_of}

-- THE VERDICT v IS REFUSED EXACTLY by these five conditions, and for nothing else.
pub record Exactly (v : Verdict) (Ranked Clean Counted Fitting Fixed : Type 0) : Type 0 where
  pub unranked : v ≡ refused NoRank ↔ (Ranked → ⊥)
  pub barred : v ≡ refused Barred ↔ Ranked × (Clean → ⊥)
  pub miscounted : v ≡ refused Count ↔ Ranked × Clean × (Counted → ⊥)
  pub misfit : v ≡ refused Misfit ↔ Ranked × Clean × Counted × (Fitting → ⊥)
  pub unassigned : v ≡ refused Unassigned ↔ Ranked × Clean × Counted × Fitting × (Fixed → ⊥)
  pub accepted : ((s : Sort) × (v ≡ sort s)) ↔ Ranked × Clean × Counted × Fitting × Fixed
  pub nothing-else : (c : Cause) → v ≡ refused c → (24 ≤ number_of c) × (number_of c ≤ 28)

-- The indices that a ParamOp takes: one from 3 ZeroExtend to 10 RePower, at least 1 for 7 Repeat and 9 IntToBv; two for 11 ReLoop;
-- for 0 Extract i, j with j ≤ i, and i below the width where the argument is a vector.
pub data Indices (n : ℕ) (is : List (Option ℕ)) (ts : Sorts) : Type 0 where
  one : (i : ℕ) → 3 ≤ n → n ≤ 10 → is ≡ some i ∷ [] → ((n ≡ 7) ⊎ (n ≡ 9) → 1 ≤ i) → Indices n is ts
  two : (i j : ℕ) → n ≡ 11 → is ≡ some i ∷ some j ∷ [] → Indices n is ts
  extract : (i j : ℕ) → n ≡ 0 → is ≡ some i ∷ some j ∷ [] → j ≤ i → ((w : ℕ) → ts ≡ bitvec w then end → i < w) → Indices n is ts

-- Its argument: an Int for 9 IntToBv, a RegLan for 10 RePower and 11 ReLoop, a vector for the others.
pub data Argument (n : ℕ) (ts : Sorts) : Type 0 where
  integer : n ≡ 9 → ts ≡ int then end → Argument n ts
  language : 10 ≤ n → ts ≡ reglan then end → Argument n ts
  vector : (w : ℕ) → n < 9 → ts ≡ bitvec w then end → Argument n ts
