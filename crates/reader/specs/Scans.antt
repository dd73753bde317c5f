-- The tests of the numbers of a list, by a test of each number.
use Rattle.std.specs.Prelude.{ℕ, zero, suc, ◌+◌, ◌&&◌, ◌||◌, ◌≡◌, refl, List, [], ◌∷◌, ltb, eqb, map}
use Rattle.std.specs.List.{list_all, list_any}
use Rattle.std.proofs.Common.{ap}
use Rattle.record.specs.Number.{u16_at, pairs_at}
use Rattle.record.specs.Names.{member}
use Rattle.reader.specs.Reader.{all_below, pair_names_at, pair_sorts_at}

pub below-all : (i : ℕ) (vs : List ℕ) → list_all (λ v. ltb v i) vs ≡ all_below i vs
unfolding all_below
below-all i [] = refl
below-all i (v ∷ vs) = ap (λ t. ltb v i && t) (below-all i vs)

pub pairs-below-all : (i : ℕ) (ps : List (ℕ × ℕ)) → list_all (λ p. ltb p.1 i) ps ≡ all_below i (map (λ p. p.1) ps)
unfolding all_below
pairs-below-all i [] = refl
pairs-below-all i (p ∷ ps) = ap (λ t. ltb p.1 i && t) (pairs-below-all i ps)

-- The sorts of pairs.
pub pair_sorts_are : (s : List ℕ) (x n : ℕ) → map (λ p. p.1) (pairs_at s x n) ≡ pair_sorts_at s x n
unfolding pairs_at pair_sorts_at
pair_sorts_are s x zero = refl
pair_sorts_are s x (suc n) = ap (λ (r : List ℕ). u16_at s (x + 2) ∷ r) (pair_sorts_are s (x + 4) n)

-- The names of pairs.
pub pair_names_are : (s : List ℕ) (x n : ℕ) → map (λ p. p.0) (pairs_at s x n) ≡ pair_names_at s x n
unfolding pairs_at pair_names_at
pair_names_are s x zero = refl
pair_names_are s x (suc n) = ap (λ (r : List ℕ). u16_at s x ∷ r) (pair_names_are s (x + 4) n)

-- The test for a pair with a name by a test of the names.
pub names-any : (v : ℕ) (ps : List (ℕ × ℕ)) → list_any (λ p. eqb p.0 v) ps ≡ member v (map (λ p. p.0) ps)
unfolding member
names-any v [] = refl
names-any v (p ∷ ps) = ap (λ t. eqb p.0 v || t) (names-any v ps)
