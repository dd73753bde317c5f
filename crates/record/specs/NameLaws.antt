-- The test for a name by a test of each name.
use Rattle.std.specs.Prelude.{ℕ, ◌||◌, ◌≡◌, refl, List, [], ◌∷◌, eqb}
use Rattle.std.specs.List.{list_any}
use Rattle.std.proofs.Common.{ap}
use Rattle.record.specs.Names.{member}

pub member-any : (v : ℕ) (ns : List ℕ) → list_any (λ n. eqb n v) ns ≡ member v ns
unfolding member
member-any v [] = refl
member-any v (n ∷ ns) = ap (λ t. eqb n v || t) (member-any v ns)
