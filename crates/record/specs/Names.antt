-- Lists of names.
use Rattle.std.specs.Prelude.{ℕ, Bool, true, false, not, ◌&&◌, ◌||◌, List, [], ◌∷◌, eqb}

-- A name is one of a list (params.contains(v) in the Rust).
unfoldable pub member : ℕ → List ℕ → Bool
member v [] = false
member v (n ∷ ns) = eqb n v || member v ns

-- Each of the first names is one of the second list: vars.iter().all(|v| params.contains(v)) in the Rust.
unfoldable pub all_members : List ℕ → List ℕ → Bool
unfolding member
all_members [] ns = true
all_members (u ∷ us) ns = member u ns && all_members us ns

-- No name stands twice in a list.
unfoldable pub distinct : List ℕ → Bool
unfolding member
distinct [] = true
distinct (v ∷ vs) = not (member v vs) && distinct vs
