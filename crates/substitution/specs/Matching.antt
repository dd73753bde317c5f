-- Matching by its definition: "success exactly when some assignment turns pattern into target; other variables stand for
-- themselves"; from a map, success exactly when some assignment that keeps it turns pattern into target. Definitions only.
use Rattle.std.specs.Prelude.{ℕ, ◌≡◌, Bool, true, false, not, cond, ◌&&◌, List, [], ◌∷◌, eqb}
use Rattle.std.proofs.Math.Option.{Option, none, some}
use Rattle.record.specs.Sort.{Sort, Sorts, var, par, node, end, ◌then◌, same}
use Rattle.record.specs.Names.{member}
use Rattle.substitution.specs.Substitution.{Map, bind, find}

-- Goes on where a test passes.
abbrev pub keep : Bool → Option Map → Option Map
keep true o = o
keep false o = none

-- Goes on with the map found.
abbrev pub and_then : Option Map → (Map → Option Map) → Option Map
and_then none f = none
and_then (some m) f = f m

-- map.entry(a): a listed variable is bound at its first meeting, and compared at later ones.
abbrev pub meet : Option Sort → ℕ → Sort → Map → Option Map
meet none v t m = some (bind v t m)
meet (some s) v t m = keep (same s t) (some m)

-- A pattern against a target, from a map, the listed names given by a test: the two go down together, node by node.
-- A variable in the target is never a parameter. A pattern with a Par fits nothing here: matching's premise rules Par out.
unfoldable mutual
  unfolding same find

  pub matches : (ℕ → Bool) → Sort → Sort → Map → Option Map
  matches ns (var v) t m = cond (ns v) (meet (find m v) v t m) (keep (same (var v) t) (some m))
  matches ns (par us b) t m = none
  matches ns (node k a w ps) (var v) m = none
  matches ns (node k a w ps) (par us b) m = none
  matches ns (node k a w ps) (node l c x ts) m = keep (eqb k l && eqb a c && eqb w x) (matches_all ns ps ts m)

  pub matches_all : (ℕ → Bool) → Sorts → Sorts → Map → Option Map
  matches_all ns end end m = some m
  matches_all ns end (t then ts) m = none
  matches_all ns (p then ps) end m = none
  matches_all ns (p then ps) (t then ts) m = and_then (matches ns p t m) (λ m'. matches_all ns ps ts m')

-- "Some assignment": a map that binds listed names only.
abbrev pub Within : (ℕ → Bool) → Map → Type 0
Within ns θ = (v : ℕ) → ns v ≡ false → find θ v ≡ none

-- "An assignment that keeps the given pairs": what the first map gives a name, the second gives it too.
abbrev pub Keeps : Map → Map → Type 0
Keeps m θ = (v : ℕ) (s : Sort) → find m v ≡ some s → find θ v ≡ some s

-- "The same assignment, or none": two searches with one outcome, none in both, or maps that agree name by name.
abbrev pub Alike : Option Map → Option Map → Type 0
Alike none none = Unit {0}
Alike none (some n) = ⊥
Alike (some m) none = ⊥
Alike (some m) (some n) = (v : ℕ) → find m v ≡ find n v

-- The test that a name is one of a list.
abbrev pub listed_in : List ℕ → ℕ → Bool
listed_in ns v = member v ns

-- "A pattern and target without Par and ParamBitVec"
unfoldable mutual
  pub known : Sort → Bool
  known (var v) = true
  known (par ns b) = false
  known (node k a w ss) = not (eqb k 10) && known_all ss

  pub known_all : Sorts → Bool
  known_all end = true
  known_all (s then ss) = known s && known_all ss

-- Two lists share no name.
unfoldable pub apart : List ℕ → List ℕ → Bool
unfolding member
apart us [] = true
apart us (n ∷ ns) = not (member n us) && apart us ns

-- "The target also without listed parameters": no listed name stands in a sort.
unfoldable mutual
  unfolding member apart

  pub unlisted : List ℕ → Sort → Bool
  unlisted ns (var v) = not (member v ns)
  unlisted ns (par us b) = apart ns us && unlisted ns b
  unlisted ns (node k a w ss) = unlisted_all ns ss

  pub unlisted_all : List ℕ → Sorts → Bool
  unlisted_all ns end = true
  unlisted_all ns (s then ss) = unlisted ns s && unlisted_all ns ss

-- Matching's premise; questions 1 and 3 outside it are refused with 28.
unfoldable pub premise : List ℕ → Sort → Sort → Bool
unfolding known unlisted
premise ns p t = known p && known t && unlisted ns t
