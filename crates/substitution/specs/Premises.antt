-- What the theorems on substitution and the two routes ask of a map and of a sort. Definitions only.
use Rattle.std.specs.Prelude.{ℕ, Bool, true, false, not, ◌&&◌, ◌||◌, List, [], ◌∷◌, eqb}
use Rattle.record.specs.Sort.{Sort, Sorts, var, par, node, end, ◌then◌}
use Rattle.substitution.specs.Substitution.{Map, empty, bind, occurs}

-- A name is replaced by a map, or stands in one of its images.
unfoldable pub touches : Map → ℕ → Bool
unfolding occurs
touches empty n = false
touches (bind v s m) n = eqb v n || (occurs n s || touches m n)

-- A map touches no name of a list.
unfoldable pub untouched : Map → List ℕ → Bool
unfolding touches
untouched m [] = true
untouched m (n ∷ ns) = not (touches m n) && untouched m ns

-- "The parameters that count are those of each Par in the sorts": a map touches none of them.
unfoldable mutual
  unfolding untouched

  pub clear : Map → Sort → Bool
  clear m (var v) = true
  clear m (par ns b) = untouched m ns && clear m b
  clear m (node k a w ss) = clear_all m ss

  pub clear_all : Map → Sorts → Bool
  clear_all m end = true
  clear_all m (s then ss) = clear m s && clear_all m ss

-- Refusal 28, "holds Type, ParamBitVec, BitVec 0": a node is none of these.
abbrev pub usual : ℕ → ℕ → Bool
usual k w = not (eqb k 10) && (not (eqb k 13) && not (eqb k 9 && eqb w 0))

-- No Par, Type, ParamBitVec or BitVec 0 anywhere in a sort.
unfoldable mutual
  pub proper : Sort → Bool
  proper (var v) = true
  proper (par ns b) = false
  proper (node k a w ss) = usual k w && proper_all ss

  pub proper_all : Sorts → Bool
  proper_all end = true
  proper_all (s then ss) = proper s && proper_all ss

-- Every image of a map is such a sort.
unfoldable pub proper_map : Map → Bool
unfolding proper
proper_map empty = true
proper_map (bind v s m) = proper s && proper_map m

-- "Parametric is Par": no Par anywhere in a sort.
unfoldable mutual
  pub parless : Sort → Bool
  parless (var v) = true
  parless (par ns b) = false
  parless (node k a w ss) = parless_all ss

  pub parless_all : Sorts → Bool
  parless_all end = true
  parless_all (s then ss) = parless s && parless_all ss

-- "Par: second list the distinct names, at least one": each Par of a sort has a name. Every sort of a sheet is such.
abbrev pub any_name : List ℕ → Bool
any_name [] = false
any_name (n ∷ ns) = true

unfoldable mutual
  pub named : Sort → Bool
  named (var v) = true
  named (par ns b) = any_name ns && named b
  named (node k a w ss) = named_all ss

  pub named_all : Sorts → Bool
  named_all end = true
  named_all (s then ss) = named s && named_all ss

-- No Var, Par or ParamBitVec anywhere in a sort.
unfoldable mutual
  pub ground : Sort → Bool
  ground (var v) = false
  ground (par ns b) = false
  ground (node k a w ss) = not (eqb k 10) && ground_all ss

  pub ground_all : Sorts → Bool
  ground_all end = true
  ground_all (s then ss) = ground s && ground_all ss
