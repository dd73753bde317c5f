-- Substitution of sort variables: SortSubstitution::apply of src/ast/substitution.rs. Definitions only.
use Rattle.std.specs.Prelude.{ℕ, Bool, true, false, cond, ◌||◌, List, [], ◌∷◌, eqb}
use Rattle.std.proofs.Math.Option.{Option, none, some}
use Rattle.record.specs.Names.{member}
use Rattle.record.specs.Sort.{Sort, Sorts, var, par, node, end, ◌then◌}

-- The field `map` of SortSubstitution, a RapidHashMap<String, Rc<Sort>>: names with their images. The newest pair of a name counts.
pub data Map : Type 0 where
  empty : Map
  bind : (name : ℕ) → (image : Sort) → Map → Map

-- map.get(v): the image of a name.
unfoldable pub find : Map → ℕ → Option Sort
find empty v = none
find (bind n s m) v = cond (eqb n v) (some s) (find m v)

-- The image that was found, or the sort itself.
abbrev pub or_else : Option Sort → Sort → Sort
or_else none d = d
or_else (some s) d = s

-- map.contains_key(v)
abbrev pub is_some : Option Sort → Bool
is_some none = false
is_some (some s) = true

abbrev pub bound : Map → ℕ → Bool
bound m v = is_some (find m v)

-- vars.iter().filter(|v| !self.map.contains_key(*v)): the names of a Par that a map leaves.
unfoldable pub left : Map → List ℕ → List ℕ
unfolding find
left m [] = []
left m (n ∷ ns) = cond (bound m n) (left m ns) (n ∷ left m ns)

-- if new_vars.is_empty() { new_sort } else { Sort::Par(new_vars, new_sort) }: "with none left the wrapper goes".
abbrev pub under : List ℕ → Sort → Sort
under [] b = b
under (n ∷ ns) b = par (n ∷ ns) b

-- SortSubstitution::apply. "Replacement is simultaneous and images are not replaced again. Under Par, names in the
-- map are replaced too, and Par loses them; with none left the wrapper goes."
unfoldable mutual
  unfolding find left

  pub apply : Map → Sort → Sort
  apply m (var v) = or_else (find m v) (var v)
  apply m (par ns b) = under (left m ns) (apply m b)
  apply m (node k a w ss) = node k a w (apply_all m ss)

  pub apply_all : Map → Sorts → Sorts
  apply_all m end = end
  apply_all m (s then ss) = apply m s then apply_all m ss

-- Every image of the second map put through the first.
unfoldable pub through : Map → Map → Map
unfolding apply
through σ empty = empty
through σ (bind n s m) = bind n (apply σ s) (through σ m)

-- A name stands in a sort, as a variable or as a parameter of a Par.
unfoldable mutual
  unfolding member

  pub occurs : ℕ → Sort → Bool
  occurs n (var v) = eqb v n
  occurs n (par ns b) = member n ns || occurs n b
  occurs n (node k a w ss) = occurs_any n ss

  pub occurs_any : ℕ → Sorts → Bool
  occurs_any n end = false
  occurs_any n (s then ss) = occurs n s || occurs_any n ss
