-- Sorts as trees (enum Sort of src/ast/sort.rs), their tree size, and when two are equal.
use Rattle.std.specs.Prelude.{ℕ, suc, ◌+◌, Bool, true, false, ◌&&◌, List, [], ◌∷◌, eqb}

infixr 40 ◌then◌
-- A sort: a variable, a Par over its body, or one of the other fourteen kinds. Only Var and Par behave
-- differently in substitution and matching, so only they have a constructor of their own. The kind of a
-- node is its number in enum Sort, from 0; a name or number that the kind lacks is 0.
mutual
  pub data Sort : Type 0 where
    var : (name : ℕ) → Sort
    par : (names : List ℕ) → (body : Sort) → Sort
    node : (kind name number : ℕ) → (parts : Sorts) → Sort

  pub data Sorts : Type 0 where
    end : Sorts
    ◌then◌ : Sort → Sorts → Sorts

-- The constructors of enum Sort, by their numbers (2 Var is `var`, 12 Par is `par`).
-- 0 Function
abbrev pub function : Sorts → Sort
function ss = node 0 0 0 ss

-- 1 Atom
abbrev pub atom : ℕ → Sorts → Sort
atom a ss = node 1 a 0 ss

-- 3 Bool
abbrev pub bool : Sort
bool = node 3 0 0 end

-- 4 Int
abbrev pub int : Sort
int = node 4 0 0 end

-- 5 Real
abbrev pub real : Sort
real = node 5 0 0 end

-- 6 String
abbrev pub string : Sort
string = node 6 0 0 end

-- 7 RegLan
abbrev pub reglan : Sort
reglan = node 7 0 0 end

-- 8 Array
abbrev pub array : Sort → Sort → Sort
array a b = node 8 0 0 (a then b then end)

-- 9 BitVec
abbrev pub bitvec : ℕ → Sort
bitvec w = node 9 0 w end

-- 10 ParamBitVec, a vector of unknown width
abbrev pub param_bit_vec : Sort
param_bit_vec = node 10 0 0 end

-- 11 Datatype
abbrev pub datatype : ℕ → Sorts → Sort
datatype a ss = node 11 a 0 ss

-- 13 Type
abbrev pub type : Sort
type = node 13 0 0 end

-- 14 Set
abbrev pub set : Sort → Sort
set a = node 14 0 0 (a then end)

-- 15 Tuple
abbrev pub tuple : Sorts → Sort
tuple ss = node 15 0 0 ss

-- The kind of a sort, the number of its constructor in enum Sort.
abbrev pub kind_of : Sort → ℕ
kind_of (var v) = 2
kind_of (par ns b) = 12
kind_of (node k a w ss) = k

-- The fields of a sort as a record has them; one that the kind lacks is 0 or empty.
abbrev pub name_in : Sort → ℕ
name_in (var v) = v
name_in (par ns b) = 0
name_in (node k a w ss) = a

abbrev pub number_in : Sort → ℕ
number_in (var v) = 0
number_in (par ns b) = 0
number_in (node k a w ss) = w

abbrev pub parts_of : Sort → Sorts
parts_of (var v) = end
parts_of (par ns b) = b then end
parts_of (node k a w ss) = ss

abbrev pub names_of : Sort → List ℕ
names_of (var v) = []
names_of (par ns b) = ns
names_of (node k a w ss) = []

-- How many sorts a list has.
unfoldable pub count : Sorts → ℕ
count end = 0
count (s then ss) = suc (count ss)

-- "Tree size, 1 plus the sizes of the parts as often as they stand."
unfoldable mutual
  pub size : Sort → ℕ
  size (var v) = 1
  size (par ns b) = 1 + size b
  size (node k a w ss) = 1 + sizes ss

  pub sizes : Sorts → ℕ
  sizes end = 0
  sizes (s then ss) = size s + sizes ss

-- Whether two sorts are equal, field by field down to the leaves (derive(PartialEq) of enum Sort).
unfoldable pub same_names : List ℕ → List ℕ → Bool
same_names [] [] = true
same_names [] (b ∷ bs) = false
same_names (a ∷ as') [] = false
same_names (a ∷ as') (b ∷ bs) = eqb a b && same_names as' bs

unfoldable mutual
  unfolding same_names

  pub same : Sort → Sort → Bool
  same (var v) (var u) = eqb v u
  same (var v) (par ns b) = false
  same (var v) (node k a w ss) = false
  same (par ms c) (var u) = false
  same (par ms c) (par ns b) = same_names ms ns && same c b
  same (par ms c) (node k a w ss) = false
  same (node l c x rs) (var u) = false
  same (node l c x rs) (par ns b) = false
  same (node l c x rs) (node k a w ss) = eqb l k && eqb c a && eqb x w && same_all rs ss

  pub same_all : Sorts → Sorts → Bool
  same_all end end = true
  same_all end (s then ss) = false
  same_all (r then rs) end = false
  same_all (r then rs) (s then ss) = same r s && same_all rs ss
