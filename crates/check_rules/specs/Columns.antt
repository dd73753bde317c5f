-- The columns of tuples and relations, of which a sort has 64 at most. Definitions only; RelationLimits says which answers have more.
use Rattle.std.specs.Prelude.{ℕ, cond, eqb}
use Rattle.record.specs.Sort.{Sort, Sorts, var, par, node, end, kind_of, count}
use Rattle.check_rules.specs.Forms.{element_of}

-- The entries of a tuple; none of another sort.
abbrev pub entries : Sort → Sorts
entries (var v) = end
entries (par ns b) = end
entries (node k a w ss) = cond (eqb k 15) ss end

-- THE COLUMNS of a tuple, and of a relation, a set of tuples; none of another sort.
abbrev pub columns_in : Sort → Sorts
columns_in s = cond (eqb (kind_of s) 14) (entries (element_of s)) (entries s)

-- How many they are.
abbrev pub columns_of : Sort → ℕ
columns_of s = count (columns_in s)
