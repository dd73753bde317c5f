-- What the rules of operators are made of: sorts of kinds without parts, one or two of a sort, and results.
use Rattle.std.specs.Prelude.{ℕ, zero, suc, Bool, ◌||◌, eqb}
use Rattle.record.specs.Sort.{Sort, Sorts, node, end}
use Rattle.record.specs.Record.{map_of}
use Rattle.check_rules.specs.Ranks.{one, two}

-- The sort of a kind without parts.
abbrev pub plain_sort : ℕ → Sort
plain_sort k = node k 0 0 end

abbrev pub plain_kind : ℕ → Bool
plain_kind k = eqb (map_of k) 1

-- One or two of a sort.
abbrev pub one_or_two : ℕ → Bool
one_or_two m = eqb m 1 || eqb m 2

abbrev pub as_many_of : ℕ → Sort → Sorts
as_many_of zero s = two s
as_many_of (suc zero) s = one s
as_many_of (suc (suc m)) s = two s

-- The result: this sort, or the sort of a kind.
abbrev pub numbers_result : ℕ → Sort → Sort
numbers_result zero s = s
numbers_result (suc r) s = plain_sort (suc r)
