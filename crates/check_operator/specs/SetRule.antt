-- The rules of the operators on sets, tuples and relations (document 02, A.2): the ranks that a rule stands for, and what it gives as
-- the program decides it. Definitions only; SetLaws proves that a rule gives what its ranks give.
use Rattle.std.specs.Prelude.{ℕ, Bool, true, ◌&&◌, ◌||◌, List, [], ◌∷◌, eqb, ltb}
use Rattle.std.proofs.Math.Option.{Option, some}
use Rattle.record.specs.Sort.{Sort, Sorts, end, ◌then◌, bool, set, tuple, same}
use Rattle.check_rules.specs.Forms.{insert, tupling, transpose, join, product, computes, on_one, on_two, when, all_same, first_part, element_of, columns}
use Rattle.check_rules.specs.Rank.{Rank, computed}
use Rattle.check_rules.specs.Ranks.{x, one, two, one_rank}
use Rattle.check_rules.specs.Checked.{only_of}
use Rattle.check_operator.specs.Plain.{one_or_two, as_many_of, numbers_result}

pub data SetRule : Type 0 where
  -- so many equal sets, one or two; the result is of this kind, Bool or Int, 0 where it is theirs
  Alike : (many result : ℕ) → SetRule
  -- an element and its set
  Member : SetRule
  -- elements, then their set
  Insert : SetRule
  -- a set of pairs of one sort
  Closure : SetRule
  -- what the inferred row's families make
  Singleton : SetRule
  Tuple : SetRule
  TupleUnit : SetRule
  Transpose : SetRule
  Join : SetRule
  Product : SetRule

abbrev pub pairs : Sort → Sort
pairs a = set (tuple (two a))

-- THE RANKS that a rule stands for.
unfoldable pub set_ranks : SetRule → List Rank
set_ranks (Alike m r) = one_rank (as_many_of m (set x)) (numbers_result r (set x))
set_ranks Member = one_rank (x then set x then end) bool
set_ranks Insert = computed insert ∷ []
set_ranks Closure = one_rank (one (pairs x)) (pairs x)
set_ranks Singleton = one_rank (one x) (set x)
set_ranks Tuple = computed tupling ∷ []
set_ranks TupleUnit = one_rank end (tuple end)
set_ranks Transpose = computed transpose ∷ []
set_ranks Join = computed join ∷ []
set_ranks Product = computed product ∷ []

-- A rule has this count of arguments.
abbrev pub set_counts : SetRule → ℕ → Bool
set_counts (Alike m r) n = eqb n m
set_counts Member n = eqb n 2
set_counts Insert n = ltb 1 n
set_counts Closure n = eqb n 1
set_counts Singleton n = eqb n 1
set_counts Tuple n = ltb 0 n
set_counts TupleUnit n = eqb n 0
set_counts Transpose n = eqb n 1
set_counts Join n = eqb n 2
set_counts Product n = eqb n 2

---------------------------------------------------------------- what a rule gives
abbrev pub is_set : Sort → Bool
is_set s = same s (set (element_of s))

abbrev pub element_in : Sort → Sort → Option Sort
element_in a b = when (same b (set a)) bool

abbrev pub closed : Sort → Option Sort
closed s = when (same s (pairs (first_part (columns s)))) s

abbrev pub set_with : Sort → Option Sort
set_with a = some (set a)

-- WHAT A RULE GIVES at arguments of its count, if it takes them.
unfoldable pub set_computes : SetRule → Sorts → Option Sort
unfolding same all_same computes
set_computes (Alike m r) ts = when (is_set (only_of ts) && all_same (only_of ts) ts) (numbers_result r (only_of ts))
set_computes Member ts = on_two element_in ts
set_computes Insert ts = computes insert ts
set_computes Closure ts = on_one closed ts
set_computes Singleton ts = on_one set_with ts
set_computes Tuple ts = computes tupling ts
set_computes TupleUnit ts = some (tuple end)
set_computes Transpose ts = computes transpose ts
set_computes Join ts = computes join ts
set_computes Product ts = computes product ts

-- Counts and results are as the comments of `SetRule` say; a result of its own is Bool or Int.
unfoldable pub well_set : SetRule → Bool
well_set (Alike m r) = one_or_two m && (eqb r 0 || (eqb r 3 || eqb r 4))
well_set Member = true
well_set Insert = true
well_set Closure = true
well_set Singleton = true
well_set Tuple = true
well_set TupleUnit = true
well_set Transpose = true
well_set Join = true
well_set Product = true
