-- The ranks of the operators by families: the rule of each operator, the ranks that a rule stands for, and the verdict of a rule
-- as the program decides it. Definitions only; RuleLaws proves that it is the verdict of the ranks.
use Rattle.std.specs.Prelude.{ℕ, zero, suc, ◌+◌, Bool, true, false, cond, ◌&&◌, ◌||◌, List, [], ◌∷◌, eqb, leb}
use Rattle.record.specs.Sort.{Sort, Sorts, var, par, node, end, ◌then◌, bool, int, real, array, bitvec, number_in, count, same, same_all}
use Rattle.record.specs.Record.{map_of}
use Rattle.row_rules.specs.declared.Cause.TheVariants.{NoRank, Count, Misfit}
use Rattle.row_rules.specs.Verdict.{Verdict, sort, refused, need, or_cause}
use Rattle.check_rules.specs.Forms.{concat, vector, numbers, stands, sum_of, all_same}
use Rattle.check_rules.specs.Rank.{Rank, rank, computed}
use Rattle.check_rules.specs.Ranks.{x, y, two, one_rank, more, mixture}
use Rattle.check_rules.specs.Checked.{values, only_of}
use Rattle.check_operator.specs.SetRule.{SetRule, Alike, Member, Insert, Closure, Singleton, Tuple, TupleUnit, Transpose, Join, Product, set_ranks, set_counts, set_computes, well_set}
pub use Rattle.check_operator.specs.Plain.{plain_sort, plain_kind, one_or_two, as_many_of, numbers_result}

---------------------------------------------------------------- rules
-- What arguments an operator takes and what sort it then has, over the numbers of kinds; `Numbered` has those of the code.
pub data Rule : Type 0 where
  -- no rank
  Unranked : Rule
  -- two or more of the first kind; the second kind is the result's
  All : (kind result : ℕ) → Rule
  -- as many as the first number says, at most three, of the next three kinds, those left out Bool; the last kind is the result's
  Fixed : (many a b c result : ℕ) → Rule
  -- at least so many, one or two, each Int or Real; the result is of this kind, 0 where it is Real if one of them is Real, else Int
  Numbers : (least result : ℕ) → Rule
  Equal : Rule
  Choose : Rule
  Select : Rule
  Store : Rule
  -- so many vectors of one width, or more where the second number is 1; the result is of this kind, 0 where it is theirs
  Vectors : (many more result : ℕ) → Rule
  Concat : Rule
  -- sets, tuples and relations
  Sets : SetRule → Rule

---------------------------------------------------------------- the ranks of a rule
-- The first m of three kinds.
abbrev pub fixed_of : ℕ → ℕ → ℕ → ℕ → Sorts
fixed_of zero a b c = end
fixed_of (suc zero) a b c = plain_sort a then end
fixed_of (suc (suc zero)) a b c = plain_sort a then plain_sort b then end
fixed_of (suc (suc (suc m))) a b c = plain_sort a then plain_sort b then plain_sort c then end

-- The result of vectors: their sort, or the sort of a kind; 9 stands for one bit.
abbrev pub vectors_result : ℕ → Sort → Sort
vectors_result r s = cond (eqb r 0) s (cond (eqb r 9) (bitvec 1) (plain_sort r))

-- Numbers of one sort, and the ranks of all three: all Int, all Real, and mixed. Where the result is Real, 5, all Real stands first.
abbrev pub number_rank : ℕ → ℕ → Sort → Rank
number_rank m r s = rank true false (as_many_of m s) (numbers_result r s)

abbrev pub number_ranks : ℕ → ℕ → List Rank
number_ranks m r =
    cond (eqb r 5) (number_rank m r real ∷ number_rank m r int ∷ mixture (numbers_result r real))
    (number_rank m r int ∷ number_rank m r real ∷ mixture (numbers_result r real))

-- THE RANKS that a rule stands for.
unfoldable pub ranks_of : Rule → List Rank
unfolding set_ranks
ranks_of Unranked = []
ranks_of (All k r) = more (two (plain_sort k)) (plain_sort r)
ranks_of (Fixed m a b c r) = one_rank (fixed_of m a b c) (plain_sort r)
ranks_of (Numbers m r) = number_ranks m r
ranks_of Equal = more (two x) bool
ranks_of Choose = one_rank (bool then x then x then end) x
ranks_of Select = one_rank (array x y then x then end) y
ranks_of Store = one_rank (array x y then x then y then end) (array x y)
ranks_of (Vectors m o r) = rank (eqb o 1) true (as_many_of m x) (vectors_result r x) ∷ []
ranks_of Concat = computed concat ∷ []
ranks_of (Sets r) = set_ranks r

---------------------------------------------------------------- the rule of an operator
-- The rules of the operators from a first to a last number.
pub data Rules : Type 0 where
  none : Rules
  range : (first last : ℕ) → Rule → Rules → Rules

unfoldable pub rules_in : Rules → ℕ → Rule
rules_in none n = Unranked
rules_in (range a b r t) n = cond (leb a n && leb n b) r (rules_in t n)

unfoldable pub rules : Rules
rules =
    range 0 1 (Fixed 0 3 3 3 3)
    (range 2 2 (Fixed 1 3 3 3 3)
    (range 3 6 (All 3 3)
    (range 7 8 Equal
    (range 9 9 Choose
    (range 10 10 (Numbers 2 0)
    (range 11 11 (Numbers 1 0)
    (range 12 12 (Numbers 2 0)
    (range 13 13 (All 4 4)
    (range 14 14 (Numbers 2 5)
    (range 15 15 (Fixed 2 4 4 3 4)
    (range 16 16 (Fixed 1 4 3 3 4)
    (range 17 20 (Numbers 2 3)
    (range 21 21 (Fixed 1 4 3 3 5)
    (range 22 22 (Fixed 1 5 3 3 4)
    (range 23 23 (Fixed 1 5 3 3 3)
    (range 42 42 Select
    (range 43 43 Store
    (range 44 44 (All 6 6)
    (range 45 45 (Fixed 1 6 3 3 4)
    (range 46 47 (All 6 3)
    (range 48 48 (Fixed 2 6 4 3 6)
    (range 49 49 (Fixed 3 6 4 4 6)
    (range 50 52 (Fixed 2 6 6 3 3)
    (range 53 53 (Fixed 3 6 6 4 4)
    (range 55 56 (Fixed 3 6 6 6 6)
    (range 57 58 (Fixed 3 6 7 6 6)
    (range 59 59 (Fixed 1 6 3 3 3)
    (range 60 60 (Fixed 1 6 3 3 4)
    (range 61 61 (Fixed 1 4 3 3 6)
    (range 62 62 (Fixed 1 6 3 3 4)
    (range 63 63 (Fixed 1 4 3 3 6)
    (range 64 64 (Fixed 1 6 3 3 7)
    (range 65 65 (Fixed 2 6 7 3 3)
    (range 66 68 (Fixed 0 3 3 3 7)
    (range 69 71 (All 7 7)
    (range 72 73 (Fixed 1 7 3 3 7)
    (range 74 74 (All 7 7)
    (range 75 76 (Fixed 1 7 3 3 7)
    (range 77 77 (Fixed 2 6 6 3 7)
    (range 79 80 (Vectors 1 0 0)
    (range 81 84 (Vectors 2 1 0)
    (range 85 88 (Vectors 2 0 0)
    (range 89 89 (Vectors 2 0 3)
    (range 90 90 Concat
    (range 91 94 (Vectors 2 0 0)
    (range 95 95 (Vectors 2 0 9)
    (range 96 100 (Vectors 2 0 0)
    (range 101 107 (Vectors 2 0 3)
    (range 108 109 (Vectors 1 0 4)
    (range 118 120 (Sets (Alike 2 0))
    (range 121 121 (Sets Member)
    (range 122 122 (Sets (Alike 2 3))
    (range 123 123 (Sets Singleton)
    (range 124 125 (Sets (Alike 1 3))
    (range 126 126 (Sets (Alike 1 4))
    (range 127 127 (Sets Insert)
    (range 128 128 (Sets (Alike 1 0))
    (range 129 129 (Sets Tuple)
    (range 130 130 (Sets TupleUnit)
    (range 131 131 (Sets Transpose)
    (range 132 132 (Sets Closure)
    (range 133 133 (Sets Join)
    (range 134 134 (Sets Product)
    none)))))))))))))))))))))))))))))))))))))))))))))))))))))))))))))))

-- THE RULE of the operator n.
unfoldable pub rule_of : ℕ → Rule
unfolding rules_in rules
rule_of n = rules_in rules n

---------------------------------------------------------------- the verdict of a rule
-- A rule has this count of arguments.
abbrev pub counts_for : Rule → ℕ → Bool
counts_for Unranked n = false
counts_for (All k r) n = leb 2 n
counts_for (Fixed m a b c r) n = eqb n m
counts_for (Numbers m r) n = leb m n
counts_for Equal n = leb 2 n
counts_for Choose n = eqb n 3
counts_for Select n = eqb n 2
counts_for Store n = eqb n 3
counts_for (Vectors m o r) n = cond (eqb o 1) (leb m n) (eqb n m)
counts_for Concat n = eqb n 2
counts_for (Sets r) n = set_counts r n

abbrev pub choosing : Sorts → Verdict
choosing (c then (a then (b then end))) = need (same bool c && same a b) Misfit (sort a)
choosing end = refused Misfit
choosing (c then end) = refused Misfit
choosing (c then (a then end)) = refused Misfit
choosing (c then (a then (b then (d then ts)))) = refused Misfit

-- An array at an index, and at an index and an element.
abbrev pub selecting : Sort → Sort → Verdict
selecting (var v) j = refused Misfit
selecting (par ns b) j = refused Misfit
selecting (node k n w end) j = refused Misfit
selecting (node k n w (i then end)) j = refused Misfit
selecting (node k n w (i then (e then end))) j = need (eqb 8 k && eqb 0 n && eqb 0 w && same i j) Misfit (sort e)
selecting (node k n w (i then (e then (r then rs)))) j = refused Misfit

abbrev pub storing : Sort → Sort → Sort → Verdict
storing (var v) j d = refused Misfit
storing (par ns b) j d = refused Misfit
storing (node k n w end) j d = refused Misfit
storing (node k n w (i then end)) j d = refused Misfit
storing (node k n w (i then (e then end))) j d = need (eqb 8 k && eqb 0 n && eqb 0 w && (same i j && same e d)) Misfit (sort (array i e))
storing (node k n w (i then (e then (r then rs)))) j d = refused Misfit

abbrev pub ruled_select : Sorts → Verdict
ruled_select (a then (j then end)) = selecting a j
ruled_select end = refused Misfit
ruled_select (a then end) = refused Misfit
ruled_select (a then (j then (d then ts))) = refused Misfit

abbrev pub stored : Sorts → Verdict
stored (a then (j then (d then end))) = storing a j d
stored end = refused Misfit
stored (a then end) = refused Misfit
stored (a then (j then end)) = refused Misfit
stored (a then (j then (d then (f then ts)))) = refused Misfit

abbrev pub concatenated : Sorts → Verdict
concatenated (a then (b then end)) = need (vector a && vector b) Misfit (sort (bitvec (number_in a + number_in b)))
concatenated end = refused Misfit
concatenated (a then end) = refused Misfit
concatenated (a then (b then (c then ts))) = refused Misfit

-- What a rule gives at arguments of its count, none of them a Par.
unfoldable pub fitted : Rule → Sorts → Verdict
unfolding same all_same numbers stands set_computes
fitted Unranked ts = refused Misfit
fitted (All k r) ts = need (all_same (plain_sort k) ts) Misfit (sort (plain_sort r))
fitted (Fixed m a b c r) ts = need (same_all (fixed_of m a b c) ts) Misfit (sort (plain_sort r))
fitted (Numbers m r) ts = need (numbers ts) Misfit (sort (numbers_result r (sum_of ts)))
fitted Equal ts = need (all_same (only_of ts) ts) Misfit (sort bool)
fitted Choose ts = choosing ts
fitted Select ts = ruled_select ts
fitted Store ts = stored ts
fitted (Vectors m o r) ts = need (vector (only_of ts) && all_same (only_of ts) ts) Misfit (sort (vectors_result r (only_of ts)))
fitted Concat ts = concatenated ts
fitted (Sets r) ts = or_cause (set_computes r ts) Misfit

abbrev pub is_ranked : Rule → Bool
is_ranked Unranked = false
is_ranked (All k r) = true
is_ranked (Fixed m a b c r) = true
is_ranked (Numbers m r) = true
is_ranked Equal = true
is_ranked Choose = true
is_ranked Select = true
is_ranked Store = true
is_ranked (Vectors m o r) = true
is_ranked Concat = true
is_ranked (Sets r) = true

-- THE VERDICT OF A RULE: 24 without a rank, 25 with another count, 26 where an argument is a Par or does not fit.
unfoldable pub ruled : Rule → Sorts → Verdict
unfolding fitted values count
ruled r ts = need (is_ranked r) NoRank (need (counts_for r (count ts)) Count (need (values ts) Misfit (fitted r ts)))

---------------------------------------------------------------- rules as the table has them
-- Kinds are those of sorts without parts, and counts as the comments of `Rule` say.
unfoldable pub well_rule : Rule → Bool
unfolding map_of well_set
well_rule Unranked = true
well_rule (All k r) = plain_kind k && plain_kind r
well_rule (Fixed m a b c r) = leb m 3 && (plain_kind a && (plain_kind b && (plain_kind c && plain_kind r)))
well_rule (Numbers m r) = one_or_two m && (eqb r 0 || plain_kind r)
well_rule Equal = true
well_rule Choose = true
well_rule Select = true
well_rule Store = true
well_rule (Vectors m o r) = one_or_two m && (eqb r 0 || eqb r 9 || plain_kind r)
well_rule Concat = true
well_rule (Sets r) = well_set r
