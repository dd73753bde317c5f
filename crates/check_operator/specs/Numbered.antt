-- A rule of the code as the rule over numbers that it stands for.
use Rattle.std.specs.Prelude.{ℕ, zero, suc, List, length, get_or, map, Option, Some, None, Bool, cond, ◌&&◌, eqb, leb}
use Rattle.record.specs.declared.kinds.SortKind.{SortKind}
use Rattle.check_operator.specs.declared.rule.Arity.{Arity}
use Rattle.check_operator.specs.declared.rule.Arity.TheVariants.{Exactly, AtLeast}
use Rattle.check_operator.specs.declared.rule.Rule.{Rule as Given}
use Rattle.check_operator.specs.declared.sets.SetRule.{SetRule as GivenSets}
use Rattle.record.specs.Kinds.{sort_number}
use Rattle.record.specs.Operators.{operator_number}
use Rattle.record.specs.declared.operators.Operator.{Operator}
use Rattle.check_operator.specs.Rule.{Rule, Unranked, All, Fixed, Numbers, Equal, Choose, Select, Store, Vectors, Concat, Sets, rule_of}
use Rattle.check_operator.specs.SetRule.{SetRule, Alike, Member, Insert, Closure, Singleton, Tuple, TupleUnit, Transpose, Join, Product}

-- The kind at a place of a list; Bool past its end.
abbrev pub kind_in : List SortKind → ℕ → ℕ
kind_in ks i = get_or (map sort_number ks) i 3

-- The kind of a result, 0 where it is of the arguments' sort; a Function is no result, and 16 is no kind.
abbrev pub plain_result : ℕ → ℕ
plain_result zero = 16
plain_result (suc k) = suc k

abbrev pub result_number : Option SortKind → ℕ
result_number None = 0
result_number (Some k) = plain_result (sort_number k)

abbrev pub arity_counts : Arity → ℕ → Bool
arity_counts (Exactly m) n = eqb n m
arity_counts (AtLeast m) n = leb m n

abbrev pub fixed_numbers : List SortKind → SortKind → Rule
fixed_numbers ks r = Fixed (length ks) (kind_in ks 0) (kind_in ks 1) (kind_in ks 2) (sort_number r)

abbrev pub vectors_numbers : Arity → Option SortKind → Rule
vectors_numbers (Exactly m) r = Vectors m 0 (result_number r)
vectors_numbers (AtLeast m) r = Vectors m 1 (result_number r)

abbrev pub set_numbers : GivenSets → SetRule
set_numbers (GivenSets.Alike m r) = Alike m (result_number r)
set_numbers GivenSets.Member = Member
set_numbers GivenSets.Insert = Insert
set_numbers GivenSets.Closure = Closure
set_numbers GivenSets.Singleton = Singleton
set_numbers GivenSets.Tuple = Tuple
set_numbers GivenSets.TupleUnit = TupleUnit
set_numbers GivenSets.Transpose = Transpose
set_numbers GivenSets.Join = Join
set_numbers GivenSets.Product = Product

abbrev pub rule_numbers : Given → Rule
rule_numbers (Given.All k r) = All (sort_number k) (sort_number r)
rule_numbers (Given.Fixed ks r) = fixed_numbers ks.now r
rule_numbers (Given.Numbers m r) = Numbers m (result_number r)
rule_numbers Given.Equal = Equal
rule_numbers Given.Choose = Choose
rule_numbers Given.Select = Select
rule_numbers Given.Store = Store
rule_numbers (Given.Vectors a r) = vectors_numbers a r
rule_numbers Given.Concat = Concat
rule_numbers (Given.Sets r) = Sets (set_numbers r)

-- Without a rule there are no ranks.
abbrev pub ruled_numbers : Option Given → Rule
ruled_numbers None = Unranked
ruled_numbers (Some r) = rule_numbers r

-- The rule of the operator with the number n, where it stands from a to b in enum Operator.
abbrev pub rule_within : Operator → Operator → ℕ → Rule
rule_within a b n = cond (leb (operator_number a) n && leb n (operator_number b)) (rule_of n) Unranked
