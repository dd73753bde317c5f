-- Which arguments have to be looked at for a Par before the fit of a rule: none where the rule takes values alone, the first where the others
-- are to be equal to it or the set of it.
use Rattle.std.specs.Prelude.{ℕ, zero, suc, ◌+◌, ◌*◌, ◌≤◌, ◌≡◌, refl, Bool, true, false, ◌&&◌, List, length, Option, min}
use Rattle.std.proofs.Common.{sym, ap, subst, ◌∙◌, arith}
use Rattle.std.proofs.lemmas.Bool.{false≢true}
use Rattle.std.proofs.Math.Option.{Option as Opt, none, some}
use mathlib.Core.Bool.{and-true as and-unit}
use Rattle.record.specs.Number.{numbers_at}
use Rattle.record.specs.declared.kinds.SortKind.{SortKind}
use Rattle.record.specs.Sort.{Sort, Sorts, bool, end, ◌then◌, set, bitvec, number_in, same, same_all}
use Rattle.record.specs.SortLaws.{same-sound, same_all-sound}
use Rattle.record.specs.Record.{sorts_of}
use Rattle.record.specs.Cases.{and_left, and_right, and-true, by_test as test}
use Rattle.row_rules.specs.declared.Cause.TheVariants.{Misfit}
use Rattle.row_rules.specs.Verdict.{Verdict, sort, refused, need, or_cause}
use Rattle.check_rules.specs.Checked.{value, values, only_of}
use Rattle.check_rules.specs.Forms.{insert, transpose, join, product, times, vector, numbers, all_same, sum_of, first_part, element_of, columns}
use Rattle.check_rules.specs.FormLaws.{when-some, one-only, two-only, vector-is, numbers-only, computes-only}
use Rattle.check_rules.proofs.NumberTheorems.{numbers-values}
use Rattle.row_answer.specs.Values.{ValuesHave}
use Rattle.check_operator.specs.declared.rule.Arity.{Arity}
use Rattle.check_operator.specs.declared.rule.Arity.TheVariants.{Exactly, AtLeast}
use Rattle.check_operator.specs.Rule.{Rule, Unranked, All, Fixed, Numbers, Equal, Choose, Select, Store, Vectors, Concat, Sets, plain_sort, fixed_of, numbers_result, vectors_result, fitted}
use Rattle.check_operator.specs.SetRule.{SetRule, Alike, Member, Insert, Closure, Singleton, Tuple, TupleUnit, Transpose, Join, Product, pairs, is_set, element_in, closed, set_computes}
use Rattle.check_operator.specs.Numbered.{vectors_numbers}
use Rattle.check_operator.specs.Contract.{args_of, FirstHas, TestsValues}

---------------------------------------------------------------- tests that stand for one another
-- Two tests before a verdict may stand for one another if they are equal wherever the verdict is a sort.
never : (c : Bool) → need c Misfit (refused Misfit) ≡ refused Misfit
never true = refl
never false = refl

by_need : (c : Bool) (v : Verdict) {t r : Bool} → (c ≡ true → t ≡ r) → need t Misfit (need c Misfit v) ≡ need r Misfit (need c Misfit v)
by_need true v h = ap (λ (x : Bool). need x Misfit v) (h refl)
by_need false v {t} {r} h = never t ∙ sym (never r)

by_cause : (o : Opt Sort) {t r : Bool} → ((s : Sort) → o ≡ some s → t ≡ r) → need t Misfit (or_cause o Misfit) ≡ need r Misfit (or_cause o Misfit)
by_cause (some s) h = ap (λ (x : Bool). need x Misfit (sort s)) (h s refl)
by_cause none {t} {r} h = never t ∙ sym (never r)

---------------------------------------------------------------- sorts that are values
-- Sorts equal to one are values where it is one.
same-values : (s : Sort) (ts : Sorts) → value s ≡ true → all_same s ts ≡ true → values ts ≡ true
unfolding all_same values
same-values s end v e = refl
same-values s (t then ts) v e =
    and-true (value t) (values ts) (sym (ap value (same-sound s t (and_left (same s t) (all_same s ts) e))) ∙ v)
    (same-values s ts v (and_right (same s t) (all_same s ts) e))

fixed-values : (m a b c : ℕ) → values (fixed_of m a b c) ≡ true
unfolding values
fixed-values zero a b c = refl
fixed-values (suc zero) a b c = refl
fixed-values (suc (suc zero)) a b c = refl
fixed-values (suc (suc (suc m))) a b c = refl

-- What is equal to a vector or to a set is a value.
module _ (ts : Sorts) where
  vectors-values : (vector (only_of ts) && all_same (only_of ts) ts) ≡ true → values ts ≡ true
  vectors-values e =
      let c = and_left (vector (only_of ts)) (all_same (only_of ts) ts) e in
      same-values (only_of ts) ts (ap value (vector-is (only_of ts) c)) (and_right (vector (only_of ts)) (all_same (only_of ts) ts) e)

  sets-values : (is_set (only_of ts) && all_same (only_of ts) ts) ≡ true → values ts ≡ true
  sets-values e =
      let c = and_left (is_set (only_of ts)) (all_same (only_of ts) ts) e in
      same-values (only_of ts) ts (ap value (same-sound (only_of ts) (set (element_of (only_of ts))) c)) (and_right (is_set (only_of ts)) (all_same (only_of ts) ts) e)

---------------------------------------------------------------- rules that take values alone
concat-taken : (ts : Sorts) → need (values ts) Misfit (fitted Concat ts) ≡ fitted Concat ts
unfolding fitted values
concat-taken end = refl
concat-taken (a then end) = never (value a && true)
concat-taken (a then (b then end)) =
    by_need (vector a && vector b) (sort (bitvec (number_in a + number_in b))) {r = true}
    (λ e. and-true (value a) (value b && true) (ap value (vector-is a (and_left (vector a) (vector b) e)))
    (ap (λ (t : Sort). value t && true) (vector-is b (and_right (vector a) (vector b) e))))
concat-taken (a then (b then (c then ts))) = never (value a && (value b && (value c && values ts)))

-- The rules that take values alone.
abbrev pub set_takes_values : SetRule → Bool
set_takes_values (Alike m r) = true
set_takes_values Member = false
set_takes_values Insert = false
set_takes_values Closure = true
set_takes_values Singleton = false
set_takes_values Tuple = false
set_takes_values TupleUnit = false
set_takes_values Transpose = true
set_takes_values Join = true
set_takes_values Product = true

abbrev pub takes_values : Rule → Bool
takes_values Unranked = true
takes_values (All k r) = true
takes_values (Fixed m a b c r) = true
takes_values (Numbers m r) = true
takes_values Equal = false
takes_values Choose = false
takes_values Select = false
takes_values Store = false
takes_values (Vectors m o r) = true
takes_values Concat = true
takes_values (Sets r) = set_takes_values r

set-taken : (r : SetRule) (ts : Sorts) (s : Sort) → set_takes_values r ≡ true → set_computes r ts ≡ some s → values ts ≡ true
unfolding set_computes values
set-taken (Alike m r) ts s f h = sets-values ts (when-some (is_set (only_of ts) && all_same (only_of ts) ts) (numbers_result r (only_of ts)) s h).0
set-taken Member ts s f h = absurd (false≢true f)
set-taken Insert ts s f h = absurd (false≢true f)
set-taken Closure ts s f h =
    let (a, e, g) = one-only closed ts s h in
    let z = same-sound a (pairs (first_part (columns a))) (when-some (same a (pairs (first_part (columns a)))) a s g).0 in
    ap values e ∙ ap (λ (t : Sort). value t && true) z
set-taken Singleton ts s f h = absurd (false≢true f)
set-taken Tuple ts s f h = absurd (false≢true f)
set-taken TupleUnit ts s f h = absurd (false≢true f)
set-taken Transpose ts s f h = let (cs, e, r) = computes-only transpose ts s h in ap values e
set-taken Join ts s f h = let (as', c, bs, e, r) = computes-only join ts s h in ap values e
set-taken Product ts s f h = let (as', bs, e, r) = computes-only product ts s h in ap values e

-- Before the fit of such a rule no argument has to be looked at.
taken : (r : Rule) (ts : Sorts) → takes_values r ≡ true → need (values ts) Misfit (fitted r ts) ≡ fitted r ts
unfolding fitted
taken Unranked ts f = never (values ts)
taken (All k r) ts f = by_need (all_same (plain_sort k) ts) (sort (plain_sort r)) {r = true} (λ e. same-values (plain_sort k) ts refl e)
taken (Fixed m a b c r) ts f =
    by_need (same_all (fixed_of m a b c) ts) (sort (plain_sort r)) {r = true}
    (λ e. sym (ap values (same_all-sound (fixed_of m a b c) ts e)) ∙ fixed-values m a b c)
taken (Numbers m r) ts f = by_need (numbers ts) (sort (numbers_result r (sum_of ts))) {r = true} (λ e. numbers-values ts (numbers-only ts e))
taken Equal ts f = absurd (false≢true f)
taken Choose ts f = absurd (false≢true f)
taken Select ts f = absurd (false≢true f)
taken Store ts f = absurd (false≢true f)
taken (Vectors m o r) ts f =
    by_need (vector (only_of ts) && all_same (only_of ts) ts) (sort (vectors_result r (only_of ts))) {r = true} (λ e. vectors-values ts e)
taken Concat ts f = concat-taken ts
taken (Sets r) ts f = by_cause (set_computes r ts) {r = true} (λ s h. set-taken r ts s f h)

---------------------------------------------------------------- rules of which the first argument tells
-- A list is one of values just where its first is one, if the others are values then.
by_first : (t : Sort) (ts : Sorts) → (value t ≡ true → values ts ≡ true) → values (t then ts) ≡ value t
unfolding values
by_first t ts h = test (value t) (λ q. and-true (value t) (values ts) q (h q) ∙ sym q) (λ q. ap (◌&& values ts) q ∙ sym q)

same-first : (ts : Sorts) → all_same (only_of ts) ts ≡ true → values ts ≡ value (only_of ts)
unfolding all_same values
same-first end e = refl
same-first (t then ts) e = by_first t ts (λ q. same-values t ts q (and_right (same t t) (all_same t ts) e))

times-values : (n : ℕ) (x : Sort) → value x ≡ true → values (times n x (set x)) ≡ true
unfolding values times
times-values zero x v = refl
times-values (suc n) x v = and-true (value x) (values (times n x (set x))) v (times-values n x v)

member-first : (ts : Sorts) (s : Sort) → set_computes Member ts ≡ some s → values ts ≡ value (only_of ts)
unfolding set_computes values
member-first ts s h =
    let (a, b, e, g) = two-only element_in ts s h in
    let z = same-sound b (set a) (when-some (same b (set a)) bool s g).0 in
    ap values e ∙ by_first a (b then end) (λ q. ap (λ (t : Sort). value t && true) z) ∙ sym (ap (λ (us : Sorts). value (only_of us)) e)

insert-first : (ts : Sorts) (s : Sort) → set_computes Insert ts ≡ some s → values ts ≡ value (only_of ts)
unfolding set_computes times
insert-first ts s h =
    let (x, n, e, r) = computes-only insert ts s h in
    ap values e ∙ by_first x (times n x (set x)) (times-values n x) ∙ sym (ap (λ (us : Sorts). value (only_of us)) e)

---------------------------------------------------------------- the arguments of a term
module _ {b p a : List ℕ} {m : ℕ} where
  -- A rule that takes values alone needs no test.
  pub taken_tested : (r : Rule) → takes_values r ≡ true → TestsValues b p a m r true
  taken_tested r f n o = taken r (args_of b p n a m) f

  -- The first argument tells.
  module _ (t : Bool) (h : FirstHas b p a m t) where
    pub equal_tested : TestsValues b p a m Equal t
    unfolding fitted
    equal_tested n o =
        let ts = args_of b p n a m in
        by_need (all_same (only_of ts) ts) (sort bool) (λ e. same-first ts e ∙ sym (h n o))

    pub member_tested : TestsValues b p a m (Sets Member) t
    unfolding fitted
    member_tested n o =
        let ts = args_of b p n a m in
        by_cause (set_computes Member ts) (λ s q. member-first ts s q ∙ sym (h n o))

    pub insert_tested : TestsValues b p a m (Sets Insert) t
    unfolding fitted
    insert_tested n o =
        let ts = args_of b p n a m in
        by_cause (set_computes Insert ts) (λ s q. insert-first ts s q ∙ sym (h n o))

-- Rules on vectors take values alone, however many.
pub vectors_take : (y : Arity) (o : Option SortKind) → takes_values (vectors_numbers y o) ≡ true
vectors_take (Exactly l) o = refl
vectors_take (AtLeast l) o = refl

-- The first argument as a list of its own, which is empty where there is none.
first_list : (b p : List ℕ) (n : ℕ) (a : List ℕ) (i j : ℕ) → j ≡ min i 1 → values (args_of b p n a j) ≡ value (only_of (args_of b p n a i))
unfolding values sorts_of numbers_at
first_list b p n a zero j e = rw e refl
first_list b p n a (suc i) j e = let z : j ≡ 1 = omega (arith, e) in rw z (and-unit _)

pub first_had : {b p a : List ℕ} {m x j : ℕ} {t : Bool} → 3 + 2 * m ≤ length a → x ≡ 3 → j ≡ min m 1 → ValuesHave b p a x j t → FirstHas b p a m t
first_had {b} {p} {a} {m} {x} {j} {t} w ex ej h n o =
    let l : j ≤ m = omega arith in
    let g : ValuesHave b p a 3 j t = subst (λ (y : ℕ). ValuesHave b p a y j t) ex h in
    g n o.stored (record { within = omega arith; below = λ i k. o.below i (omega arith) }) ∙ first_list b p n a m j ej
