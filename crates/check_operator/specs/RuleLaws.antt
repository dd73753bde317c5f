-- The verdict of an operator by its ranks is that of its rule, proved for each kind of rule.
use Rattle.std.specs.Prelude.{ℕ, zero, suc, ◌+◌, ◌≤◌, ◌<◌, ◌≡◌, ◌⊎◌, refl, Bool, true, false, cond, ◌&&◌, ◌||◌, List, ◌∷◌, ◌++◌, eqb, leb, ltb}
use Rattle.std.proofs.Common.{sym, ap, ap₂, ◌∙◌, inl, inr, arith, le-leb, eqb-true, leb-true}
use Rattle.std.proofs.Math.Bool.{not}
use Rattle.std.proofs.lemmas.Bool.{false≢true, leb-false, le-ltb}
use Rattle.std.proofs.Math.Option.{Option, none as nothing, some}
use mathlib.Core.Bool.{or-false}
use Rattle.record.specs.Sort.{Sort, Sorts, var, par, node, end, ◌then◌, bool, int, real, array, bitvec, number_in, count, same, same_all}
use Rattle.record.specs.SortLaws.{same_refl}
use Rattle.record.specs.Cases.{and_left, and_right, or_cases, by_test}
use Rattle.substitution.specs.Substitution.{Map, empty, bind, find, apply}
use Rattle.substitution.specs.Matching.{matches, matches_all, keep, and_then}
use Rattle.row_rules.specs.declared.Cause.TheVariants.{NoRank, Count, Misfit}
use Rattle.row_rules.specs.Verdict.{Verdict, sort, refused, need, or_cause}
use Rattle.check_rules.specs.Forms.{takes, when, vector, numbers, stands, computes, sum_of, all_same}
use Rattle.check_rules.specs.FormLaws.{ints-are, reals-are}
use Rattle.check_rules.specs.Rank.{Rank, repeated, stretched, patterns, same_count, counts, vectors_in, every_name, rank_answer, fit, first_fit, some_counts, or_next}
use Rattle.check_rules.specs.Ranks.{RankTable, done, row, enlarged, ranks_in, standard, smt_lib, x, y, one, two, mixture}
use Rattle.check_rules.specs.Checked.{values, only_of, nonempty, ranked, operated}
use Rattle.check_rules.proofs.RankTheorems.{repeated-count}
use Rattle.check_operator.specs.SetRule.{set_ranks}
use Rattle.check_operator.specs.SetLaws.{same-count, counted, exact-count, set-counts, set-nonempty, set-fits}
use Rattle.check_operator.specs.Rule.{Rule, Unranked, All, Fixed, Numbers, Equal, Choose, Select, Store, Vectors, Concat, Sets, Rules, none, range, rules_in, rules, rule_of, plain_sort, fixed_of, as_many_of, number_rank, number_ranks, numbers_result, vectors_result, ranks_of, well_rule, counts_for, choosing, selecting, storing, ruled_select, stored, concatenated, fitted, is_ranked, ruled, one_or_two}

-- The table of ranks, its enlarged rows put together, is the table of rules.
unfoldable plain_table : RankTable → RankTable
plain_table done = done
plain_table (row a b rs t) = row a b rs (plain_table t)
plain_table (enlarged a b rs qs t) = row a b (rs ++ qs) (plain_table t)

ranks-plain : (t : RankTable) (n : ℕ) → ranks_in t n ≡ ranks_in (plain_table t) n
unfolding ranks_in plain_table
ranks-plain done n = refl
ranks-plain (row a b rs t) n = ap (cond (leb a n && leb n b) rs) (ranks-plain t n)
ranks-plain (enlarged a b rs qs t) n = ap (cond (leb a n && leb n b) (rs ++ qs)) (ranks-plain t n)

unfoldable ranks_table : Rules → RankTable
unfolding ranks_of
ranks_table none = done
ranks_table (range a b r t) = row a b (ranks_of r) (ranks_table t)

tables : ranks_table rules ≡ plain_table standard
unfolding ranks_table plain_table rules standard ranks_of set_ranks
tables = refl

ranks-pick : (b : Bool) (r s : Rule) → cond b (ranks_of r) (ranks_of s) ≡ ranks_of (cond b r s)
ranks-pick true r s = refl
ranks-pick false r s = refl

ranks-in : (t : Rules) (n : ℕ) → ranks_in (ranks_table t) n ≡ ranks_of (rules_in t n)
unfolding ranks_table ranks_in rules_in ranks_of
ranks-in none n = refl
ranks-in (range a b r t) n = ap (cond (leb a n && leb n b) (ranks_of r)) (ranks-in t n) ∙ ranks-pick (leb a n && leb n b) r (rules_in t n)

-- The ranks of every operator are those of its rule.
pub ranks-are : (n : ℕ) → smt_lib n ≡ ranks_of (rule_of n)
unfolding smt_lib rule_of
ranks-are n = ranks-plain standard n ∙ sym (ap (λ (t : RankTable). ranks_in t n) tables) ∙ ranks-in rules n

-- Every rule of the table is well formed.
unfoldable all_well : Rules → Bool
unfolding well_rule
all_well none = true
all_well (range a b r t) = well_rule r && all_well t

all-well : all_well rules ≡ true
unfolding all_well rules well_rule
all-well = refl

well-pick : (b : Bool) (r s : Rule) → well_rule r ≡ true → well_rule s ≡ true → well_rule (cond b r s) ≡ true
well-pick true r s p q = p
well-pick false r s p q = q

well-in : (t : Rules) (n : ℕ) → all_well t ≡ true → well_rule (rules_in t n) ≡ true
unfolding all_well rules_in well_rule
well-in none n e = refl
well-in (range a b r t) n e =
    well-pick (leb a n && leb n b) r (rules_in t n) (and_left (well_rule r) (all_well t) e)
    (well-in t n (and_right (well_rule r) (all_well t) e))

pub well-rule : (n : ℕ) → well_rule (rule_of n) ≡ true
unfolding rule_of
well-rule n = well-in rules n all-well

---------------------------------------------------------------- counts
two-count : (p : Sort) (ts : Sorts) → same_count (stretched (two p) ts) ts ≡ leb 2 (count ts)
unfolding same_count stretched count
two-count p end = refl
two-count p (t then end) = refl
two-count p (t then (u then ts)) = repeated-count p ts ∙ sym (le-leb 2 (suc (suc (count ts))) (omega arith))

one-count : (p : Sort) (ts : Sorts) → same_count (stretched (one p) ts) ts ≡ leb 1 (count ts)
unfolding same_count stretched count
one-count p end = refl
one-count p (t then ts) = repeated-count p ts ∙ sym (le-leb 1 (suc (count ts)) (omega arith))

fixed-count : (m a b c : ℕ) → leb m 3 ≡ true → count (fixed_of m a b c) ≡ m
unfolding count
fixed-count zero a b c e = refl
fixed-count (suc zero) a b c e = refl
fixed-count (suc (suc zero)) a b c e = refl
fixed-count (suc (suc (suc zero))) a b c e = refl
fixed-count (suc (suc (suc (suc m)))) a b c e = let z = leb-true (suc (suc (suc (suc m)))) 3 e in absurd (omega arith)

-- All of one sort, of another, or more than one: as many as of one sort.
least_some : (m n : ℕ) → one_or_two m ≡ true → (leb m n || (leb m n || (ltb 1 n || false))) ≡ leb m n
least_some m n e =
    by_test (leb m n)
    (λ h. rw h refl)
    (λ h. rw (h, le-ltb 1 n (under (or_cases (eqb m 1) (eqb m 2) e (λ q. inl (eqb-true m 1 q)) (λ q. inr (eqb-true m 2 q))) (leb-false m n h))) refl)
  where
    under : (m ≡ 1) ⊎ (m ≡ 2) → n < m → n ≤ 1
    under (inl q) l = omega arith
    under (inr q) l = omega arith

least-count : (m : ℕ) (s : Sort) (ts : Sorts) → one_or_two m ≡ true → same_count (stretched (as_many_of m s) ts) ts ≡ leb m (count ts)
least-count zero s ts e = absurd (false≢true e)
least-count (suc zero) s ts e = one-count s ts
least-count (suc (suc zero)) s ts e = two-count s ts
least-count (suc (suc (suc m))) s ts e =
    or_cases (eqb (suc (suc (suc m))) 1) (eqb (suc (suc (suc m))) 2) e
    (λ f. let z = eqb-true (suc (suc (suc m))) 1 f in absurd (omega arith)) (λ f. let z = eqb-true (suc (suc (suc m))) 2 f in absurd (omega arith))

vectors-count : (o : Bool) (m : ℕ) (s : Sort) (ts : Sorts) → one_or_two m ≡ true → same_count (patterns o (as_many_of m s) ts) ts ≡ cond o (leb m (count ts)) (eqb (count ts) m)
vectors-count true m s ts e = least-count m s ts e
vectors-count false m s ts e = exact-count m s ts e

-- A rule has the counts of its ranks.
rule-counts : (r : Rule) (ts : Sorts) → well_rule r ≡ true → some_counts (ranks_of r) ts ≡ counts_for r (count ts)
unfolding some_counts counts takes ranks_of well_rule
rule-counts Unranked ts w = refl
rule-counts (All k r) ts w = or-false (same_count (stretched (two (plain_sort k)) ts) ts) ∙ two-count (plain_sort k) ts
rule-counts (Fixed m a b c r) ts w =
    or-false (same_count (fixed_of m a b c) ts) ∙ same-count (fixed_of m a b c) ts ∙ ap (eqb (count ts)) (fixed-count m a b c (and_left (leb m 3) _ w))
rule-counts (Numbers m r) ts w =
    let e = and_left (one_or_two m) _ w in
    let some = λ (a b : Bool). a || (b || (ltb 1 (count ts) || false)) in
    by_test (eqb r 5)
    (λ q. rw q (ap₂ some (least-count m real ts e) (least-count m int ts e) ∙ least_some m (count ts) e))
    (λ q. rw q (ap₂ some (least-count m int ts e) (least-count m real ts e) ∙ least_some m (count ts) e))
rule-counts Equal ts w = or-false (same_count (stretched (two x) ts) ts) ∙ two-count x ts
rule-counts Choose ts w = or-false (same_count (bool then x then x then end) ts) ∙ counted (bool then x then x then end) ts 3 (unfold count in refl)
rule-counts Select ts w = or-false (same_count (array x y then x then end) ts) ∙ counted (array x y then x then end) ts 2 (unfold count in refl)
rule-counts Store ts w = or-false (same_count (array x y then x then y then end) ts) ∙ counted (array x y then x then y then end) ts 3 (unfold count in refl)
rule-counts (Vectors m o r) ts w =
    or-false (same_count (patterns (eqb o 1) (as_many_of m x) ts) ts) ∙ vectors-count (eqb o 1) m x ts (and_left (one_or_two m) _ w)
rule-counts Concat ts w = or-false (eqb (count ts) 2)
rule-counts (Sets r) ts w = set-counts r ts w

---------------------------------------------------------------- fits
and-then-keep : (b : Bool) (m : Map) (f : Map → Option Map) → and_then (keep b (some m)) f ≡ keep b (f m)
and-then-keep true m f = refl
and-then-keep false m f = refl

keep-keep : (b c : Bool) (o : Option Map) → keep b (keep c o) ≡ keep (b && c) o
keep-keep true c o = refl
keep-keep false c o = refl

keep-true : (b : Bool) (o : Option Map) → keep b o ≡ keep (b && true) o
keep-true true o = refl
keep-true false o = refl

keep-false : (b : Bool) (o : Option Map) → keep b nothing ≡ keep (b && false) o
keep-false true o = refl
keep-false false o = refl

-- A sort without parts matches itself alone.
plain-matches : (ns : ℕ → Bool) (k : ℕ) (t : Sort) (m : Map) → matches ns (plain_sort k) t m ≡ keep (same (plain_sort k) t) (some m)
unfolding matches same
plain-matches ns k (var v) m = refl
plain-matches ns k (par us b) m = refl
plain-matches ns k (node l c w end) m = keep-true (eqb k l && eqb 0 c && eqb 0 w) (some m)
plain-matches ns k (node l c w (s then ss)) m = keep-false (eqb k l && eqb 0 c && eqb 0 w) (some m)

first_plain : (ns : ℕ → Bool) (k : ℕ) (ps : Sorts) (t : Sort) (ts : Sorts) (m : Map)
    → matches_all ns (plain_sort k then ps) (t then ts) m ≡ keep (same (plain_sort k) t) (matches_all ns ps ts m)
unfolding matches
first_plain ns k ps t ts m =
    ap (λ (o : Option Map). and_then o (λ m'. matches_all ns ps ts m')) (plain-matches ns k t m)
    ∙ and-then-keep (same (plain_sort k) t) m (λ m'. matches_all ns ps ts m')

-- A repeated pattern that only one sort matches.
repeat-matches : (ns : ℕ → Bool) (p s : Sort) (m : Map) → ((t : Sort) → matches ns p t m ≡ keep (same s t) (some m)) → (ts : Sorts)
    → matches_all ns (repeated p ts) ts m ≡ keep (all_same s ts) (some m)
unfolding matches repeated all_same
repeat-matches ns p s m h end = refl
repeat-matches ns p s m h (t then ts) =
    ap (λ (o : Option Map). and_then o (λ m'. matches_all ns (repeated p ts) ts m')) (h t)
    ∙ and-then-keep (same s t) m (λ m'. matches_all ns (repeated p ts) ts m')
    ∙ ap (keep (same s t)) (repeat-matches ns p s m h ts) ∙ keep-keep (same s t) (all_same s ts) (some m)

-- Lists of sorts without parts.
none-matches : (ns : ℕ → Bool) (m : Map) (ts : Sorts) → matches_all ns end ts m ≡ keep (same_all end ts) (some m)
unfolding matches same
none-matches ns m end = refl
none-matches ns m (t then ts) = refl

next-matches : (ns : ℕ → Bool) (m : Map) (k : ℕ) (ps : Sorts) → ((ts : Sorts) → matches_all ns ps ts m ≡ keep (same_all ps ts) (some m)) → (ts : Sorts)
    → matches_all ns (plain_sort k then ps) ts m ≡ keep (same_all (plain_sort k then ps) ts) (some m)
unfolding matches same
next-matches ns m k ps h end = refl
next-matches ns m k ps h (t then ts) =
    first_plain ns k ps t ts m ∙ ap (keep (same (plain_sort k) t)) (h ts) ∙ keep-keep (same (plain_sort k) t) (same_all ps ts) (some m)

fixed-matches : (ns : ℕ → Bool) (m : Map) (k a b c : ℕ) (ts : Sorts) → matches_all ns (fixed_of k a b c) ts m ≡ keep (same_all (fixed_of k a b c) ts) (some m)
fixed-matches ns m zero a b c ts = none-matches ns m ts
fixed-matches ns m (suc zero) a b c ts = next-matches ns m a end (none-matches ns m) ts
fixed-matches ns m (suc (suc zero)) a b c ts =
    next-matches ns m a (plain_sort b then end) (next-matches ns m b end (none-matches ns m)) ts
fixed-matches ns m (suc (suc (suc k))) a b c ts =
    next-matches ns m a (plain_sort b then plain_sort c then end)
    (next-matches ns m b (plain_sort c then end) (next-matches ns m c end (none-matches ns m))) ts

few : {C : Type 0} (m n : ℕ) → n < m → leb m n ≡ true → C
few m n h e = let z = leb-true m n e in absurd (omega arith)

-- Repeated patterns of one sort without parts, and of one variable.
least-matches : (m k : ℕ) (ts : Sorts) (o : Map) → one_or_two m ≡ true → leb m (count ts) ≡ true
    → matches_all every_name (stretched (as_many_of m (plain_sort k)) ts) ts o ≡ keep (all_same (plain_sort k) ts) (some o)
unfolding stretched count
least-matches zero k ts o w e = absurd (false≢true w)
least-matches (suc zero) k end o w e = few 1 0 (omega arith) e
least-matches (suc zero) k (t then ts) o w e = repeat-matches every_name (plain_sort k) (plain_sort k) o (λ u. plain-matches every_name k u o) (t then ts)
least-matches (suc (suc zero)) k end o w e = few 2 0 (omega arith) e
least-matches (suc (suc zero)) k (t then end) o w e = few 2 1 (omega arith) e
least-matches (suc (suc zero)) k (t then (u then ts)) o w e =
    repeat-matches every_name (plain_sort k) (plain_sort k) o (λ r. plain-matches every_name k r o) (t then (u then ts))
least-matches (suc (suc (suc m))) k ts o w e =
    or_cases (eqb (suc (suc (suc m))) 1) (eqb (suc (suc (suc m))) 2) w
    (λ f. let z = eqb-true (suc (suc (suc m))) 1 f in absurd (omega arith)) (λ f. let z = eqb-true (suc (suc (suc m))) 2 f in absurd (omega arith))

variable-matches : (t : Sort) (ts : Sorts) → matches_all every_name (x then repeated x ts) (t then ts) empty ≡ keep (all_same t (t then ts)) (some (bind 0 t empty))
unfolding matches find all_same
variable-matches t ts =
    repeat-matches every_name x t (bind 0 t empty) (λ u. refl) ts
    ∙ ap (λ (b : Bool). keep (b && all_same t ts) (some (bind 0 t empty))) (sym (same_refl t))

vector-matches : (o : Bool) (m : ℕ) (ts : Sorts) → one_or_two m ≡ true → cond o (leb m (count ts)) (eqb (count ts) m) ≡ true
    → matches_all every_name (patterns o (as_many_of m x) ts) ts empty ≡ keep (all_same (only_of ts) ts) (some (bind 0 (only_of ts) empty))
unfolding stretched count repeated
vector-matches o zero ts w e = absurd (false≢true w)
vector-matches true (suc zero) end w e = few 1 0 (omega arith) e
vector-matches true (suc zero) (t then ts) w e = variable-matches t ts
vector-matches true (suc (suc zero)) end w e = few 2 0 (omega arith) e
vector-matches true (suc (suc zero)) (t then end) w e = few 2 1 (omega arith) e
vector-matches true (suc (suc zero)) (t then (u then ts)) w e = variable-matches t (u then ts)
vector-matches false (suc zero) end w e = let z = eqb-true 0 1 e in absurd (omega arith)
vector-matches false (suc zero) (t then end) w e = variable-matches t end
vector-matches false (suc zero) (t then (u then ts)) w e = let z = eqb-true (suc (suc (count ts))) 1 e in absurd (omega arith)
vector-matches false (suc (suc zero)) end w e = let z = eqb-true 0 2 e in absurd (omega arith)
vector-matches false (suc (suc zero)) (t then end) w e = let z = eqb-true 1 2 e in absurd (omega arith)
vector-matches false (suc (suc zero)) (t then (u then end)) w e = variable-matches t (u then end)
vector-matches false (suc (suc zero)) (t then (u then (v then ts))) w e = let z = eqb-true (suc (suc (suc (count ts)))) 2 e in absurd (omega arith)
vector-matches o (suc (suc (suc m))) ts w e =
    or_cases (eqb (suc (suc (suc m))) 1) (eqb (suc (suc (suc m))) 2) w
    (λ f. let z = eqb-true (suc (suc (suc m))) 1 f in absurd (omega arith)) (λ f. let z = eqb-true (suc (suc (suc m))) 2 f in absurd (omega arith))

-- The verdict of one rank whose arguments match where a test holds.
by_one : (b : Bool) (m : Map) (r : Sort) (o : Option Map) → o ≡ keep b (some m) → or_cause (or_next (rank_answer false r o) nothing) Misfit ≡ need b Misfit (sort (apply m r))
by_one true m r o e = rw e refl
by_one false m r o e = rw e refl

by-vector : (b : Bool) (t r : Sort) (o : Option Map) → o ≡ keep b (some (bind 0 t empty))
    → or_cause (or_next (rank_answer true r o) nothing) Misfit ≡ need (vector t && b) Misfit (sort (apply (bind 0 t empty) r))
unfolding vectors_in
by-vector true t r o e = rw e (go (vector t))
  where
    go : (v : Bool) → or_cause (or_next (cond (v && true) (some (apply (bind 0 t empty) r)) nothing) nothing) Misfit ≡ need (v && true) Misfit (sort (apply (bind 0 t empty) r))
    go true = refl
    go false = refl
by-vector false t r o e = rw e (go (vector t))
  where
    go : (v : Bool) → refused Misfit ≡ need (v && false) Misfit (sort (apply (bind 0 t empty) r))
    go true = refl
    go false = refl

vector-result : (a b : Bool) (r : ℕ) (t : Sort) → apply (bind 0 t empty) (cond a x (cond b (bitvec 1) (plain_sort r))) ≡ cond a t (cond b (bitvec 1) (plain_sort r))
unfolding apply find
vector-result true b r t = refl
vector-result false true r t = refl
vector-result false false r t = refl

-- The rules of fixed form.
choose-fits : (ts : Sorts) → eqb (count ts) 3 ≡ true → or_cause (or_next (rank_answer false x (matches_all every_name (bool then x then x then end) ts empty)) nothing) Misfit ≡ choosing ts
unfolding count matches find apply
choose-fits end e = let z = eqb-true 0 3 e in absurd (omega arith)
choose-fits (c then end) e = let z = eqb-true 1 3 e in absurd (omega arith)
choose-fits (c then (a then end)) e = let z = eqb-true 2 3 e in absurd (omega arith)
choose-fits (c then (a then (b then end))) e =
    by_one (same bool c && same a b) (bind 0 a empty) x (matches_all every_name (bool then x then x then end) (c then a then b then end) empty)
    (first_plain every_name 3 (x then x then end) c (a then b then end) empty
    ∙ ap (keep (same bool c)) (and-then-keep (same a b) (bind 0 a empty) (λ m. some m)) ∙ keep-keep (same bool c) (same a b) (some (bind 0 a empty)))
choose-fits (c then (a then (b then (d then ts)))) e = let z = eqb-true (suc (suc (suc (suc (count ts))))) 3 e in absurd (omega arith)

-- No match, whatever a test says.
no-match : (b : Bool) (f : Map → Option Map) (r : Sort) → or_cause (or_next (rank_answer false r (and_then (keep b nothing) f)) nothing) Misfit ≡ refused Misfit
no-match true f r = refl
no-match false f r = refl

select-fits : (a j : Sort) → or_cause (or_next (rank_answer false y (matches_all every_name (array x y then x then end) (a then j then end) empty)) nothing) Misfit ≡ selecting a j
unfolding matches find apply
select-fits (var v) j = refl
select-fits (par ns b) j = refl
select-fits (node k n w end) j = no-match (eqb 8 k && eqb 0 n && eqb 0 w) (λ m. matches_all every_name (x then end) (j then end) m) y
select-fits (node k n w (i then end)) j = no-match (eqb 8 k && eqb 0 n && eqb 0 w) (λ m. matches_all every_name (x then end) (j then end) m) y
select-fits (node k n w (i then (e then end))) j =
    let B = eqb 8 k && eqb 0 n && eqb 0 w in
    let M = bind 1 e (bind 0 i empty) in
    by_one (B && same i j) M y (matches_all every_name (array x y then x then end) (node k n w (i then e then end) then j then end) empty)
    (and-then-keep B M (λ m. matches_all every_name (x then end) (j then end) m)
    ∙ ap (keep B) (and-then-keep (same i j) M (λ m. some m)) ∙ keep-keep B (same i j) (some M))
select-fits (node k n w (i then (e then (r then rs)))) j = no-match (eqb 8 k && eqb 0 n && eqb 0 w) (λ m. matches_all every_name (x then end) (j then end) m) y

store-fits : (a j d : Sort) → or_cause (or_next (rank_answer false (array x y) (matches_all every_name (array x y then x then y then end) (a then j then d then end) empty)) nothing) Misfit ≡ storing a j d
unfolding matches find apply
store-fits (var v) j d = refl
store-fits (par ns b) j d = refl
store-fits (node k n w end) j d = no-match (eqb 8 k && eqb 0 n && eqb 0 w) (λ m. matches_all every_name (x then y then end) (j then d then end) m) (array x y)
store-fits (node k n w (i then end)) j d = no-match (eqb 8 k && eqb 0 n && eqb 0 w) (λ m. matches_all every_name (x then y then end) (j then d then end) m) (array x y)
store-fits (node k n w (i then (e then end))) j d =
    let B = eqb 8 k && eqb 0 n && eqb 0 w in
    let M = bind 1 e (bind 0 i empty) in
    by_one (B && (same i j && same e d)) M (array x y) (matches_all every_name (array x y then x then y then end) (node k n w (i then e then end) then j then d then end) empty)
    (and-then-keep B M (λ m. matches_all every_name (x then y then end) (j then d then end) m)
    ∙ ap (keep B) (and-then-keep (same i j) M (λ m. matches_all every_name (y then end) (d then end) m)
    ∙ ap (keep (same i j)) (and-then-keep (same e d) M (λ m. some m)) ∙ keep-keep (same i j) (same e d) (some M))
    ∙ keep-keep B (same i j && same e d) (some M))
store-fits (node k n w (i then (e then (r then rs)))) j d = no-match (eqb 8 k && eqb 0 n && eqb 0 w) (λ m. matches_all every_name (x then y then end) (j then d then end) m) (array x y)

selected-fits : (ts : Sorts) → eqb (count ts) 2 ≡ true → or_cause (or_next (rank_answer false y (matches_all every_name (array x y then x then end) ts empty)) nothing) Misfit ≡ ruled_select ts
unfolding count
selected-fits end e = let z = eqb-true 0 2 e in absurd (omega arith)
selected-fits (a then end) e = let z = eqb-true 1 2 e in absurd (omega arith)
selected-fits (a then (j then end)) e = select-fits a j
selected-fits (a then (j then (d then ts))) e = let z = eqb-true (suc (suc (suc (count ts)))) 2 e in absurd (omega arith)

stored-fits : (ts : Sorts) → eqb (count ts) 3 ≡ true → or_cause (or_next (rank_answer false (array x y) (matches_all every_name (array x y then x then y then end) ts empty)) nothing) Misfit ≡ stored ts
unfolding count
stored-fits end e = let z = eqb-true 0 3 e in absurd (omega arith)
stored-fits (a then end) e = let z = eqb-true 1 3 e in absurd (omega arith)
stored-fits (a then (j then end)) e = let z = eqb-true 2 3 e in absurd (omega arith)
stored-fits (a then (j then (d then end))) e = store-fits a j d
stored-fits (a then (j then (d then (f then ts)))) e = let z = eqb-true (suc (suc (suc (suc (count ts))))) 3 e in absurd (omega arith)

numbers-result : (r k : ℕ) → apply empty (numbers_result r (plain_sort k)) ≡ numbers_result r (plain_sort k)
unfolding apply
numbers-result zero k = refl
numbers-result (suc r) k = refl

-- A rank of numbers fits where all are of its sort.
number-fits : (m r k : ℕ) (ts : Sorts) → one_or_two m ≡ true → leb m (count ts) ≡ true
    → fit (number_rank m r (plain_sort k)) ts ≡ when (all_same (plain_sort k) ts) (numbers_result r (plain_sort k))
unfolding fit
number-fits m r k ts w e =
    ap (rank_answer false (numbers_result r (plain_sort k))) (least-matches m k ts empty w e)
    ∙ go (all_same (plain_sort k) ts)
  where
    go : (b : Bool) → rank_answer false (numbers_result r (plain_sort k)) (keep b (some empty)) ≡ when b (numbers_result r (plain_sort k))
    go true = ap some (numbers-result r k)
    go false = refl

-- All Int, all Real, or mixed, in the order of the ranks: each Int or Real.
int_first : (n i r : Bool) (f : Sort → Sort)
    → or_cause (or_next (when (n && not r) (f int)) (or_next (when (n && not i) (f real)) (or_next (when (n && i && r) (f real)) nothing))) Misfit ≡ need n Misfit (sort (f (cond r real int)))
int_first false i r f = refl
int_first true i false f = refl
int_first true false true f = refl
int_first true true true f = refl

real_first : (n i r : Bool) (s : Sort)
    → or_cause (or_next (when (n && not i) s) (or_next (when (n && not r) s) (or_next (when (n && i && r) s) nothing))) Misfit ≡ need n Misfit (sort s)
real_first false i r s = refl
real_first true false r s = refl
real_first true true false s = refl
real_first true true true s = refl

numbers-fit : (m r : ℕ) (ts : Sorts) → one_or_two m ≡ true → leb m (count ts) ≡ true
    → or_cause (first_fit (number_ranks m r) ts) Misfit ≡ need (numbers ts) Misfit (sort (numbers_result r (sum_of ts)))
unfolding first_fit fit computes
numbers-fit m r ts w e = by_test (eqb r 5) (λ q. rw (eqb-true r 5 q) real-result) (λ q. rw q other)
  where
    mix : Sort → Option Sort
    mix s = when (numbers ts && stands int ts && stands real ts) s

    ints : (k : ℕ) → fit (number_rank m k int) ts ≡ when (numbers ts && not (stands real ts)) (numbers_result k int)
    ints k = number-fits m k 4 ts w e ∙ ap (λ (b : Bool). when b (numbers_result k int)) (ints-are ts)

    reals : (k : ℕ) → fit (number_rank m k real) ts ≡ when (numbers ts && not (stands int ts)) (numbers_result k real)
    reals k = number-fits m k 5 ts w e ∙ ap (λ (b : Bool). when b (numbers_result k real)) (reals-are ts)

    real-result : or_cause (first_fit (number_ranks m 5) ts) Misfit ≡ need (numbers ts) Misfit (sort real)
    real-result =
        ap₂ (λ (o p : Option Sort). or_cause (or_next o (or_next p (or_next (mix real) nothing))) Misfit) (reals 5) (ints 5)
        ∙ real_first (numbers ts) (stands int ts) (stands real ts) real

    other : or_cause (first_fit (number_rank m r int ∷ number_rank m r real ∷ mixture (numbers_result r real)) ts) Misfit ≡ need (numbers ts) Misfit (sort (numbers_result r (sum_of ts)))
    other =
        ap₂ (λ (o p : Option Sort). or_cause (or_next o (or_next p (or_next (mix (numbers_result r real)) nothing))) Misfit) (ints r) (reals r)
        ∙ int_first (numbers ts) (stands int ts) (stands real ts) (numbers_result r)

-- A rank of a form that looks at two arguments.
concat-fit : (ts : Sorts) → or_cause (first_fit (ranks_of Concat) ts) Misfit ≡ concatenated ts
unfolding ranks_of first_fit fit computes
concat-fit end = refl
concat-fit (a then end) = refl
concat-fit (a then (b then end)) = go (vector a && vector b)
  where
    go : (c : Bool) → or_cause (or_next (when c (bitvec (number_in a + number_in b))) nothing) Misfit ≡ need c Misfit (sort (bitvec (number_in a + number_in b)))
    go true = refl
    go false = refl
concat-fit (a then (b then (c then ts))) = refl

-- A RULE FITS as its ranks do.
rule_fits : (r : Rule) (ts : Sorts) → well_rule r ≡ true → counts_for r (count ts) ≡ true → or_cause (first_fit (ranks_of r) ts) Misfit ≡ fitted r ts
unfolding first_fit fit ranks_of fitted well_rule apply
rule_fits Unranked ts w e = refl
rule_fits (All k r) ts w e =
    by_one (all_same (plain_sort k) ts) empty (plain_sort r) (matches_all every_name (stretched (two (plain_sort k)) ts) ts empty) (least-matches 2 k ts empty refl e)
rule_fits (Fixed m a b c r) ts w e =
    by_one (same_all (fixed_of m a b c) ts) empty (plain_sort r) (matches_all every_name (fixed_of m a b c) ts empty) (fixed-matches every_name empty m a b c ts)
rule_fits (Numbers m r) ts w e = numbers-fit m r ts (and_left (one_or_two m) _ w) e
rule_fits Equal ts w e =
    by_one (all_same (only_of ts) ts) (bind 0 (only_of ts) empty) bool (matches_all every_name (stretched (two x) ts) ts empty) (vector-matches true 2 ts refl e)
rule_fits Choose ts w e = choose-fits ts e
rule_fits Select ts w e = selected-fits ts e
rule_fits Store ts w e = stored-fits ts e
rule_fits (Vectors m o r) ts w e =
    by-vector (all_same (only_of ts) ts) (only_of ts) (vectors_result r x) (matches_all every_name (patterns (eqb o 1) (as_many_of m x) ts) ts empty)
    (vector-matches (eqb o 1) m ts (and_left (one_or_two m) _ w) e)
    ∙ ap (λ (s : Sort). need (vector (only_of ts) && all_same (only_of ts) ts) Misfit (sort s)) (vector-result (eqb r 0) (eqb r 9) r (only_of ts))
rule_fits Concat ts w e = concat-fit ts
rule_fits (Sets r) ts w e = ap (λ (o : Option Sort). or_cause o Misfit) (set-fits r ts w e)

---------------------------------------------------------------- the verdict
need-last : (b c : Bool) (v w : Verdict) → (b ≡ true → v ≡ w) → need b Count (need c Misfit v) ≡ need b Count (need c Misfit w)
need-last true true v w h = h refl
need-last true false v w h = refl
need-last false c v w h = refl

is-ranked : (r : Rule) → nonempty (ranks_of r) ≡ is_ranked r
unfolding ranks_of
is-ranked Unranked = refl
is-ranked (All k r) = refl
is-ranked (Fixed m a b c r) = refl
is-ranked (Numbers m r) = by_test (eqb r 5) (λ q. rw q refl) (λ q. rw q refl)
is-ranked Equal = refl
is-ranked Choose = refl
is-ranked Select = refl
is-ranked Store = refl
is-ranked (Vectors m o r) = refl
is-ranked Concat = refl
is-ranked (Sets r) = set-nonempty r

rule-ranked : (r : Rule) (ts : Sorts) → well_rule r ≡ true → ranked (ranks_of r) ts ≡ ruled r ts
unfolding ranked ruled
rule-ranked r ts w =
    ap₂ (λ (a b : Bool). need a NoRank (need b Count (need (values ts) Misfit (or_cause (first_fit (ranks_of r) ts) Misfit)))) (is-ranked r) (rule-counts r ts w)
    ∙ ap (need (is_ranked r) NoRank)
    (need-last (counts_for r (count ts)) (values ts) (or_cause (first_fit (ranks_of r) ts) Misfit) (fitted r ts) (λ e. rule_fits r ts w e))

-- THE VERDICT OF AN OPERATOR is that of its rule.
pub operated-ruled : (n : ℕ) (ts : Sorts) → operated smt_lib n ts ≡ ruled (rule_of n) ts
unfolding operated
operated-ruled n ts = ap (λ (rs : List Rank). ranked rs ts) (ranks-are n) ∙ rule-ranked (rule_of n) ts (well-rule n)
