-- A rule of operators on sets, tuples and relations has the counts of its ranks, and gives what they give: proved for each kind of rule.
use Rattle.std.specs.Prelude.{ℕ, zero, suc, ◌≡◌, ◌↔◌, refl, true, false, ◌&&◌, ◌||◌, eqb, ltb}
use Rattle.std.proofs.Common.{sym, ap, ◌∙◌, arith, eq-eqb, eqb-true, ne_eqb}
use Rattle.std.proofs.Math.Option.{Option, none, some}
use mathlib.Core.Bool.{or-false}
use Rattle.record.specs.Sort.{Sort, Sorts, end, ◌then◌, bool, set, tuple, count, same}
use Rattle.record.specs.SortLaws.{same-sound, same_refl}
use Rattle.record.specs.Cases.{and_left, and_right, or_cases, both_ways, some_inj}
use Rattle.substitution.specs.Substitution.{Map, apply, apply_all}
use Rattle.check_rules.specs.Forms.{on_one, on_two, when, takes, all_same, first_part, element_of, columns}
use Rattle.check_rules.specs.FormLaws.{when-some, one-only, two-only}
use Rattle.check_rules.specs.Rank.{rank, same_count, some_counts, counts, fit, first_fit, or_next}
use Rattle.check_rules.specs.Ranks.{x, one, two, one_rank}
use Rattle.check_rules.specs.RankLaws.{well_rank}
use Rattle.check_rules.specs.Checked.{only_of, nonempty}
use Rattle.check_rules.proofs.FitLaws.{fit-fits, fits-fit}
use Rattle.check_rules.proofs.RelationTheorems.{at, one-parameter}
use Rattle.check_operator.specs.Plain.{one_or_two, as_many_of, numbers_result}
use Rattle.infer_operator.proofs.SingleLaws.{no-parts}
use Rattle.check_operator.specs.SetRule.{SetRule, Alike, Member, Insert, Closure, Singleton, Tuple, TupleUnit, Transpose, Join, Product, pairs, set_ranks, set_counts, is_set, element_in, closed, set_with, set_computes, well_set}

---------------------------------------------------------------- counts
eqb-suc : (m n : ℕ) → eqb (suc m) (suc n) ≡ eqb m n
eqb-suc m n = both_ways (eqb (suc m) (suc n)) (eqb m n)
    (λ e. eq-eqb m n (let z = eqb-true (suc m) (suc n) e in omega arith)) (λ e. eq-eqb (suc m) (suc n) (ap suc (eqb-true m n e)))

-- As many patterns as arguments.
pub same-count : (ps ts : Sorts) → same_count ps ts ≡ eqb (count ts) (count ps)
unfolding same_count count
same-count end end = refl
same-count end (t then ts) = sym (ne_eqb (suc (count ts)) 0 (λ e. absurd (omega arith)))
same-count (p then ps) end = sym (ne_eqb 0 (suc (count ps)) (λ e. absurd (omega arith)))
same-count (p then ps) (t then ts) = same-count ps ts ∙ sym (eqb-suc (count ts) (count ps))

pub counted : (ps ts : Sorts) (m : ℕ) → count ps ≡ m → same_count ps ts ≡ eqb (count ts) m
counted ps ts m e = same-count ps ts ∙ ap (eqb (count ts)) e

pub few_or_many : {C : Type 0} (m : ℕ) → one_or_two m ≡ true → (m ≡ 1 → C) → (m ≡ 2 → C) → C
few_or_many m w f g = or_cases (eqb m 1) (eqb m 2) w (λ e. f (eqb-true m 1 e)) (λ e. g (eqb-true m 2 e))

pub exact-count : (m : ℕ) (s : Sort) (ts : Sorts) → one_or_two m ≡ true → same_count (as_many_of m s) ts ≡ eqb (count ts) m
unfolding count
exact-count m s ts e = few_or_many m e (λ q. rw q (same-count (one s) ts)) (λ q. rw q (same-count (two s) ts))

pub set-counts : (r : SetRule) (ts : Sorts) → well_set r ≡ true → some_counts (set_ranks r) ts ≡ set_counts r (count ts)
unfolding some_counts counts takes set_ranks well_set count
set-counts (Alike m r) ts w = or-false (same_count (as_many_of m (set x)) ts) ∙ exact-count m (set x) ts (and_left (one_or_two m) _ w)
set-counts Member ts w = or-false (same_count (x then set x then end) ts) ∙ counted (x then set x then end) ts 2 refl
set-counts Insert ts w = or-false (ltb 1 (count ts))
set-counts Closure ts w = or-false (same_count (one (pairs x)) ts) ∙ counted (one (pairs x)) ts 1 refl
set-counts Singleton ts w = or-false (same_count (one x) ts) ∙ counted (one x) ts 1 refl
set-counts Tuple ts w = or-false (ltb 0 (count ts))
set-counts TupleUnit ts w = or-false (same_count end ts) ∙ counted end ts 0 refl
set-counts Transpose ts w = or-false (eqb (count ts) 1)
set-counts Join ts w = or-false (eqb (count ts) 2)
set-counts Product ts w = or-false (eqb (count ts) 2)

pub set-nonempty : (r : SetRule) → nonempty (set_ranks r) ≡ true
unfolding set_ranks
set-nonempty (Alike m r) = refl
set-nonempty Member = refl
set-nonempty Insert = refl
set-nonempty Closure = refl
set-nonempty Singleton = refl
set-nonempty Tuple = refl
set-nonempty TupleUnit = refl
set-nonempty Transpose = refl
set-nonempty Join = refl
set-nonempty Product = refl

---------------------------------------------------------------- what a rule gives
-- Two answers that are each a sort exactly where the other is this sort.
same-answer : (o p : Option Sort) → ((s : Sort) → o ≡ some s → p ≡ some s) → ((s : Sort) → p ≡ some s → o ≡ some s) → o ≡ p
same-answer none none f g = refl
same-answer none (some s) f g = g s refl
same-answer (some s) p f g = sym (f s refl)

alone : (o : Option Sort) → or_next o none ≡ o
alone none = refl
alone (some s) = refl

-- A rank with the one parameter x gives what an answer gives that is there exactly for the sorts that it prints.
gives-parameter : (ps : Sorts) (r : Sort) (ts : Sorts) (o : Option Sort) → well_rank (rank false false ps r) ≡ true
    → ((θ : Map) → apply_all θ ps ≡ apply_all (at (apply θ x)) ps) → ((θ : Map) → apply θ r ≡ apply (at (apply θ x)) r)
    → ((s : Sort) → o ≡ some s ↔ ((a : Sort) × (ts ≡ apply_all (at a) ps) × (s ≡ apply (at a) r)))
    → first_fit (one_rank ps r) ts ≡ o
unfolding first_fit
gives-parameter ps r ts o w p q h =
    let R = rank false false ps r in
    alone (fit R ts)
    ∙ same-answer (fit R ts) o
    (λ s f. (h s).1 ((one-parameter ps r p q ts s).0 (fit-fits R ts s w f)))
    (λ s f. fits-fit R ts s w ((one-parameter ps r p q ts s).1 ((h s).0 f)))

is-set : (s : Sort) → is_set s ≡ true → s ≡ set (element_of s)
is-set s e = same-sound s (set (element_of s)) e

-- One set, and two equal ones.
one-set : (f : Sort → Sort) (ts : Sorts) (s : Sort) → eqb (count ts) 1 ≡ true
    → when (is_set (only_of ts) && all_same (only_of ts) ts) (f (only_of ts)) ≡ some s ↔ ((a : Sort) × (ts ≡ set a then end) × (s ≡ f (set a)))
unfolding count all_same
one-set f end s e = let z = eqb-true 0 1 e in absurd (omega arith)
one-set f (t then (u then ts)) s e = let z = eqb-true (suc (suc (count ts))) 1 e in absurd (omega arith)
one-set f (t then end) s e = (
  λ h. let (k, r) = when-some (is_set t && (same t t && true)) (f t) s h in
      let z = is-set t (and_left (is_set t) (same t t && true) k) in (element_of t, ap (◌then end) z, sym r ∙ ap f z),
  λ g. let (a, q, r) = g in
      let z : t ≡ set a = cc in rw (r, z, same_refl (set a)) refl,
)

two-sets : (f : Sort → Sort) (ts : Sorts) (s : Sort) → eqb (count ts) 2 ≡ true
    → when (is_set (only_of ts) && all_same (only_of ts) ts) (f (only_of ts)) ≡ some s ↔ ((a : Sort) × (ts ≡ set a then set a then end) × (s ≡ f (set a)))
unfolding count all_same
two-sets f end s e = let z = eqb-true 0 2 e in absurd (omega arith)
two-sets f (t then end) s e = let z = eqb-true 1 2 e in absurd (omega arith)
two-sets f (t then (u then (v then ts))) s e = let z = eqb-true (suc (suc (suc (count ts)))) 2 e in absurd (omega arith)
two-sets f (t then (u then end)) s e = (
  λ h. let (k, r) = when-some (is_set t && (same t t && (same t u && true))) (f t) s h in
      let z = is-set t (and_left (is_set t) _ k) in
      let y = same-sound t u (and_left (same t u) true (and_right (same t t) _ (and_right (is_set t) _ k))) in
      let w : t then u then end ≡ set (element_of t) then set (element_of t) then end = cc in (element_of t, w, sym r ∙ ap f z),
  λ g. let (a, q, r) = g in
      let z : t ≡ set a = cc in let y : u ≡ set a = cc in rw (r, z, y, same_refl (set a)) refl,
)

result-moved : (r : ℕ) (θ : Map) → apply θ (numbers_result r (set x)) ≡ numbers_result r (set (apply θ x))
unfolding apply
result-moved zero θ = refl
result-moved (suc r) θ = refl

-- The kind of a result of `Alike`.
pub by_result : {C : Type 0} (r : ℕ) → eqb r 0 || (eqb r 3 || eqb r 4) ≡ true → (r ≡ 0 → C) → (r ≡ 3 → C) → (r ≡ 4 → C) → C
by_result r w f g h =
    or_cases (eqb r 0) (eqb r 3 || eqb r 4) w (λ e. f (eqb-true r 0 e))
    (λ v. or_cases (eqb r 3) (eqb r 4) v (λ e. g (eqb-true r 3 e)) (λ e. h (eqb-true r 4 e)))

alike-fits : (m r : ℕ) (ts : Sorts) → one_or_two m ≡ true → eqb (count ts) m ≡ true → well_rank (rank false false (one (set x)) (numbers_result r (set x))) ≡ true → well_rank (rank false false (two (set x)) (numbers_result r (set x))) ≡ true
    → first_fit (one_rank (as_many_of m (set x)) (numbers_result r (set x))) ts ≡ when (is_set (only_of ts) && all_same (only_of ts) ts) (numbers_result r (only_of ts))
unfolding apply
alike-fits m r ts o e w v =
    few_or_many m o
    (λ q. rw q (gives-parameter (one (set x)) (numbers_result r (set x)) ts _ w (λ θ. refl) (λ θ. moved θ) (λ s. read s (one-set (numbers_result r) ts s (rw q at e)))))
    (λ q. rw q (gives-parameter (two (set x)) (numbers_result r (set x)) ts _ v (λ θ. refl) (λ θ. moved θ) (λ s. read s (two-sets (numbers_result r) ts s (rw q at e)))))
  where
    moved : (θ : Map) → apply θ (numbers_result r (set x)) ≡ apply (at (apply θ x)) (numbers_result r (set x))
    moved θ = result-moved r θ ∙ sym (result-moved r (at (apply θ x)))

    read : {A : Type 0} {T : Sort → Sorts} (s : Sort) → A ↔ ((a : Sort) × (ts ≡ T a) × (s ≡ numbers_result r (set a)))
        → A ↔ ((a : Sort) × (ts ≡ T a) × (s ≡ apply (at a) (numbers_result r (set x))))
    read s P = (
      λ h. let (a, q, z) = P.0 h in (a, q, z ∙ sym (result-moved r (at a))),
      λ g. let (a, q, z) = g in P.1 (a, q, z ∙ result-moved r (at a)),
    )

-- A RULE GIVES what its ranks give.
pub set-fits : (r : SetRule) (ts : Sorts) → well_set r ≡ true → set_counts r (count ts) ≡ true → first_fit (set_ranks r) ts ≡ set_computes r ts
unfolding set_ranks set_computes well_set well_rank apply first_fit fit count
set-fits (Alike m r) ts w e =
    let o = and_left (one_or_two m) _ w in
    by_result r (and_right (one_or_two m) _ w)
    (λ q. rw q (alike-fits m 0 ts o e refl refl)) (λ q. rw q (alike-fits m 3 ts o e refl refl)) (λ q. rw q (alike-fits m 4 ts o e refl refl))
set-fits Member ts w e =
    gives-parameter (x then set x then end) bool ts (on_two element_in ts) refl (λ θ. refl) (λ θ. refl)
    (λ s. (
      λ h. let (a, b, q, g) = two-only element_in ts s h in
          let (k, r) = when-some (same b (set a)) bool s g in
          let z = same-sound b (set a) k in
          let y : ts ≡ a then set a then end = cc in (a, y, sym r),
      λ g. let (a, q, r) = g in rw (q, r, same_refl (set a)) refl,
    ))
set-fits Insert ts w e = alone _
set-fits Closure ts w e =
    gives-parameter (one (pairs x)) (pairs x) ts (on_one closed ts) refl (λ θ. refl) (λ θ. refl)
    (λ s. (
      λ h. let (a, q, g) = one-only closed ts s h in
          let (k, r) = when-some (same a (pairs (first_part (columns a)))) a s g in
          let z = same-sound a (pairs (first_part (columns a))) k in
          let y : ts ≡ pairs (first_part (columns a)) then end = cc in (first_part (columns a), y, sym r ∙ z),
      λ g. let (a, q, r) = g in rw (q, r, same_refl (pairs a)) refl,
    ))
set-fits Singleton ts w e =
    gives-parameter (one x) (set x) ts (on_one set_with ts) refl (λ θ. refl) (λ θ. refl)
    (λ s. (
      λ h. let (a, q, g) = one-only set_with ts s h in (a, q, sym (some_inj g)),
      λ g. let (a, q, r) = g in rw (q, r) refl,
    ))
set-fits Tuple ts w e = alone _
set-fits TupleUnit ts w e =
    gives-parameter end (tuple end) ts (some (tuple end)) refl (λ θ. refl) (λ θ. refl)
    (λ s. (λ h. (bool, no-parts ts (eqb-true (count ts) 0 e), sym (some_inj h)), λ g. let (a, q, r) = g in rw r refl))
set-fits Transpose ts w e = alone _
set-fits Join ts w e = alone _
set-fits Product ts w e = alone _
