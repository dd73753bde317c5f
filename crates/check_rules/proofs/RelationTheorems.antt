-- A.2 OF DOCUMENT 02 AS IT IS SAID: which sorts of arguments each operator on sets, tuples and relations takes, and what it gives. No
-- argument is a Par (`values`); what that leaves out gets 26, another count of arguments 25 (`relation-refusals`).
use Rattle.std.specs.Prelude.{ℕ, suc, leb, ◌<◌, ◌≤◌, ◌≡◌, refl, ◌↔◌, ◌⊎◌, true, false, [], ◌∷◌}
use Rattle.std.proofs.Common.{sym, ◌∙◌, inl, inr, arith, leb-true, leb-false}
use Rattle.std.proofs.lemmas.Bool.{false≢true}
use Rattle.record.specs.Sort.{Sort, Sorts, end, ◌then◌, bool, int, set, tuple, count}
use Rattle.record.specs.SortLaws.{same_refl}
use Rattle.substitution.specs.Substitution.{Map, empty, bind, apply, apply_all}
use Rattle.substitution.specs.Premises.{proper}
use Rattle.row_rules.specs.Lists.{joined, appended}
use Rattle.row_rules.specs.declared.Cause.TheVariants.{Barred}
use Rattle.row_rules.specs.Verdict.{sort}
use Rattle.check_rules.specs.Forms.{insert, tupling, transpose, join as joining, product, times, backwards}
use Rattle.check_rules.specs.Rank.{rank, computed}
use Rattle.check_rules.specs.Ranks.{x, one, two, smt_lib}
use Rattle.check_rules.specs.RankLaws.{well_rank}
use Rattle.check_rules.specs.Fits.{Fits}
use Rattle.check_rules.specs.Checked.{values, operated, whole_set, qualified}
use Rattle.check_rules.specs.Added.{Relates, two_sets, complement, member, subset, insertion, singleton, test, cardinality, tuples, no_tuple, transposed, closure, multiplied, join}
use Rattle.check_rules.specs.Parts.{EachValue}
use Rattle.check_rules.proofs.PartTheorems.{each_value-exactly}
use Rattle.check_rules.proofs.RefusalLaws.{by_equal}
use Rattle.record.specs.Cases.{by_test}
use Rattle.check_rules.proofs.RankTheorems.{alone-accepted}
use Rattle.check_rules.proofs.Widths.{share, shared}
use Rattle.check_rules.proofs.RuleTheorems.{need-sort, set-only}

---------------------------------------------------------------- ranks with one parameter
-- A rank with x as its one parameter fits exactly the sorts that it prints, for some sort in the place of x.
abbrev pub at : Sort → Map
at a = bind 0 a empty

pub one-parameter : (ps : Sorts) (r : Sort) → ((θ : Map) → apply_all θ ps ≡ apply_all (at (apply θ x)) ps) → ((θ : Map) → apply θ r ≡ apply (at (apply θ x)) r)
    → (ts : Sorts) (s : Sort) → Fits (rank false false ps r) ts s ↔ ((a : Sort) × (ts ≡ apply_all (at a) ps) × (s ≡ apply (at a) r))
one-parameter ps r p q ts s = (
  λ F. let θ = F.assignment in (apply θ x, sym F.turns ∙ p θ, sym F.result ∙ q θ),
  λ g. let (a, e, f) = g in record { assignment = at a; turns = sym e; widths = λ b v o. absurd (false≢true b); result = sym f },
)

some-first : (ts : Sorts) → 0 < count ts → (a : Sort) × (as' : Sorts) × (ts ≡ a then as')
unfolding count
some-first end h = absurd (omega arith)
some-first (a then as') h = (a, as', refl)

module _ (ts : Sorts) (s : Sort) where
  -- An operator with such a rank.
  pub by-parameter : (n : ℕ) (ps : Sorts) (r : Sort) → smt_lib n ≡ rank false false ps r ∷ [] → well_rank (rank false false ps r) ≡ true
      → ((θ : Map) → apply_all θ ps ≡ apply_all (at (apply θ x)) ps) → ((θ : Map) → apply θ r ≡ apply (at (apply θ x)) r)
      → operated smt_lib n ts ≡ sort s ↔ (values ts ≡ true) × ((a : Sort) × (ts ≡ apply_all (at a) ps) × (s ≡ apply (at a) r))
  by-parameter n ps r e w p q =
      let A = alone-accepted smt_lib n (rank false false ps r) e w ts s in
      let P = one-parameter ps r p q ts s in
      (λ h. let (v, F) = A.0 h in (v, P.0 F), λ g. A.1 (g.0, P.1 g.1))

  ---------------------------------------------------------------- sets
  -- "Union, intersection and difference take two equal sets": 118 to 120.
  pub union-accepted : (n : ℕ) → 118 ≤ n → n ≤ 120
      → operated smt_lib n ts ≡ sort s ↔ (values ts ≡ true) × ((a : Sort) × (ts ≡ set a then set a then end) × (s ≡ set a))
  unfolding share well_rank apply
  union-accepted n a b =
      by-parameter n (two (set x)) (set x) (shared (rank false false (two (set x)) (set x)) 118 3 n refl a (omega arith)) refl (λ θ. refl) (λ θ. refl)

  -- "Member takes an element and its set": 121.
  pub member-accepted : operated smt_lib 121 ts ≡ sort s ↔ (values ts ≡ true) × ((a : Sort) × (ts ≡ a then set a then end) × (s ≡ bool))
  unfolding smt_lib well_rank apply
  member-accepted = by-parameter 121 (x then set x then end) bool refl refl (λ θ. refl) (λ θ. refl)

  -- "subset two equal sets": 122.
  pub subset-accepted : operated smt_lib 122 ts ≡ sort s ↔ (values ts ≡ true) × ((a : Sort) × (ts ≡ set a then set a then end) × (s ≡ bool))
  unfolding smt_lib well_rank apply
  subset-accepted = by-parameter 122 (two (set x)) bool refl refl (λ θ. refl) (λ θ. refl)

  -- "Singleton gives Set": 123.
  pub singleton-accepted : operated smt_lib 123 ts ≡ sort s ↔ (values ts ≡ true) × ((a : Sort) × (ts ≡ a then end) × (s ≡ set a))
  unfolding smt_lib well_rank apply
  singleton-accepted = by-parameter 123 (one x) (set x) refl refl (λ θ. refl) (λ θ. refl)

  -- "the two tests Bool": 124, 125.
  pub tests-accepted : (n : ℕ) → 124 ≤ n → n ≤ 125
      → operated smt_lib n ts ≡ sort s ↔ (values ts ≡ true) × ((a : Sort) × (ts ≡ set a then end) × (s ≡ bool))
  unfolding share well_rank apply
  tests-accepted n a b =
      by-parameter n (one (set x)) bool (shared (rank false false (one (set x)) bool) 124 2 n refl a (omega arith)) refl (λ θ. refl) (λ θ. refl)

  -- "cardinality Int": 126.
  pub cardinality-accepted : operated smt_lib 126 ts ≡ sort s ↔ (values ts ≡ true) × ((a : Sort) × (ts ≡ set a then end) × (s ≡ int))
  unfolding smt_lib well_rank apply
  cardinality-accepted = by-parameter 126 (one (set x)) int refl refl (λ θ. refl) (λ θ. refl)

  -- "Insert takes one or more elements, then their set": 127.
  pub insert-accepted : operated smt_lib 127 ts ≡ sort s
      ↔ (values ts ≡ true) × ((a : Sort) × (n : ℕ) × (ts ≡ times (suc n) a (set a)) × (s ≡ set a))
  unfolding smt_lib well_rank
  insert-accepted = alone-accepted smt_lib 127 (computed insert) refl refl ts s

  -- "complement one": 128.
  pub complement-accepted : operated smt_lib 128 ts ≡ sort s ↔ (values ts ≡ true) × ((a : Sort) × (ts ≡ set a then end) × (s ≡ set a))
  unfolding smt_lib well_rank apply
  complement-accepted = by-parameter 128 (one (set x)) (set x) refl refl (λ θ. refl) (λ θ. refl)

  ---------------------------------------------------------------- tuples and relations
  -- "Tuple takes one or more, TupleUnit none": 129, 130.
  pub tuple-accepted : operated smt_lib 129 ts ≡ sort s ↔ (values ts ≡ true) × ((a : Sort) × (as' : Sorts) × (ts ≡ a then as') × (s ≡ tuple ts))
  unfolding smt_lib well_rank
  tuple-accepted = alone-accepted smt_lib 129 (computed tupling) refl refl ts s

  pub unit-accepted : operated smt_lib 130 ts ≡ sort s ↔ (values ts ≡ true) × (ts ≡ end) × (s ≡ tuple end)
  unfolding smt_lib well_rank apply
  unit-accepted =
      let A = by-parameter 130 end (tuple end) refl refl (λ θ. refl) (λ θ. refl) in
      (λ h. let (v, g) = A.0 h in let (a, e, r) = g in (v, e, r), λ g. let (v, e, r) = g in A.1 (v, (int, e, r)))

  -- "Transpose takes a set of tuples": 131.
  pub transpose-accepted : operated smt_lib 131 ts ≡ sort s
      ↔ (values ts ≡ true) × ((cs : Sorts) × (ts ≡ set (tuple cs) then end) × (s ≡ set (tuple (backwards cs))))
  unfolding smt_lib well_rank
  transpose-accepted = alone-accepted smt_lib 131 (computed transpose) refl refl ts s

  -- "closure a set of pairs of one sort": 132.
  pub closure-accepted : operated smt_lib 132 ts ≡ sort s
      ↔ (values ts ≡ true) × ((a : Sort) × (ts ≡ set (tuple (a then a then end)) then end) × (s ≡ set (tuple (a then a then end))))
  unfolding smt_lib well_rank apply
  closure-accepted = by-parameter 132 (one (set (tuple (two x)))) (set (tuple (two x))) refl refl (λ θ. refl) (λ θ. refl)

  -- "join two whose touching columns agree, both tuples non-empty": 133.
  pub join-accepted : operated smt_lib 133 ts ≡ sort s
      ↔ (values ts ≡ true) × ((as' : Sorts) × (c : Sort) × (bs : Sorts)
      × (ts ≡ set (tuple (joined as' c)) then set (tuple (c then bs)) then end) × (s ≡ set (tuple (appended as' bs))))
  unfolding smt_lib well_rank
  join-accepted = alone-accepted smt_lib 133 (computed joining) refl refl ts s

  -- "product two sets of tuples": 134.
  pub product-accepted : operated smt_lib 134 ts ≡ sort s
      ↔ (values ts ≡ true) × ((as' : Sorts) × (bs : Sorts) × (ts ≡ set (tuple as') then set (tuple bs) then end) × (s ≡ set (tuple (appended as' bs))))
  unfolding smt_lib well_rank
  product-accepted = alone-accepted smt_lib 134 (computed product) refl refl ts s

  ---------------------------------------------------------------- all of them
  -- WHAT A.2 SAYS OF AN OPERATOR gives it its sort at arguments without a Par.
  pub relates-sort : (n : ℕ) → EachValue ts → Relates n ts s → operated smt_lib n ts ≡ sort s
  relates-sort n v R = by_rule n ((each_value-exactly ts).1 v) R
    where
      by_rule : (n : ℕ) → values ts ≡ true → Relates n ts s → operated smt_lib n ts ≡ sort s
      by_rule n v (two_sets a lo hi e r) = (union-accepted n lo hi).1 (v, (a, e, r))
      by_rule n v (complement a q e r) = rw q (complement-accepted.1 (v, (a, e, r)))
      by_rule n v (member a q e r) = rw q (member-accepted.1 (v, (a, e, r)))
      by_rule n v (subset a q e r) = rw q (subset-accepted.1 (v, (a, e, r)))
      by_rule n v (insertion a m q e r) = rw q (insert-accepted.1 (v, (a, m, e, r)))
      by_rule n v (singleton a q e r) = rw q (singleton-accepted.1 (v, (a, e, r)))
      by_rule n v (test a lo hi e r) = (tests-accepted n lo hi).1 (v, (a, e, r))
      by_rule n v (cardinality a q e r) = rw q (cardinality-accepted.1 (v, (a, e, r)))
      by_rule n v (tuples q c r) = let (a, as', e) = some-first ts c in rw q (tuple-accepted.1 (v, (a, as', e, r)))
      by_rule n v (no_tuple q e r) = rw q (unit-accepted.1 (v, e, r))
      by_rule n v (transposed cs q e r) = rw q (transpose-accepted.1 (v, (cs, e, r)))
      by_rule n v (closure a q e r) = rw q (closure-accepted.1 (v, (a, e, r)))
      by_rule n v (multiplied as' bs q e r) = rw q (product-accepted.1 (v, (as', bs, e, r)))
      by_rule n v (join as' c bs q e r) = rw q (join-accepted.1 (v, (as', c, bs, e, r)))

  -- AN OPERATOR ON SETS AND RELATIONS HAS A SORT exactly where none of its arguments is a Par and A.2 says so.
  pub relates-exactly : (n : ℕ) → 118 ≤ n → n ≤ 134 → operated smt_lib n ts ≡ sort s ↔ EachValue ts × Relates n ts s
  relates-exactly n lo hi = (λ h. by_number h, λ g. relates-sort n g.0 g.1)
    where
      V : {X Y : Type 0} → (X → Y) → (values ts ≡ true) × X → EachValue ts × Y
      V f g = ((each_value-exactly ts).0 g.0, f g.1)

      by_number : operated smt_lib n ts ≡ sort s → EachValue ts × Relates n ts s
      by_number h =
          by_test (leb n 120) (λ q. let l = leb-true n 120 q in V (λ g. let (a, e, r) = g in two_sets a lo l e r) ((union-accepted n lo l).0 h))
          (λ q. let l = leb-false n 120 q in
          by_equal n 121 (λ q e. V (λ g. let (a, t, r) = g in member a e t r) (member-accepted.0 (rw e at h)))
          (λ q d121. by_equal n 122 (λ q e. V (λ g. let (a, t, r) = g in subset a e t r) (subset-accepted.0 (rw e at h)))
          (λ q d122. by_equal n 123 (λ q e. V (λ g. let (a, t, r) = g in singleton a e t r) (singleton-accepted.0 (rw e at h)))
          (λ q d123. by_test (leb n 125) (λ q. let m = leb-true n 125 q in
          let k : 124 ≤ n = omega (arith, d121, d122, d123) in V (λ g. let (a, t, r) = g in test a k m t r) ((tests-accepted n k m).0 h))
          (λ q. let m = leb-false n 125 q in
          by_equal n 126 (λ q e. V (λ g. let (a, t, r) = g in cardinality a e t r) (cardinality-accepted.0 (rw e at h)))
          (λ q d126. by_equal n 127 (λ q e. V (λ g. let (a, k, t, r) = g in insertion a k e t r) (insert-accepted.0 (rw e at h)))
          (λ q d127. by_equal n 128 (λ q e. V (λ g. let (a, t, r) = g in complement a e t r) (complement-accepted.0 (rw e at h)))
          (λ q d128. by_equal n 129 (λ q e. V (λ g. let (a, as', t, r) = g in tuples e (rw t (unfold count in omega arith)) r) (tuple-accepted.0 (rw e at h)))
          (λ q d129. by_equal n 130 (λ q e. (let (v, t, r) = unit-accepted.0 (rw e at h) in ((each_value-exactly ts).0 v, no_tuple e t r)))
          (λ q d130. by_equal n 131 (λ q e. V (λ g. let (cs, t, r) = g in transposed cs e t r) (transpose-accepted.0 (rw e at h)))
          (λ q d131. by_equal n 132 (λ q e. V (λ g. let (a, t, r) = g in closure a e t r) (closure-accepted.0 (rw e at h)))
          (λ q d132. by_equal n 133 (λ q e. V (λ g. let (as', c, bs, t, r) = g in join as' c bs e t r) (join-accepted.0 (rw e at h)))
          (λ q d133. let e : n ≡ 134 = omega (arith, d126, d127, d128, d129, d130, d131, d132, d133) in
          V (λ g. let (as', bs, t, r) = g in multiplied as' bs e t r) (product-accepted.0 (rw e at h)))))))))))))))

---------------------------------------------------------------- SetEmpty and SetUniverse
-- "SetEmpty and SetUniverse take no argument and a Set sort": AsOp 1 and 2, with the sort o.
pub whole-accepted : (n : ℕ) → (n ≡ 1) ⊎ (n ≡ 2) → (o : Sort) (ts : Sorts) (s : Sort)
    → qualified n o ts ≡ sort s ↔ (proper o ≡ true) × ((a : Sort) × (o ≡ set a) × (ts ≡ end) × (s ≡ o))
unfolding qualified
whole-accepted n (inl e) o ts s = rw e (
  (λ h. let (p, g) = need-sort (proper o) Barred (whole_set o ts) s h in (p, set-only o ts s g)),
  (λ g. let (p, q) = g in let (a, z, t, r) = q in rw (p, r, t, z, same_refl (set a)) refl),
)
whole-accepted n (inr e) o ts s = rw e (
  (λ h. let (p, g) = need-sort (proper o) Barred (whole_set o ts) s h in (p, set-only o ts s g)),
  (λ g. let (p, q) = g in let (a, z, t, r) = q in rw (p, r, t, z, same_refl (set a)) refl),
)
