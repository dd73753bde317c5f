-- EVERY CAUSE OF THE CHECKED ROW of the operators on sets, tuples and relations (document 02, A.2: 118 to 134), exactly when it is given: 25 for
-- the count alone, else 26 where an argument is a Par or the sorts are not as A.2 says. Never 24, 28 or 27.
use Rattle.std.specs.Prelude.{ℕ, ◌≤◌, ◌<◌, ◌+◌, ◌≡◌, refl, ◌↔◌, ◌⊎◌, Bool, true, false, List, [], ◌∷◌, eqb, leb, ltb}
use Rattle.std.proofs.Common.{sym, ◌∙◌, inl, inr, arith, eqb-true, eq-eqb, ltb-true, lt-ltb, leb-true, leb-false}
use Rattle.std.proofs.lemmas.Bool.{false≢true}
use Rattle.record.specs.Sort.{Sort, Sorts, count}
use Rattle.record.specs.Cases.{or_cases, or-first, by_test, clash}
use Rattle.row_rules.specs.Term.{Site}
use Rattle.check_rules.specs.Forms.{concat, mixed, insert, tupling, transpose, join, product, takes}
use Rattle.check_rules.specs.Rank.{Rank, rank, computed, counts, some_counts}
use Rattle.check_rules.specs.Ranks.{smt_lib}
use Rattle.check_rules.specs.Checked.{nonempty, operated, checked}
use Rattle.check_rules.specs.Refusals.{Exactly}
use Rattle.check_rules.specs.Parts.{EachValue}
use Rattle.check_rules.specs.Added.{Relates, RelationCounts, takes_none, takes_one, takes_two, takes_some, takes_more}
use Rattle.check_rules.proofs.Runs.{run, run-at}
use Rattle.check_rules.proofs.RankTheorems.{same_count-number}
use Rattle.check_rules.proofs.RefusalLaws.{by_equal}
use Rattle.check_rules.proofs.RefusalTheorems.{table-refusals}
use Rattle.check_rules.proofs.FitLaws.{by_ranked, sort-refused}
use Rattle.row_rules.specs.declared.Cause.TheVariants.{Count, Misfit}
use Rattle.row_rules.specs.Verdict.{sort, refused}
use Rattle.check_rules.proofs.RelationTheorems.{relates-sort, relates-exactly}

---------------------------------------------------------------- operators that take one count
-- One rank, which takes exactly k arguments, by computation.
abbrev just : ℕ → Rank → Bool
unfolding count
just k (rank true vs ps r) = false
just k (rank false vs ps r) = eqb (count ps) k
just k (computed concat) = eqb k 2
just k (computed (mixed r)) = false
just k (computed insert) = false
just k (computed tupling) = false
just k (computed transpose) = eqb k 1
just k (computed join) = eqb k 2
just k (computed product) = eqb k 2

abbrev only_just : ℕ → List Rank → Bool
only_just k [] = false
only_just k (r ∷ []) = just k r
only_just k (r ∷ (q ∷ qs)) = false

-- The operators from n on, m of them, do.
unfoldable all_just : ℕ → ℕ → ℕ → Bool
unfolding smt_lib run count
all_just k n m = run (λ i. only_just k (smt_lib i)) n m

just-counts : (k : ℕ) (r : Rank) (ts : Sorts) → just k r ≡ true → counts r ts ≡ true ↔ (count ts ≡ k)
unfolding counts takes
just-counts k (rank true vs ps r) ts e = absurd (false≢true e)
just-counts k (rank false vs ps r) ts e =
    let S = same_count-number ps ts in let c = eqb-true (count ps) k e in (λ h. sym (S.0 h) ∙ c, λ h. S.1 (c ∙ sym h))
just-counts k (computed concat) ts e = let c = eqb-true k 2 e in (λ h. eqb-true (count ts) 2 h ∙ sym c, λ h. eq-eqb (count ts) 2 (h ∙ c))
just-counts k (computed (mixed r)) ts e = absurd (false≢true e)
just-counts k (computed insert) ts e = absurd (false≢true e)
just-counts k (computed tupling) ts e = absurd (false≢true e)
just-counts k (computed transpose) ts e = let c = eqb-true k 1 e in (λ h. eqb-true (count ts) 1 h ∙ sym c, λ h. eq-eqb (count ts) 1 (h ∙ c))
just-counts k (computed join) ts e = let c = eqb-true k 2 e in (λ h. eqb-true (count ts) 2 h ∙ sym c, λ h. eq-eqb (count ts) 2 (h ∙ c))
just-counts k (computed product) ts e = let c = eqb-true k 2 e in (λ h. eqb-true (count ts) 2 h ∙ sym c, λ h. eq-eqb (count ts) 2 (h ∙ c))

only-counts : (k : ℕ) (rs : List Rank) (ts : Sorts) → only_just k rs ≡ true → some_counts rs ts ≡ true ↔ (count ts ≡ k)
unfolding some_counts
only-counts k [] ts e = absurd (false≢true e)
only-counts k (r ∷ []) ts e =
    let C = just-counts k r ts e in (
      λ h. C.0 (or_cases (counts r ts) false h (λ q. q) (λ q. absurd (false≢true q))),
      λ h. or-first (counts r ts) false (C.1 h),
    )
only-counts k (r ∷ (q ∷ qs)) ts e = absurd (false≢true e)

-- THE OPERATOR n, one of m from lo on that take exactly k arguments.
just-at : (k lo m n : ℕ) → all_just k lo m ≡ true → lo ≤ n → n < lo + m → (ts : Sorts) → some_counts (smt_lib n) ts ≡ true ↔ (count ts ≡ k)
unfolding all_just
just-at k lo m n e a b ts = only-counts k (smt_lib n) ts (run-at (λ i. only_just k (smt_lib i)) lo m n e a b)

---------------------------------------------------------------- the counts of 118 to 134
-- Insert takes two or more, Tuple one or more.
insert-counts : (ts : Sorts) → some_counts (smt_lib 127) ts ≡ true ↔ (2 ≤ count ts)
unfolding smt_lib some_counts counts takes
insert-counts ts = (
  λ h. or_cases (ltb 1 (count ts)) false h (λ q. ltb-true 1 (count ts) q) (λ q. absurd (false≢true q)),
  λ h. or-first (ltb 1 (count ts)) false (lt-ltb 1 (count ts) h),
)

tuple-counts : (ts : Sorts) → some_counts (smt_lib 129) ts ≡ true ↔ (1 ≤ count ts)
unfolding smt_lib some_counts counts takes
tuple-counts ts = (
  λ h. or_cases (ltb 0 (count ts)) false h (λ q. ltb-true 0 (count ts) q) (λ q. absurd (false≢true q)),
  λ h. or-first (ltb 0 (count ts)) false (lt-ltb 0 (count ts) h),
)

-- Those that take one, and those that take two.
abbrev Ones : ℕ → Type 0
Ones n = (n ≡ 123) ⊎ ((n ≡ 124) ⊎ ((n ≡ 125) ⊎ ((n ≡ 126) ⊎ ((n ≡ 128) ⊎ ((n ≡ 131) ⊎ (n ≡ 132))))))

abbrev Twos : ℕ → Type 0
Twos n = ((118 ≤ n) × (n ≤ 122)) ⊎ ((n ≡ 133) ⊎ (n ≡ 134))

ones-count : (n : ℕ) → Ones n → (ts : Sorts) → some_counts (smt_lib n) ts ≡ true ↔ (count ts ≡ 1)
unfolding all_just
ones-count n c =
    by_test (leb n 126)
    (λ q. let l = leb-true n 126 q in just-at 1 123 4 n refl (omega (arith, c)) (omega arith))
    (λ q. let l = leb-false n 126 q in by_equal n 128
    (λ r e. just-at 1 128 1 n refl (omega arith) (omega arith))
    (λ r d. just-at 1 131 2 n refl (omega (arith, c, d)) (omega (arith, c))))

twos-count : (n : ℕ) → Twos n → (ts : Sorts) → some_counts (smt_lib n) ts ≡ true ↔ (count ts ≡ 2)
unfolding all_just
twos-count n c =
    by_test (leb n 122)
    (λ q. let l = leb-true n 122 q in just-at 2 118 5 n refl (omega (arith, c)) (omega arith))
    (λ q. let l = leb-false n 122 q in just-at 2 133 2 n refl (omega (arith, c)) (omega (arith, c)))

none-count : (ts : Sorts) → some_counts (smt_lib 130) ts ≡ true ↔ (count ts ≡ 0)
unfolding all_just
none-count = just-at 0 130 1 130 refl (omega arith) (omega arith)

module _ (ts : Sorts) where
  counts-when : (n : ℕ) → RelationCounts n (count ts) → some_counts (smt_lib n) ts ≡ true
  counts-when n (takes_none e c) = rw e ((none-count ts).1 c)
  counts-when n (takes_one e c) = (ones-count n e ts).1 c
  counts-when n (takes_two e c) = (twos-count n e ts).1 c
  counts-when n (takes_some e c) = rw e ((tuple-counts ts).1 c)
  counts-when n (takes_more e c) = rw e ((insert-counts ts).1 c)

  counts-only : (n : ℕ) → 118 ≤ n → n ≤ 134 → some_counts (smt_lib n) ts ≡ true → RelationCounts n (count ts)
  counts-only n lo hi h =
      let ones : Ones n → RelationCounts n (count ts) = λ c. takes_one c ((ones-count n c ts).0 h) in
      let twos : Twos n → RelationCounts n (count ts) = λ c. takes_two c ((twos-count n c ts).0 h) in
      by_test (leb n 122) (λ q. twos (inl (lo, leb-true n 122 q)))
      (λ q. let l = leb-false n 122 q in
      by_equal n 123 (λ q e. ones (inl e))
      (λ q d123. by_equal n 124 (λ q e. ones (inr (inl e)))
      (λ q d124. by_equal n 125 (λ q e. ones (inr (inr (inl e))))
      (λ q d125. by_equal n 126 (λ q e. ones (inr (inr (inr (inl e)))))
      (λ q d126. by_equal n 127 (λ q e. takes_more e ((insert-counts ts).0 (rw e at h)))
      (λ q d127. by_equal n 128 (λ q e. ones (inr (inr (inr (inr (inl e))))))
      (λ q d128. by_equal n 129 (λ q e. takes_some e ((tuple-counts ts).0 (rw e at h)))
      (λ q d129. by_equal n 130 (λ q e. takes_none e ((none-count ts).0 (rw e at h)))
      (λ q d130. by_equal n 131 (λ q e. ones (inr (inr (inr (inr (inr (inl e)))))))
      (λ q d131. by_equal n 132 (λ q e. ones (inr (inr (inr (inr (inr (inr e)))))))
      (λ q d132. by_equal n 133 (λ q e. twos (inr (inl e)))
      (λ q d133. twos (inr (inr (omega (arith, d123, d124, d125, d126, d127, d128, d129, d130, d131, d132, d133))))))))))))))))

  -- SOME RANK OF THE OPERATOR TAKES AS MANY ARGUMENTS exactly where A.2 says so.
  pub relation-counts : (n : ℕ) → 118 ≤ n → n ≤ 134 → some_counts (smt_lib n) ts ≡ true ↔ RelationCounts n (count ts)
  relation-counts n lo hi = (counts-only n lo hi, counts-when n)

-- Each of the operators has a rank.
unfoldable all_ranked : ℕ → ℕ → Bool
unfolding smt_lib run
all_ranked n m = run (λ i. nonempty (smt_lib i)) n m

relations-ranked : (n : ℕ) → 118 ≤ n → n ≤ 134 → nonempty (smt_lib n) ≡ true
unfolding all_ranked
relations-ranked n lo hi = run-at (λ i. nonempty (smt_lib i)) 118 17 n refl lo (omega arith)

---------------------------------------------------------------- the causes
-- AN OPERATOR ON SETS AND RELATIONS: 25 exactly where A.2 names another count of arguments; else 26 exactly where an argument is a Par or
-- A.2 gives no sort. Never 24, 28 or 27.
pub relation-refusals : (z : Site) → z.kind ≡ 7 → 118 ≤ z.number → z.number ≤ 134
    → Exactly (checked smt_lib z) Unit Unit (RelationCounts z.number (count z.args)) (EachValue z.args × ((s : Sort) × Relates z.number z.args s)) Unit
relation-refusals z e lo hi =
    table-refusals z e (relations-ranked z.number lo hi) (relation-counts z.args z.number lo hi) (λ c. (
      λ h. let (v, R) = (relates-exactly z.args h.0 z.number lo hi).0 h.1 in (v, (h.0, R)),
      λ h. let (v, (s, R)) = h in (s, (relates-exactly z.args s z.number lo hi).1 (v, R)),
    ))

-- WHAT AN OPERATOR ON SETS AND RELATIONS GIVES: 25 where it does not take that many; 26 where it does and A.2 gives no sort; else A.2's sort.
abbrev pub RelationVerdict : ℕ → Sorts → Type 0
RelationVerdict n ts =
    ((operated smt_lib n ts ≡ refused Count) × (RelationCounts n (count ts) → ⊥))
    ⊎ (((operated smt_lib n ts ≡ refused Misfit) × RelationCounts n (count ts) × ((s : Sort) → EachValue ts → Relates n ts s → ⊥))
    ⊎ ((s : Sort) × (operated smt_lib n ts ≡ sort s) × EachValue ts × Relates n ts s))

pub relation-verdict : (n : ℕ) (ts : Sorts) → 118 ≤ n → n ≤ 134 → RelationVerdict n ts
unfolding operated smt_lib run
relation-verdict n ts lo hi =
    let C = relation-counts ts n lo hi in
    by_ranked (smt_lib n) ts
    (λ a e. clash (run-at (λ i. nonempty (smt_lib i)) 118 17 n refl lo (omega arith)) a)
    (λ a b e. inl (e, λ c. clash (C.1 c) b))
    (λ b v e. inr (inl (e, C.0 b, λ s V R. sort-refused (sym (relates-sort ts s n V R) ∙ e))))
    (λ b v f e. inr (inl (e, C.0 b, λ s V R. sort-refused (sym (relates-sort ts s n V R) ∙ e))))
    (λ s v f e. let (V, R) = (relates-exactly ts s n lo hi).0 e in inr (inr (s, e, V, R)))
