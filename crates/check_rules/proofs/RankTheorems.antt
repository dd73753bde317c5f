-- WHAT A LABORATORY MAY RELY ON OF OPERATORS: an operator term is accepted exactly when some rank of the operator fits the sorts
-- of its arguments, that rank is the only one, and each cause of refusal stands exactly where document 01 puts it. Stated for
-- all sound ranks, and then for those of the table.
use Rattle.std.specs.Prelude.{ℕ, zero, suc, ◌+◌, ◌≤◌, ◌≡◌, refl, ◌↔◌, ◌⊎◌, Bool, true, false, List, [], ◌∷◌}
use Rattle.std.proofs.Common.{sym, ap, ◌∙◌, inl, inr, ⊎_elim, true≢false, arith, subst, eqb-true, ne_eqb, eq-eqb}
use Rattle.std.proofs.lemmas.Bool.{false≢true, eqb-false}
use Rattle.std.proofs.Math.Option.{some}
use Rattle.record.specs.Sort.{Sort, Sorts, end, ◌then◌, bitvec, count}
use Rattle.record.specs.Cases.{by_test, by_option, none-some, some_inj, clash, or_left, or_cases}
use Rattle.row_rules.specs.declared.Cause.TheVariants.{NoRank, Count, Misfit}
use Rattle.row_rules.specs.Verdict.{sort, refused}
use Rattle.row_rules.proofs.OutcomeLaws.{refused-sort, sort-inj}
use Rattle.check_rules.specs.Rank.{Rank, rank, repeated, stretched, same_count, counts, first_fit, some_counts, computed}
use Rattle.check_rules.specs.Ranks.{smt_lib}
use Rattle.check_rules.specs.RankLaws.{well_rank}
use Rattle.check_rules.proofs.RankSound.{Sound, smt_lib-sound, alone-sound}
use Rattle.check_rules.specs.Fits.{Fits, rank_at, SomeFits}
use Rattle.check_rules.proofs.FitLaws.{sound-well, fits-fit, fit-counts, first_fit-when, some_counts-when, first_fit-some, some_fit, some-first_fit, sort-refused, other-cause, ranked-unranked, ranked-miscounted, ranked-par, ranked-values, by_ranked, operated-ranked}
use Rattle.check_rules.specs.Checked.{values, nonempty, operated}
use Rattle.check_rules.specs.Forms.{concat, takes}

---------------------------------------------------------------- accepted exactly when some rank fits
-- AN OPERATOR TERM IS ACCEPTED with the sort s exactly when no argument is a Par and some rank of the operator fits the
-- arguments' sorts with the result s. This is so of every operator.
pub rank-accepted : (R : ℕ → List Rank) (n : ℕ) → Sound (R n) → (ts : Sorts) (s : Sort)
    → operated R n ts ≡ sort s ↔ (values ts ≡ true) × SomeFits (R n) ts s
rank-accepted R n S ts s = (
  λ h. by_ranked (R n) ts
      (λ a e. refused-sort (sym e ∙ sym (operated-ranked R n ts) ∙ h))
      (λ a b e. refused-sort (sym e ∙ sym (operated-ranked R n ts) ∙ h))
      (λ a b e. refused-sort (sym e ∙ sym (operated-ranked R n ts) ∙ h))
      (λ a b c e. refused-sort (sym e ∙ sym (operated-ranked R n ts) ∙ h))
      (λ u c f e. let z : sort u ≡ sort s = sym e ∙ sym (operated-ranked R n ts) ∙ h in
      (c, first_fit-some (R n) ts s S (f ∙ ap some (sort-inj z)))),
  λ g. let F = g.1 in
      let b = some_counts-when (R n) F.place F.chosen ts F.listed (fit-counts F.chosen ts s (some_fit (R n) ts s S F)) in
      operated-ranked R n ts ∙ ranked-values (R n) ts b g.0 ∙ rw (some-first_fit (R n) ts s S F) refl,
)

pub accepted-smt_lib : (n : ℕ) (ts : Sorts) (s : Sort)
    → operated smt_lib n ts ≡ sort s ↔ (values ts ≡ true) × SomeFits (smt_lib n) ts s
accepted-smt_lib n ts s = rank-accepted smt_lib n (smt_lib-sound n) ts s

---------------------------------------------------------------- at most one rank fits
-- Two ranks of an operator that fit the same sorts are one entry of its list: by induction over the list; a fit of the first
-- entry and one of a later entry are ruled out by `Sound`.
pub one-fits : (rs : List Rank) → Sound rs → (i j : ℕ) (q r : Rank) (ts : Sorts) (s u : Sort)
    → rank_at rs i ≡ some q → rank_at rs j ≡ some r → Fits q ts s → Fits r ts u → i ≡ j
unfolding rank_at
one-fits [] S i j q r ts s u a b f g = none-some a
one-fits (p ∷ ps) S zero zero q r ts s u a b f g = refl
one-fits (p ∷ ps) S zero (suc j) q r ts s u a b f g =
    let x = fits-fit q ts s (sound-well (p ∷ ps) zero q S a) f in
    let y = first_fit-when ps j r ts u S.2 b (fits-fit r ts u (sound-well ps j r S.2 b) g) in
    absurd (S.1 ts s u (rw (some_inj a) x) y)
one-fits (p ∷ ps) S (suc i) zero q r ts s u a b f g =
    let x = fits-fit r ts u (sound-well (p ∷ ps) zero r S b) g in
    let y = first_fit-when ps i q ts s S.2 a (fits-fit q ts s (sound-well ps i q S.2 a) f) in
    absurd (S.1 ts u s (rw (some_inj b) x) y)
one-fits (p ∷ ps) S (suc i) (suc j) q r ts s u a b f g = ap suc (one-fits ps S.2 i j q r ts s u a b f g)

-- So they give one result.
pub one-result : (rs : List Rank) → Sound rs → (ts : Sorts) (s u : Sort) → SomeFits rs ts s → SomeFits rs ts u → s ≡ u
one-result rs S ts s u f g = some_inj (sym (some-first_fit rs ts s S f) ∙ some-first_fit rs ts u S g)

pub one-fits-smt_lib : (n i j : ℕ) (q r : Rank) (ts : Sorts) (s u : Sort)
    → rank_at (smt_lib n) i ≡ some q → rank_at (smt_lib n) j ≡ some r → Fits q ts s → Fits r ts u → i ≡ j
one-fits-smt_lib n = one-fits (smt_lib n) (smt_lib-sound n)

---------------------------------------------------------------- the causes
-- No rank.
pub no_ranks : (rs : List Rank) → nonempty rs ≡ false → rs ≡ []
no_ranks [] e = refl
no_ranks (r ∷ rs) e = absurd (true≢false e)

-- 24 exactly where the operator has no rank.
pub unranked : (R : ℕ → List Rank) (n : ℕ) (ts : Sorts) → operated R n ts ≡ refused NoRank ↔ R n ≡ []
unranked R n ts = (
  λ h. by_ranked (R n) ts
      (λ a e. no_ranks (R n) a)
      (λ a b e. other-cause refl (sym e ∙ sym (operated-ranked R n ts) ∙ h))
      (λ a b e. other-cause refl (sym e ∙ sym (operated-ranked R n ts) ∙ h))
      (λ a b c e. other-cause refl (sym e ∙ sym (operated-ranked R n ts) ∙ h))
      (λ u c f e. sort-refused (sym e ∙ sym (operated-ranked R n ts) ∙ h)),
  λ h. operated-ranked R n ts ∙ ranked-unranked (R n) ts (ap nonempty h),
)

-- 25 exactly where it has ranks and none of them has this count of arguments.
pub miscounted : (R : ℕ → List Rank) (n : ℕ) (ts : Sorts)
    → operated R n ts ≡ refused Count ↔ (nonempty (R n) ≡ true) × (some_counts (R n) ts ≡ false)
miscounted R n ts = (
  λ h. by_ranked (R n) ts
      (λ a e. other-cause refl (sym e ∙ sym (operated-ranked R n ts) ∙ h))
      (λ a b e. (a, b))
      (λ a b e. other-cause refl (sym e ∙ sym (operated-ranked R n ts) ∙ h))
      (λ a b c e. other-cause refl (sym e ∙ sym (operated-ranked R n ts) ∙ h))
      (λ u c f e. sort-refused (sym e ∙ sym (operated-ranked R n ts) ∙ h)),
  λ h. operated-ranked R n ts ∙ ranked-miscounted (R n) ts h.0 h.1,
)

-- 26 exactly where some rank has this count, and an argument is a Par or no rank fits.
pub misfit : (R : ℕ → List Rank) (n : ℕ) → Sound (R n) → (ts : Sorts)
    → operated R n ts ≡ refused Misfit ↔ (some_counts (R n) ts ≡ true) × ((values ts ≡ false) ⊎ ((s : Sort) → SomeFits (R n) ts s → ⊥))
misfit R n S ts = (
  λ h. by_ranked (R n) ts
      (λ a e. other-cause refl (sym e ∙ sym (operated-ranked R n ts) ∙ h))
      (λ a b e. other-cause refl (sym e ∙ sym (operated-ranked R n ts) ∙ h))
      (λ a b e. (a, inl b))
      (λ a b c e. (a, inr (λ s F. none-some (sym c ∙ some-first_fit (R n) ts s S F))))
      (λ u c f e. sort-refused (sym e ∙ sym (operated-ranked R n ts) ∙ h)),
  λ h. operated-ranked R n ts ∙
      by_test (values ts)
      (λ v. ranked-values (R n) ts h.0 v ∙
      by_option (first_fit (R n) ts)
      (λ f. rw f refl)
      (λ s f. ⊎_elim (λ w. clash v w) (λ g. absurd (g s (first_fit-some (R n) ts s S f))) h.1))
      (λ v. ranked-par (R n) ts h.0 v),
)

-- What "a rank has this count" says, in numbers: exactly as many arguments as the rank prints, or as many or more where its last
-- one repeats.
pub same_count-number : (ps ts : Sorts) → same_count ps ts ≡ true ↔ count ps ≡ count ts
unfolding same_count count
same_count-number end end = (λ e. refl, λ e. refl)
same_count-number end (t then ts) = (λ e. absurd (false≢true e), λ e. absurd (omega arith))
same_count-number (p then ps) end = (λ e. absurd (false≢true e), λ e. absurd (omega arith))
same_count-number (p then ps) (t then ts) = let (f, g) = same_count-number ps ts in (λ e. ap suc (f e), λ e. g (omega arith))

pub repeated-count : (p : Sort) (ts : Sorts) → same_count (repeated p ts) ts ≡ true
unfolding repeated same_count
repeated-count p end = refl
repeated-count p (t then ts) = repeated-count p ts

pub counts-more : (vs : Bool) (p : Sort) (ps : Sorts) (r : Sort) (ts : Sorts) → counts (rank true vs (p then ps) r) ts ≡ true ↔ count (p then ps) ≤ count ts
unfolding counts same_count stretched count
counts-more vs p end r end = (λ e. absurd (false≢true e), λ e. absurd (omega arith))
counts-more vs p end r (t then ts) = (λ e. omega arith, λ e. repeated-count p ts)
counts-more vs p (q then ps) r end = (λ e. absurd (false≢true e), λ e. absurd (omega arith))
counts-more vs p (q then ps) r (t then ts) = let (f, g) = counts-more vs q ps r ts in (λ e. let z = f e in omega arith, λ e. g (omega arith))

---------------------------------------------------------------- operators with one rank
-- Most operators have one rank. Accepted exactly when no argument is a Par and this rank fits.
pub alone-fits : (r : Rank) (ts : Sorts) (s : Sort) → SomeFits (r ∷ []) ts s ↔ Fits r ts s
unfolding rank_at
alone-fits r ts s = (
  λ F. chosen F.place F.chosen F.listed F.fits,
  λ f. record { place = 0; chosen = r; listed = refl; fits = f },
)
  where
    chosen : (i : ℕ) (q : Rank) → rank_at (r ∷ []) i ≡ some q → Fits q ts s → Fits r ts s
    chosen zero q l f = subst (λ (z : Rank). Fits z ts s) (sym (some_inj l)) f
    chosen (suc i) q l f = none-some l

pub alone-accepted : (R : ℕ → List Rank) (n : ℕ) (r : Rank) → R n ≡ r ∷ [] → well_rank r ≡ true → (ts : Sorts) (s : Sort)
    → operated R n ts ≡ sort s ↔ (values ts ≡ true) × Fits r ts s
alone-accepted R n r e w ts s =
    let S : Sound (R n) = subst Sound (sym e) (alone-sound r w) in
    let A = rank-accepted R n S ts s in (
      λ h. let (v, F) = A.0 h in (v, (alone-fits r ts s).0 (subst (λ (rs : List Rank). SomeFits rs ts s) e F)),
      λ g. A.1 (g.0, subst (λ (rs : List Rank). SomeFits rs ts s) (sym e) ((alone-fits r ts s).1 g.1)),
    )

-- 25 exactly where the rank does not have this count of arguments.
pub alone-miscounted : (R : ℕ → List Rank) (n : ℕ) (r : Rank) → R n ≡ r ∷ [] → (ts : Sorts) → operated R n ts ≡ refused Count ↔ counts r ts ≡ false
unfolding some_counts
alone-miscounted R n r e ts =
    let M = miscounted R n ts in (
      λ h. or_left (counts r ts) false (rw e at (M.0 h).1),
      λ g. M.1 (rw e refl, rw (e, g) refl),
    )

-- 26 exactly where it has, and an argument is a Par or the rank does not fit.
pub alone-misfit : (R : ℕ → List Rank) (n : ℕ) (r : Rank) → R n ≡ r ∷ [] → well_rank r ≡ true → (ts : Sorts)
    → operated R n ts ≡ refused Misfit ↔ (counts r ts ≡ true) × ((values ts ≡ false) ⊎ ((s : Sort) → Fits r ts s → ⊥))
unfolding some_counts
alone-misfit R n r e w ts =
    let S : Sound (R n) = subst Sound (sym e) (alone-sound r w) in
    let M = misfit R n S ts in (
      λ h. let (c, d) = M.0 h in (
        or_cases (counts r ts) false (rw e at c) (λ q. q) (λ q. absurd (false≢true q)),
        ⊎_elim (λ v. inl v) (λ g. inr (λ s f. g s (subst (λ (rs : List Rank). SomeFits rs ts s) (sym e) ((alone-fits r ts s).1 f)))) d,
      ),
      λ g. M.1 (
        rw (e, g.0) refl,
        ⊎_elim (λ v. inl v) (λ k. inr (λ s F. k s ((alone-fits r ts s).0 (subst (λ (rs : List Rank). SomeFits rs ts s) e F)))) g.1,
      ),
    )

---------------------------------------------------------------- 90 BvConcat
-- Accepted exactly when there are two arguments, both vectors; the width is the sum of theirs.
pub concat-accepted : (ts : Sorts) (s : Sort)
    → operated smt_lib 90 ts ≡ sort s ↔ ((i : ℕ) × (j : ℕ) × (ts ≡ bitvec i then bitvec j then end) × (s ≡ bitvec (i + j)))
unfolding smt_lib well_rank values
concat-accepted ts s =
    let A = alone-accepted smt_lib 90 (computed concat) refl refl ts s in
    (λ h. (A.0 h).1, λ g. A.1 (let (i, j, e, f) = g in rw e refl, g))

-- 25 exactly where there are not two.
pub concat-miscounted : (ts : Sorts) → operated smt_lib 90 ts ≡ refused Count ↔ (count ts ≡ 2 → ⊥)
unfolding smt_lib counts takes
concat-miscounted ts =
    let M = alone-miscounted smt_lib 90 (computed concat) refl ts in
    (λ h. eqb-false (count ts) 2 (M.0 h), λ g. M.1 (ne_eqb (count ts) 2 g))

-- 26 exactly where there are two and not both are vectors.
pub concat-misfit : (ts : Sorts)
    → operated smt_lib 90 ts ≡ refused Misfit ↔ (count ts ≡ 2) × ((i j : ℕ) → ts ≡ bitvec i then bitvec j then end → ⊥)
unfolding smt_lib well_rank counts takes values
concat-misfit ts =
    let M = alone-misfit smt_lib 90 (computed concat) refl refl ts in (
      λ h. let (c, d) = M.0 h in (
        eqb-true (count ts) 2 c,
        λ i j e. ⊎_elim (λ v. let z : true ≡ false = rw e at v in true≢false z) (λ k. k (bitvec (i + j)) (i, j, e, refl)) d,
      ),
      λ g. M.1 (eq-eqb (count ts) 2 g.0, inr (λ s f. let (i, j, e, r) = f in g.1 i j e)),
    )
