-- WHAT DOCUMENT 02 ADDS, exactly: an operator's verdict over the ranks of document 01 is its verdict over all ranks, refusals with their cause,
-- but for the mixtures that A.1 names, which were 26 and have a sort now, and for the operators that A.2 names, which were 24 and have the verdict
-- that A.2 says; and a term without these operators, SetEmpty and SetUniverse keeps its verdict.
use Rattle.std.specs.Prelude.{ℕ, ◌≤◌, ◌≡◌, refl, ◌↔◌, ◌⊎◌, Bool, true, false, not, cond, ◌&&◌, ◌||◌, List, [], ◌∷◌, ◌++◌, eqb, leb}
use Rattle.std.proofs.Common.{sym, ap, subst, ◌∙◌, inl, inr, ⊎_elim, arith, eqb-true, leb-true, le-leb, ltb-true}
use Rattle.std.proofs.lemmas.Bool.{false≢true}
use Rattle.std.proofs.lemmas.List.{append-nil}
use Rattle.std.proofs.Math.Option.{Option, none, some}
use Rattle.record.specs.Sort.{Sort, Sorts, end, bool, int, real, count}
use Rattle.record.specs.Cases.{three-right, and_left, and_right, and-true, or_left, or_right, or-first, or-second, or_cases, not-true, not-true-false, by_test, by_option, none-some, some_inj, clash}
use Rattle.sheet.specs.Sheet.{Binding}
use Rattle.row_rules.specs.declared.Cause.TheVariants.{NoRank, Misfit}
use Rattle.row_rules.specs.Verdict.{sort, refused}
use Rattle.row_rules.specs.Term.{Site, Term, Terms, term, stop, ◌also◌, constants_of, over_parts, verdict_of, verdicts_of}
use Rattle.row_rules.proofs.OutcomeLaws.{sort-inj}
use Rattle.substitution.specs.Premises.{ground}
use Rattle.check_rules.specs.Forms.{Numbers, Stands, mixed, takes, sum_of, all_same, stands}
use Rattle.check_rules.specs.FormLaws.{stands-only, stands-when, stands-two, computes-only, int-real}
use Rattle.check_rules.specs.Rank.{Rank, rank, computed, counts, some_counts, fit, first_fit}
use Rattle.check_rules.specs.Ranks.{RankTable, done, row, enlarged, ranks_in, first_in, standard, one, two, more, numbers, mixture, smt_lib, document01}
use Rattle.check_rules.specs.Added.{Mixes, sum, order, quotient, mixing, Relates, relational, named, touched, spared, spared_all}
use Rattle.check_rules.specs.Parts.{EachValue}
use Rattle.check_rules.proofs.Runs.{run, run-at}
use Rattle.check_rules.proofs.RelationTheorems.{relates-exactly, relates-sort}
use Rattle.check_rules.specs.Checked.{nonempty, ranked, operated, checked, check}
use Rattle.check_rules.proofs.FitLaws.{by_ranked, ranked-miscounted, ranked-par, ranked-values, first_fit-find, some_counts-when, fit-fits, fit-counts}
use Rattle.check_rules.specs.RankLaws.{well_rank}
use Rattle.check_rules.specs.Fits.{Fits}
use Rattle.check_rules.proofs.RankTheorems.{counts-more}
use Rattle.check_rules.proofs.RefusalLaws.{by_equal}
use Rattle.check_rules.proofs.NumberTheorems.{are-stand, ints-only, reals-only, numbers-values, two_fits, as-many-fit, each-order, smt_lib-orders, sum-accepted, sub-accepted, divide-accepted, order-accepted}
use Rattle.check_rules.proofs.RelationRefusals.{RelationVerdict, relation-verdict}
use Rattle.check_rules.proofs.More.{first_fit-more, some_counts-more, nonempty-more, smt_lib-more}

---------------------------------------------------------------- ranks behind others
first_fit-none : (rs qs : List Rank) (ts : Sorts) → first_fit rs ts ≡ none → first_fit (rs ++ qs) ts ≡ first_fit qs ts
unfolding first_fit
first_fit-none [] qs ts h = refl
first_fit-none (r ∷ rs) qs ts h =
    by_option (fit r ts) (λ n. rw n (first_fit-none rs qs ts (rw n at h))) (λ u n. none-some (sym (rw n at h)))

counts-none : (rs qs : List Rank) (ts : Sorts) → some_counts rs ts ≡ false → some_counts qs ts ≡ false → some_counts (rs ++ qs) ts ≡ false
unfolding some_counts
counts-none [] qs ts h k = k
counts-none (r ∷ rs) qs ts h k = rw (or_left (counts r ts) (some_counts rs ts) h) (counts-none rs qs ts (or_right (counts r ts) (some_counts rs ts) h) k)

-- Ranks behind others that take no other count: all stays, but that a 26 may become the sort of one of them.
ranked-added : (rs qs : List Rank) (ts : Sorts) → nonempty rs ≡ true → (some_counts qs ts ≡ true → some_counts rs ts ≡ true)
    → (ranked (rs ++ qs) ts ≡ ranked rs ts)
    ⊎ ((ranked rs ts ≡ refused Misfit) × ((s : Sort) × (ranked (rs ++ qs) ts ≡ sort s) × (first_fit qs ts ≡ some s)))
ranked-added rs qs ts some-rank covered =
    by_ranked rs ts
    (λ a e. clash some-rank a)
    (λ a b e. inl (ranked-miscounted (rs ++ qs) ts (nonempty-more rs qs a) (counts-none rs qs ts b (not-true-false (some_counts qs ts) (λ q. clash (covered q) b))) ∙ sym e))
    (λ b c e. inl (ranked-par (rs ++ qs) ts (some_counts-more rs qs ts b) c ∙ sym e))
    (λ b c f e.
    let all = ranked-values (rs ++ qs) ts (some_counts-more rs qs ts b) c in
    by_option (first_fit qs ts)
    (λ g. inl (all ∙ rw (first_fit-none rs qs ts f, g) refl ∙ sym e))
    (λ s g. inr (e, (s, all ∙ rw (first_fit-none rs qs ts f, g) refl, g))))
    (λ s c f e.
    let (i, r, l, g) = first_fit-find rs ts s f in let b = some_counts-when rs i r ts l (fit-counts r ts s g) in
    inl (ranked-values (rs ++ qs) ts (some_counts-more rs qs ts b) c ∙ rw (first_fit-more rs qs ts s f) refl ∙ sym e))

-- What the form behind a list gives.
mixture-gives : (r : Sort) (ts : Sorts) (s : Sort) → first_fit (mixture r) ts ≡ some s → Numbers ts × Stands int ts × Stands real ts × (s ≡ r)
unfolding first_fit fit
mixture-gives r ts s h =
    by_option (fit (computed (mixed r)) ts)
    (λ q. none-some (rw q at h))
    (λ u q. let (a, b, c, e) = computes-only (mixed r) ts u q in (a, b, c, (let z : some u ≡ some s = rw q at h in sym (some_inj z) ∙ e)))

mixture-counts : (r : Sort) (ts : Sorts) → some_counts (mixture r) ts ≡ true → 2 ≤ count ts
unfolding some_counts counts takes
mixture-counts r ts h = or_cases _ _ h (λ q. ltb-true 1 (count ts) q) (λ q. absurd (false≢true q))

---------------------------------------------------------------- the table
-- The later ranks of an operator; all its ranks are those of document 01, then these.
unfoldable later_in : RankTable → ℕ → List Rank
later_in done n = []
later_in (row a b rs t) n = cond (leb a n && leb n b) [] (later_in t n)
later_in (enlarged a b rs qs t) n = cond (leb a n && leb n b) qs (later_in t n)

ranks-later : (t : RankTable) (n : ℕ) → ranks_in t n ≡ first_in t n ++ later_in t n
unfolding ranks_in first_in later_in
ranks-later done n = refl
ranks-later (row a b rs t) n =
    by_test (leb a n && leb n b) (λ q. rw q (sym (append-nil rs))) (λ q. rw q (ranks-later t n))
ranks-later (enlarged a b rs qs t) n = by_test (leb a n && leb n b) (λ q. rw q refl) (λ q. rw q (ranks-later t n))

-- Only rows of operators that the requests name are enlarged, by a test of the table: a row of one, or one of the orders, or of A.2's.
abbrev named_row : ℕ → ℕ → Bool
named_row a b = (eqb a b && mixing a) || ((leb 17 a && leb b 20) || (leb 118 a && leb b 134))

unfoldable all_named : RankTable → Bool
all_named done = true
all_named (row a b rs t) = all_named t
all_named (enlarged a b rs qs t) = named_row a b && all_named t

row-named : (a b n : ℕ) → named_row a b ≡ true → (leb a n && leb n b) ≡ true → named n ≡ true
row-named a b n h k =
    or_cases (eqb a b && mixing a) ((leb 17 a && leb b 20) || (leb 118 a && leb b 134)) h
    (λ q. let e = eqb-true a b (and_left (eqb a b) (mixing a) q) in
    let z : n ≡ a = omega (arith, lo, hi, e) in or-first (mixing n) (relational n) (rw z (and_right (eqb a b) (mixing a) q)))
    (λ h. or_cases (leb 17 a && leb b 20) (leb 118 a && leb b 134) h
    (λ q. or-first (mixing n) (relational n) (or-second (eqb n 10 || eqb n 11 || eqb n 12 || eqb n 14) (leb 17 n && leb n 20) (inside 17 20 q)))
    (λ q. or-second (mixing n) (relational n) (inside 118 134 q)))
  where
    lo : a ≤ n
    lo = leb-true a n (and_left (leb a n) (leb n b) k)

    hi : n ≤ b
    hi = leb-true n b (and_right (leb a n) (leb n b) k)

    inside : (c d : ℕ) → (leb c a && leb b d) ≡ true → (leb c n && leb n d) ≡ true
    inside c d q =
        let x = leb-true c a (and_left (leb c a) (leb b d) q) in
        let y = leb-true b d (and_right (leb c a) (leb b d) q) in
        and-true (leb c n) (leb n d) (le-leb c n (omega (arith, lo))) (le-leb n d (omega (arith, hi)))

later-named : (t : RankTable) (n : ℕ) → all_named t ≡ true → named n ≡ false → later_in t n ≡ []
unfolding later_in all_named
later-named done n e u = refl
later-named (row a b rs t) n e u = by_test (leb a n && leb n b) (λ q. rw q refl) (λ q. rw q (later-named t n e u))
later-named (enlarged a b rs qs t) n e u =
    by_test (leb a n && leb n b)
    (λ q. clash (row-named a b n (and_left (named_row a b) (all_named t) e) q) u)
    (λ q. rw q (later-named t n (and_right (named_row a b) (all_named t) e) u))

-- AN OPERATOR THAT NEITHER A.1 NOR A.2 NAMES has the ranks of document 01.
pub others-stay : (n : ℕ) → named n ≡ false → smt_lib n ≡ document01 n
unfolding smt_lib document01 standard all_named
others-stay n u = ranks-later standard n ∙ ap (first_in standard n ++◌) (later-named standard n refl u) ∙ append-nil (first_in standard n)

-- AN OPERATOR ON SETS AND RELATIONS was refused by 24 before, whatever its arguments.
pub relates-before : (n : ℕ) (ts : Sorts) → 118 ≤ n → n ≤ 134 → operated document01 n ts ≡ refused NoRank
unfolding operated ranked document01 run
relates-before n ts lo hi =
    rw (not-true (nonempty (document01 n)) (run-at (λ m. not (nonempty (document01 m))) 118 17 n refl lo (omega arith))) refl

---------------------------------------------------------------- one operator
abbrev Mixed : ℕ → Sorts → Type 0
Mixed n ts =
    (operated smt_lib n ts ≡ operated document01 n ts)
    ⊎ ((operated document01 n ts ≡ refused Misfit) × ((s : Sort) × (operated smt_lib n ts ≡ sort s) × Mixes n ts s))

module _ (ts : Sorts) where
  -- Over two ranks of one sort each, as A.1's operators have them.
  added : (n : ℕ) (rs qs : List Rank) → smt_lib n ≡ rs ++ qs → document01 n ≡ rs → nonempty rs ≡ true → (some_counts qs ts ≡ true → some_counts rs ts ≡ true)
      → ((s : Sort) → first_fit qs ts ≡ some s → Mixes n ts s) → Mixed n ts
  unfolding operated
  added n rs qs e d some-rank covered mixes =
      rw (e, d) (⊎_elim (λ q. inl q) (λ q. let (s, a, f) = q.1 in inr (q.0, (s, a, mixes s f))) (ranked-added rs qs ts some-rank covered))

  two-covered : (p a r : Sort) (rs : List Rank) → 2 ≤ count ts → some_counts (rank true false (two p) a ∷ rs) ts ≡ true
  unfolding some_counts counts
  two-covered p a r rs c = or-first _ _ ((counts-more false p (one p) a ts).1 c)

  one-covered : 2 ≤ count ts → some_counts (numbers one (λ a. a)) ts ≡ true
  unfolding some_counts counts
  one-covered c = or-first _ _ ((counts-more false int end int ts).1 (omega arith))

  -- 10 Add, 12 Mult, and the four orders: two or more; 11 Sub: one or more.
  added-two : (n : ℕ) (f : Sort → Sort) (r : Sort) → smt_lib n ≡ numbers two f ++ mixture r → document01 n ≡ numbers two f
      → (Numbers ts → Stands int ts → Stands real ts → Mixes n ts r) → Mixed n ts
  added-two n f r e d mixes =
      added n (numbers two f) (mixture r) e d refl
      (λ q. two-covered int (f int) r _ (mixture-counts r ts q))
      (λ s q. let (a, b, c, u) = mixture-gives r ts s q in subst (λ (x : Sort). Mixes n ts x) (sym u) (mixes a b c))

  added-sub : Mixed 11 ts
  unfolding smt_lib document01 some_counts counts
  added-sub =
      added 11 (numbers one (λ a. a)) (mixture real) refl refl refl
      (λ q. one-covered (mixture-counts real ts q))
      (λ s q. let (a, b, c, u) = mixture-gives real ts s q in sum (inr (inl refl)) a b c u)

  -- 14 RealDiv: all Int before the mixture.
  added-quotient : Mixed 14 ts
  unfolding smt_lib document01 first_fit well_rank some_counts counts ground
  added-quotient =
      added 14 (more (two real) real) (rank true false (two int) real ∷ mixture real) refl refl refl
      (λ q. two-covered real real real [] (or_cases _ _ q (λ p. (counts-more false int (one int) real ts).0 p) (λ p. mixture-counts real ts p)))
      (λ s q. by_option (fit (rank true false (two int) real) ts)
      (λ n. let (a, b, c, u) = mixture-gives real ts s (rw n at q) in quotient refl a b (stands-two int real ts int-real b c) u)
      (λ u n.
      let (c, a, e) = (two_fits int real refl refl refl ts u).0 (fit-fits (rank true false (two int) real) ts u refl n) in
      let z : some u ≡ some s = rw n at q in
      quotient refl ((ints-only ts).0 a).0 (stands-only int ts (are-stand int ts (omega arith) a)) c (sym (some_inj z) ∙ e)))

  -- A rank for one sort alone does not fit where another stands.
  fit-none : (r : Rank) (p q : Sort) → well_rank r ≡ true → ((s : Sort) → Fits r ts s → all_same p ts ≡ true) → (all_same p ts ≡ true → stands q ts ≡ false)
      → Stands q ts → fit r ts ≡ none
  fit-none r p q w alone other z =
      by_option (fit r ts) (λ n. n) (λ s n. clash (stands-when q ts z) (other (alone s (fit-fits r ts s w n))))

  ranked-none : (rs : List Rank) → some_counts rs ts ≡ true → Numbers ts → first_fit rs ts ≡ none → ranked rs ts ≡ refused Misfit
  ranked-none rs c N f = ranked-values rs ts c (numbers-values ts N) ∙ rw f refl

  -- Ranks for all Int and for all Real, where both stand.
  both-none : (p q : Rank) → well_rank p ≡ true → well_rank q ≡ true → ((s : Sort) → Fits p ts s → all_same int ts ≡ true)
      → ((s : Sort) → Fits q ts s → all_same real ts ≡ true) → Stands int ts → Stands real ts → first_fit (p ∷ q ∷ []) ts ≡ none
  unfolding first_fit
  both-none p q wp wq ints reals i r =
      rw (fit-none p int real wp ints (λ a. ((ints-only ts).0 a).1) r, fit-none q real int wq reals (λ a. ((reals-only ts).0 a).1) i) refl

  two-before : (f : Sort → Sort) → ground (f int) ≡ true → ground (f real) ≡ true → well_rank (rank true false (two int) (f int)) ≡ true
      → well_rank (rank true false (two real) (f real)) ≡ true → Numbers ts → Stands int ts → Stands real ts → ranked (numbers two f) ts ≡ refused Misfit
  unfolding ground
  two-before f g h v w N i r =
      ranked-none (numbers two f) (two-covered int (f int) int _ (stands-two int real ts int-real i r)) N
      (both-none _ _ v w (λ s F. ((two_fits int (f int) refl g v ts s).0 F).1) (λ s F. ((two_fits real (f real) refl h w ts s).0 F).1) i r)

  -- A MIXTURE WAS REFUSED BEFORE, by 26.
  pub mixes-before : (n : ℕ) (s : Sort) → Mixes n ts s → operated document01 n ts ≡ refused Misfit
  unfolding operated document01 well_rank ground first_fit all_same
  mixes-before n s (sum c N i r e) = ⊎_elim (λ x. rw x (two-before (λ a. a) refl refl refl refl N i r)) (⊎_elim (λ x. rw x sub) (λ x. rw x (two-before (λ a. a) refl refl refl refl N i r))) c
    where
      sub : ranked (numbers one (λ a. a)) ts ≡ refused Misfit
      sub =
          ranked-none (numbers one (λ a. a)) (one-covered (stands-two int real ts int-real i r)) N
          (both-none (rank true false (one int) int) (rank true false (one real) real) refl refl (λ s F. ((as-many-fit int int end refl refl refl refl ts s).0 F).1) (λ s F. ((as-many-fit real real end refl refl refl refl ts s).0 F).1) i r)
  mixes-before n s (order lo hi N i r e) = rw (each-order document01 (numbers two (λ a. bool)) refl refl refl refl n lo hi) (two-before (λ a. bool) refl refl refl refl N i r)
  mixes-before n s (quotient x N i c e) =
      rw x (ranked-none (more (two real) real) (two-covered real real real [] c) N
      (rw (fit-none (rank true false (two real) real) real int refl (λ s F. ((two_fits real real refl refl refl ts s).0 F).1) (λ a. ((reals-only ts).0 a).1) i) refl))

  -- WHAT THE REQUESTS CHANGE OF AN OPERATOR: nothing, neither a sort nor a cause, but that a mixture which A.1 names has its sort where it was
  -- 26, and that an operator which A.2 names had 24, and has the verdict that A.2 says.
  pub op-added : (n : ℕ) → (operated smt_lib n ts ≡ operated document01 n ts)
      ⊎ (((operated document01 n ts ≡ refused Misfit) × ((s : Sort) × (operated smt_lib n ts ≡ sort s) × Mixes n ts s))
      ⊎ ((118 ≤ n) × (n ≤ 134) × (operated document01 n ts ≡ refused NoRank) × RelationVerdict n ts))
  unfolding operated smt_lib document01
  op-added n =
      by_equal n 10 (λ q e. by_mixture (rw e (added-two 10 (λ a. a) real refl refl (λ a b c. sum (inl refl) a b c refl))))
      (λ q10 d10. by_equal n 11 (λ q e. by_mixture (rw e added-sub))
      (λ q11 d11. by_equal n 12 (λ q e. by_mixture (rw e (added-two 12 (λ a. a) real refl refl (λ a b c. sum (inr (inr refl)) a b c refl))))
      (λ q12 d12. by_equal n 14 (λ q e. by_mixture (rw e added-quotient))
      (λ q14 d14. by_test (leb 17 n && leb n 20)
      (λ q.
      let lo = leb-true 17 n (and_left (leb 17 n) (leb n 20) q) in
      let hi = leb-true n 20 (and_right (leb 17 n) (leb n 20) q) in
      by_mixture (added-two n (λ a. bool) bool (smt_lib-orders n lo hi) (each-order document01 _ refl refl refl refl n lo hi) (λ a b c. order lo hi a b c refl)))
      (λ q17. by_test (relational n)
      (λ q.
      let lo = leb-true 118 n (and_left (leb 118 n) (leb n 134) q) in
      let hi = leb-true n 134 (and_right (leb 118 n) (leb n 134) q) in inr (inr (lo, hi, relates-before n ts lo hi, relation-verdict n ts lo hi)))
      (λ q. inl (ap (λ (rs : List Rank). ranked rs ts) (others-stay n (rw (q10, q11, q12, q14, q17, q) refl)))))))))
    where
      by_mixture : {n : ℕ} → Mixed n ts → (operated smt_lib n ts ≡ operated document01 n ts)
          ⊎ (((operated document01 n ts ≡ refused Misfit) × ((s : Sort) × (operated smt_lib n ts ≡ sort s) × Mixes n ts s))
          ⊎ ((118 ≤ n) × (n ≤ 134) × (operated document01 n ts ≡ refused NoRank) × RelationVerdict n ts))
      by_mixture (inl e) = inl e
      by_mixture (inr g) = inr (inl g)

  -- SO AN OPERATOR IS ACCEPTED with a sort exactly where it was, or where A.1 or A.2 says so.
  pub added-exactly : (n : ℕ) (s : Sort) → operated smt_lib n ts ≡ sort s
      ↔ (operated document01 n ts ≡ sort s) ⊎ (Mixes n ts s ⊎ (EachValue ts × Relates n ts s))
  added-exactly n s = (
    λ h. ⊎_elim (λ e. inl (sym e ∙ h))
        (⊎_elim (λ g. let (u, e, M) = g.1 in inr (inl (subst (λ (x : Sort). Mixes n ts x) (sort-inj (sym e ∙ h)) M)))
        (λ g. inr (inr ((relates-exactly ts s n g.0 g.1).0 h)))) (op-added n),
    ⊎_elim (smt_lib-more n ts s) (⊎_elim (given n) (λ g. relates-sort ts s n g.0 g.1)),
  )
    where
      given : (n : ℕ) → Mixes n ts s → operated smt_lib n ts ≡ sort s
      given n (sum c a i r e) =
          let S : s ≡ sum_of ts = rw (stands-when real ts r) e in
          let l = stands-two int real ts int-real i r in
          ⊎_elim (λ x. (sum-accepted ts s n (inl x)).1 (a, l, S))
          (⊎_elim (λ x. rw x ((sub-accepted ts s).1 (a, omega arith, S))) (λ x. (sum-accepted ts s n (inr x)).1 (a, l, S))) c
      given n (order lo hi a i r e) = (order-accepted ts s n lo hi).1 (a, stands-two int real ts int-real i r, e)
      given n (quotient x a i c e) = rw x ((divide-accepted ts s).1 (a, c, e))

---------------------------------------------------------------- terms
record-spared : (z : Site) → (eqb z.kind 7 && named z.number) ≡ false → checked smt_lib z ≡ checked document01 z
unfolding checked operated
record-spared z h =
    by_test (eqb z.kind 7)
    (λ q. rw (q, others-stay z.number (rw q at h)) refl)
    (λ q. rw q refl)

over-spared : (k n : ℕ) (o : Sort) (bs : List Binding) (cs is : List (Option ℕ)) (a b : Option Sorts) → (eqb k 7 && named n) ≡ false
    → over_parts (checked smt_lib) k n o bs cs is a b ≡ over_parts (checked document01) k n o bs cs is a b
over-spared k n o bs cs is none b h = refl
over-spared k n o bs cs is (some ts) none h = refl
over-spared k n o bs cs is (some ts) (some js) h = record-spared (record { kind = k; number = n; own = o; args = ts; bindings = bs; constants = cs; indices = is }) h

-- A TERM WITHOUT THEM, SETEMPTY AND SETUNIVERSE HAS THE VERDICT THAT IT HAD, sort or refusal with its cause.
mutual
  unfolding spared check verdict_of

  pub term-spared : (t : Term) → spared t ≡ true → check smt_lib t ≡ check document01 t
  term-spared (term k a n o ts bs ns is) h =
      let (p, q, r) = three-right (not (touched k n)) (spared_all ts) (spared_all is) h in
      rw (terms-spared ts q, terms-spared is r)
      (over-spared k n o bs (constants_of ts) (constants_of is) (verdicts_of (checked document01) ts) (verdicts_of (checked document01) is) (or_left (eqb k 7 && named n) (eqb k 12 && not (eqb n 0)) (not-true (touched k n) p)))

  terms-spared : (ts : Terms) → spared_all ts ≡ true → verdicts_of (checked smt_lib) ts ≡ verdicts_of (checked document01) ts
  terms-spared stop h = refl
  terms-spared (t also ts) h = rw (term-spared t (and_left (spared t) (spared_all ts) h), terms-spared ts (and_right (spared t) (spared_all ts) h)) refl
