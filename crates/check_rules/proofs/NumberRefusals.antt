-- EVERY CAUSE OF THE CHECKED ROW of the operators that take Int and Real mixed (document 02, A.1), exactly when it is given: 25 for the count alone,
-- else 26 where an argument is neither Int nor Real. Never 24, 28 or 27.
use Rattle.std.specs.Prelude.{ℕ, ◌≤◌, ◌≡◌, refl, ◌↔◌, ◌⊎◌, true, false, [], ◌∷◌}
use Rattle.std.proofs.Common.{⊎_elim, arith, ltb-true}
use Rattle.std.proofs.lemmas.Bool.{false≢true}
use Rattle.record.specs.Sort.{Sort, Sorts, end, bool, int, real, count}
use Rattle.record.specs.Cases.{or_cases, or-first}
use Rattle.row_rules.specs.Verdict.{sort}
use Rattle.row_rules.specs.Term.{Site}
use Rattle.check_rules.specs.Forms.{Numbers, mixed, takes, sum_of}
use Rattle.check_rules.specs.Rank.{rank, computed, counts, some_counts}
use Rattle.check_rules.specs.Ranks.{one, two, smt_lib}
use Rattle.check_rules.specs.Checked.{nonempty, operated, checked}
use Rattle.check_rules.specs.Refusals.{Exactly}
use Rattle.check_rules.proofs.RankTheorems.{counts-more}
use Rattle.check_rules.proofs.RefusalTheorems.{table-refusals}
use Rattle.check_rules.proofs.NumberTheorems.{smt_lib-orders, sum-accepted, sub-accepted, divide-accepted, order-accepted}

-- An operator that is accepted with k numbers or more and nothing else, and whose ranks take k or more.
numbers-refusals : (n k : ℕ) (f : Sorts → Sort) → nonempty (smt_lib n) ≡ true
    → ((ts : Sorts) → some_counts (smt_lib n) ts ≡ true ↔ (k ≤ count ts))
    → ((ts : Sorts) (s : Sort) → operated smt_lib n ts ≡ sort s ↔ Numbers ts × (k ≤ count ts) × (s ≡ f ts))
    → (z : Site) → z.kind ≡ 7 → z.number ≡ n → Exactly (checked smt_lib z) Unit Unit (k ≤ count z.args) (Numbers z.args) Unit
numbers-refusals n k f some C A z e m =
    table-refusals z e (rw m some) (rw m (C z.args)) (λ c. rw m (
      λ h. ((A z.args h.0).0 h.1).0,
      λ N. (f z.args, (A z.args (f z.args)).1 (N, c, refl)),
    ))

---------------------------------------------------------------- counts
-- Two or more, or one or more, whichever of the ranks is asked.
two-counts : (p q a b r : Sort) (ts : Sorts)
    → some_counts (rank true false (two p) a ∷ rank true false (two q) b ∷ computed (mixed r) ∷ []) ts ≡ true ↔ (2 ≤ count ts)
unfolding some_counts counts takes
two-counts p q a b r ts =
    let P = counts-more false p (one p) a ts in let Q = counts-more false q (one q) b ts in (
      λ h. or_cases _ _ h P.0 (λ h. or_cases _ _ h Q.0 (λ h. or_cases _ _ h (λ h. let l = ltb-true 1 (count ts) h in omega arith) (λ h. absurd (false≢true h)))),
      λ c. or-first _ _ (P.1 c),
    )

one-counts : (p q a b r : Sort) (ts : Sorts)
    → some_counts (rank true false (one p) a ∷ rank true false (one q) b ∷ computed (mixed r) ∷ []) ts ≡ true ↔ (1 ≤ count ts)
unfolding some_counts counts takes
one-counts p q a b r ts =
    let P = counts-more false p end a ts in let Q = counts-more false q end b ts in (
      λ h. or_cases _ _ h P.0 (λ h. or_cases _ _ h Q.0 (λ h. or_cases _ _ h (λ h. let l = ltb-true 1 (count ts) h in omega arith) (λ h. absurd (false≢true h)))),
      λ c. or-first _ _ (P.1 c),
    )

---------------------------------------------------------------- the operators
-- 10 Add, 12 Mult: two numbers or more.
pub sum-refusals : (n : ℕ) → (n ≡ 10) ⊎ (n ≡ 12) → (z : Site) → z.kind ≡ 7 → z.number ≡ n
    → Exactly (checked smt_lib z) Unit Unit (2 ≤ count z.args) (Numbers z.args) Unit
unfolding smt_lib
sum-refusals n c =
    numbers-refusals n 2 sum_of (⊎_elim (λ e. rw e refl) (λ e. rw e refl) c)
    (λ ts. ⊎_elim (λ e. rw e (two-counts int real int real real ts)) (λ e. rw e (two-counts int real int real real ts)) c)
    (λ ts s. sum-accepted ts s n c)

-- 11 Sub: one or more.
pub sub-refusals : (z : Site) → z.kind ≡ 7 → z.number ≡ 11 → Exactly (checked smt_lib z) Unit Unit (1 ≤ count z.args) (Numbers z.args) Unit
unfolding smt_lib
sub-refusals = numbers-refusals 11 1 sum_of refl (λ ts. one-counts int real int real real ts) (λ ts s. sub-accepted ts s)

-- 14 RealDiv: two or more.
pub divide-refusals : (z : Site) → z.kind ≡ 7 → z.number ≡ 14 → Exactly (checked smt_lib z) Unit Unit (2 ≤ count z.args) (Numbers z.args) Unit
unfolding smt_lib
divide-refusals = numbers-refusals 14 2 (λ ts. real) refl (λ ts. two-counts real int real real real ts) (λ ts s. divide-accepted ts s)

-- 17 LessThan, 18 GreaterThan, 19 LessEq, 20 GreaterEq: two or more.
pub order-refusals : (n : ℕ) → 17 ≤ n → n ≤ 20 → (z : Site) → z.kind ≡ 7 → z.number ≡ n
    → Exactly (checked smt_lib z) Unit Unit (2 ≤ count z.args) (Numbers z.args) Unit
unfolding smt_lib
order-refusals n lo hi =
    let R = smt_lib-orders n lo hi in
    numbers-refusals n 2 (λ ts. bool) (rw R refl) (λ ts. rw R (two-counts int real bool bool bool ts)) (λ ts s. order-accepted ts s n lo hi)
