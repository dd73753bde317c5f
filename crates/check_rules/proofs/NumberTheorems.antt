-- A.1 OF DOCUMENT 02 AS IT IS SAID: which sorts of arguments the sums, the orders and RealDiv take, and what they give.
use Rattle.std.specs.Prelude.{ℕ, zero, suc, ◌≤◌, ◌<◌, ◌≡◌, refl, ◌↔◌, ◌⊎◌, Bool, true, false, not, cond, [], ◌∷◌, ◌++◌, eqb}
use Rattle.std.proofs.Common.{sym, ap, subst, ◌∙◌, inl, inr, ⊎_elim, arith, eqb-true}
use Rattle.std.proofs.lemmas.Bool.{false≢true, eqb-false}
use Rattle.std.proofs.Math.Option.{some}
use Rattle.record.specs.Sort.{Sort, Sorts, end, ◌then◌, bool, int, real, count, same}
use Rattle.record.specs.SortLaws.{same-sound, same-complete, same_refl}
use Rattle.record.specs.Cases.{and_left, and_right, and-true, or-first, not-true, by_test, none-some, some_inj}
use Rattle.substitution.specs.Substitution.{Map, empty, apply, apply_all}
use Rattle.substitution.specs.Premises.{ground}
use Rattle.row_rules.specs.Verdict.{sort}
use Rattle.check_rules.specs.Forms.{Numbers, Stands, all_same, numbers as are_numbers, stands, sum_of, mixed}
use Rattle.check_rules.specs.FormLaws.{numbers-only, numbers-when, ints-are, reals-are, stands-only, stands-when, stands-two, int-real, ground-still}
use Rattle.check_rules.specs.Rank.{Rank, rank, computed, repeated, stretched, patterns}
use Rattle.check_rules.specs.Ranks.{one, two, numbers, mixture, smt_lib}
use Rattle.check_rules.specs.RankLaws.{well_rank}
use Rattle.check_rules.proofs.DisjointLaws.{patterns-are, then-end}
use Rattle.check_rules.specs.Fits.{Fits, rank_at, SomeFits}
use Rattle.check_rules.proofs.FitLaws.{fits-fit, fit-counts}
use Rattle.check_rules.specs.Checked.{values, operated}
use Rattle.check_rules.proofs.RankTheorems.{accepted-smt_lib, counts-more}

---------------------------------------------------------------- all of one sort
pub are-turned : (θ : Map) (p : Sort) (ps ts : Sorts) → apply θ p ≡ p → all_same p ps ≡ true → apply_all θ ps ≡ ts → all_same p ts ≡ true
unfolding all_same apply
are-turned θ p end end g a h = refl
are-turned θ p end (t then ts) g a h = then-end (sym h)
are-turned θ p (q then qs) end g a h = refl
are-turned θ p (q then qs) (t then ts) g a h =
    let e = same-sound p q (and_left (same p q) (all_same p qs) a) in
    let z : p ≡ t = cc in let y : apply_all θ qs ≡ ts = cc in
    and-true (same p t) (all_same p ts) (same-complete p t z) (are-turned θ p qs ts g (and_right (same p q) (all_same p qs) a) y)

pub are-repeated : (θ : Map) (p : Sort) (ts : Sorts) → apply θ p ≡ p → all_same p ts ≡ true → apply_all θ (repeated p ts) ≡ ts
unfolding all_same apply repeated
are-repeated θ p end g a = refl
are-repeated θ p (t then ts) g a =
    let e = same-sound p t (and_left (same p t) (all_same p ts) a) in
    let z = are-repeated θ p ts g (and_right (same p t) (all_same p ts) a) in cc

-- A rank that prints one sort without a variable once or more, the last one repeating, and gives a sort without a variable: it fits exactly as
-- many of that sort, or more.
pub as-many-fit : (p a : Sort) (ps : Sorts) → ground p ≡ true → ground a ≡ true → all_same p ps ≡ true → well_rank (rank true false (p then ps) a) ≡ true
    → (ts : Sorts) (s : Sort) → Fits (rank true false (p then ps) a) ts s ↔ (count (p then ps) ≤ count ts) × (all_same p ts ≡ true) × (s ≡ a)
unfolding all_same count stretched repeated apply
as-many-fit p a ps gp ga e w ts s = (
  λ F. (
    (counts-more false p ps a ts).0 (fit-counts (rank true false (p then ps) a) ts s (fits-fit (rank true false (p then ps) a) ts s w F)),
    are-turned F.assignment p (patterns true (p then ps) ts) ts (ground-still F.assignment p gp)
        (patterns-are true p (p then ps) ts (and-true (same p p) (all_same p ps) (same_refl p) e)) F.turns,
    sym F.result ∙ ground-still F.assignment a ga,
  ),
  λ g. let (c, f, r) = g in record {
    assignment = empty;
    turns = turns ps ts e c f;
    widths = λ b v o. absurd (false≢true b);
    result = ground-still empty a ga ∙ sym r;
  },
)
  where
    turns : (ps ts : Sorts) → all_same p ps ≡ true → count (p then ps) ≤ count ts → all_same p ts ≡ true → apply_all empty (stretched (p then ps) ts) ≡ ts
    turns end end e c f = absurd (omega arith)
    turns end (t then ts) e c f = are-repeated empty p (t then ts) (ground-still empty p gp) f
    turns (q then qs) end e c f = absurd (omega arith)
    turns (q then qs) (t then ts) e c f =
        let y : p ≡ q = same-sound p q (and_left (same p q) (all_same p qs) e) in
        let x : p ≡ t = same-sound p t (and_left (same p t) (all_same p ts) f) in
        let z = turns qs ts (and_right (same p q) (all_same p qs) e) (omega (arith, c)) (and_right (same p t) (all_same p ts) f) in
        let g = ground-still empty p gp in cc

pub two_fits : (p a : Sort) → ground p ≡ true → ground a ≡ true → well_rank (rank true false (two p) a) ≡ true → (ts : Sorts) (s : Sort)
    → Fits (rank true false (two p) a) ts s ↔ (2 ≤ count ts) × (all_same p ts ≡ true) × (s ≡ a)
unfolding all_same count
two_fits p a gp ga = as-many-fit p a (one p) gp ga (and-true (same p p) true (same_refl p) refl)

-- Some rank of three fits.
pub three-fits : (p q r : Rank) (ts : Sorts) (s : Sort) → SomeFits (p ∷ q ∷ r ∷ []) ts s ↔ Fits p ts s ⊎ (Fits q ts s ⊎ Fits r ts s)
unfolding rank_at
three-fits p q r ts s = (
  λ F. found F.place F.chosen F.listed F.fits,
  ⊎_elim (λ f. record { place = 0; chosen = p; listed = refl; fits = f })
      (⊎_elim (λ f. record { place = 1; chosen = q; listed = refl; fits = f }) (λ f. record { place = 2; chosen = r; listed = refl; fits = f })),
)
  where
    found : (i : ℕ) (x : Rank) → rank_at (p ∷ q ∷ r ∷ []) i ≡ some x → Fits x ts s → Fits p ts s ⊎ (Fits q ts s ⊎ Fits r ts s)
    found zero x l f = inl (subst (λ (z : Rank). Fits z ts s) (sym (some_inj l)) f)
    found (suc zero) x l f = inr (inl (subst (λ (z : Rank). Fits z ts s) (sym (some_inj l)) f))
    found (suc (suc zero)) x l f = inr (inr (subst (λ (z : Rank). Fits z ts s) (sym (some_inj l)) f))
    found (suc (suc (suc i))) x l f = none-some l

---------------------------------------------------------------- Int and Real
-- All Int, or all Real, are numbers, and the other does not stand among them; and the other way.
pub ints-only : (ts : Sorts) → all_same int ts ≡ true ↔ Numbers ts × (stands real ts ≡ false)
ints-only ts = (
  λ a. let h = sym (ints-are ts) ∙ a in
      (numbers-only ts (and_left (are_numbers ts) (not (stands real ts)) h), not-true (stands real ts) (and_right (are_numbers ts) (not (stands real ts)) h)),
  λ g. ints-are ts ∙ rw (numbers-when ts g.0, g.1) refl,
)

pub reals-only : (ts : Sorts) → all_same real ts ≡ true ↔ Numbers ts × (stands int ts ≡ false)
reals-only ts = (
  λ a. let h = sym (reals-are ts) ∙ a in
      (numbers-only ts (and_left (are_numbers ts) (not (stands int ts)) h), not-true (stands int ts) (and_right (are_numbers ts) (not (stands int ts)) h)),
  λ g. reals-are ts ∙ rw (numbers-when ts g.0, g.1) refl,
)

pub numbers-values : (ts : Sorts) → Numbers ts → values ts ≡ true
unfolding values
numbers-values end h = refl
numbers-values (t then ts) (inl e, h) = rw e (numbers-values ts h)
numbers-values (t then ts) (inr e, h) = rw e (numbers-values ts h)

pub are-stand : (p : Sort) (ts : Sorts) → 0 < count ts → all_same p ts ≡ true → stands p ts ≡ true
unfolding stands all_same count
are-stand p end c a = absurd (omega arith)
are-stand p (t then ts) c a =
    or-first (same t p) (stands p ts) (same-complete t p (sym (same-sound p t (and_left (same p t) (all_same p ts) a))))

---------------------------------------------------------------- the operators
-- What is so of each of the four orders is so of an order: 17 LessThan, 18 GreaterThan, 19 LessEq, 20 GreaterEq.
pub each-order : {A : Type 0} (f : ℕ → A) (x : A) → f 17 ≡ x → f 18 ≡ x → f 19 ≡ x → f 20 ≡ x → (n : ℕ) → 17 ≤ n → n ≤ 20 → f n ≡ x
each-order f x a b c d n lo hi =
    by_test (eqb n 17) (λ q. rw (eqb-true n 17 q) a)
    (λ q. by_test (eqb n 18) (λ r. rw (eqb-true n 18 r) b)
    (λ r. by_test (eqb n 19) (λ u. rw (eqb-true n 19 u) c)
    (λ u. let e : n ≡ 20 = last (eqb-false n 17 q) (eqb-false n 18 r) (eqb-false n 19 u) in rw e d)))
  where
    last : (n ≡ 17 → ⊥) → (n ≡ 18 → ⊥) → (n ≡ 19 → ⊥) → n ≡ 20
    last x y z = omega (arith, lo, hi, x, y, z)

pub smt_lib-orders : (n : ℕ) → 17 ≤ n → n ≤ 20 → smt_lib n ≡ numbers two (λ a. bool) ++ mixture bool
unfolding smt_lib
smt_lib-orders = each-order smt_lib _ refl refl refl refl

module _ (ts : Sorts) (s : Sort) where
  -- k or more, all Int, all Real, or mixed: one result for all Int, another for the rest.
  abbrev Three : ℕ → (Bool → Sort) → Type 0
  Three k f =
      ((k ≤ count ts) × (all_same int ts ≡ true) × (s ≡ f false))
      ⊎ (((k ≤ count ts) × (all_same real ts ≡ true) × (s ≡ f true)) ⊎ (Numbers ts × Stands int ts × Stands real ts × (s ≡ f true)))

  -- That is k or more, each Int or Real.
  pub any-mixture : (k : ℕ) → k ≤ 2 → 1 ≤ k → (f : Bool → Sort) → Three k f ↔ Numbers ts × (k ≤ count ts) × (s ≡ f (stands real ts))
  any-mixture k a b f = (only, when)
    where
      only : Three k f → Numbers ts × (k ≤ count ts) × (s ≡ f (stands real ts))
      only (inl (c, i, e)) = let (n, d) = (ints-only ts).0 i in (n, c, e ∙ ap f (sym d))
      only (inr (inl (c, r, e))) = (((reals-only ts).0 r).0, c, e ∙ ap f (sym (are-stand real ts (omega (arith, b, c)) r)))
      only (inr (inr (n, i, r, e))) =
          (n, (let z = stands-two int real ts int-real i r in omega (arith, z, a)), e ∙ ap f (sym (stands-when real ts r)))

      when : Numbers ts × (k ≤ count ts) × (s ≡ f (stands real ts)) → Three k f
      when (n, c, e) =
          by_test (stands real ts)
          (λ r. by_test (stands int ts)
          (λ i. inr (inr (n, stands-only int ts i, stands-only real ts r, e ∙ ap f r)))
          (λ i. inr (inl (c, (reals-only ts).1 (n, i), e ∙ ap f r))))
          (λ r. inl (c, (ints-only ts).1 (n, r), e ∙ ap f r))

  -- An operator whose ranks fit so is accepted so.
  pub numbers-accepted : (n k : ℕ) → k ≤ 2 → 1 ≤ k → (f : Bool → Sort) → SomeFits (smt_lib n) ts s ↔ Three k f
      → operated smt_lib n ts ≡ sort s ↔ Numbers ts × (k ≤ count ts) × (s ≡ f (stands real ts))
  numbers-accepted n k a b f F =
      let A = accepted-smt_lib n ts s in
      let M = any-mixture k a b f in (
        λ h. M.0 (F.0 (A.0 h).1),
        λ g. A.1 (numbers-values ts g.0, F.1 (M.1 g)),
      )

  -- A rank for all Int, one for all Real and the form behind them fit so.
  as-three : (k : ℕ) (f : Bool → Sort) (p q : Rank) → Fits p ts s ↔ (k ≤ count ts) × (all_same int ts ≡ true) × (s ≡ f false)
      → Fits q ts s ↔ (k ≤ count ts) × (all_same real ts ≡ true) × (s ≡ f true) → SomeFits (p ∷ q ∷ computed (mixed (f true)) ∷ []) ts s ↔ Three k f
  as-three k f p q I R =
      let T = three-fits p q (computed (mixed (f true))) ts s in (
        λ F. ⊎_elim (λ g. inl (I.0 g)) (⊎_elim (λ g. inr (inl (R.0 g))) (λ g. inr (inr g))) (T.0 F),
        λ h. T.1 (⊎_elim (λ g. inl (I.1 g)) (⊎_elim (λ g. inr (inl (R.1 g))) (λ g. inr (inr g))) h),
      )

  -- "Add, Sub, Mult .. with Int and Real mixed: Real for the sums": 10 Add and 12 Mult take two or more.
  pub sum-accepted : (n : ℕ) → (n ≡ 10) ⊎ (n ≡ 12) → operated smt_lib n ts ≡ sort s ↔ Numbers ts × (2 ≤ count ts) × (s ≡ sum_of ts)
  unfolding smt_lib well_rank ground
  sum-accepted n c = numbers-accepted n 2 (omega arith) (omega arith) (λ b. cond b real int) (⊎_elim (λ e. rw e three) (λ e. rw e three) c)
    where
      three : SomeFits (numbers two (λ a. a) ++ mixture real) ts s ↔ Three 2 (λ b. cond b real int)
      three = as-three 2 (λ b. cond b real int) _ _ (two_fits int int refl refl refl ts s) (two_fits real real refl refl refl ts s)

  -- 11 Sub takes one or more.
  pub sub-accepted : operated smt_lib 11 ts ≡ sort s ↔ Numbers ts × (1 ≤ count ts) × (s ≡ sum_of ts)
  unfolding smt_lib well_rank ground all_same count
  sub-accepted =
      numbers-accepted 11 1 (omega arith) (omega arith) (λ b. cond b real int)
      (as-three 1 (λ b. cond b real int) _ _ (as-many-fit int int end refl refl refl refl ts s) (as-many-fit real real end refl refl refl refl ts s))

  -- "RealDiv takes Int and Real in any mixture, all Int too, and gives Real": 14, two or more.
  pub divide-accepted : operated smt_lib 14 ts ≡ sort s ↔ Numbers ts × (2 ≤ count ts) × (s ≡ real)
  unfolding smt_lib well_rank ground
  divide-accepted = numbers-accepted 14 2 (omega arith) (omega arith) (λ b. real) three
    where
      three : SomeFits (smt_lib 14) ts s ↔ Three 2 (λ b. real)
      three =
          let T = three-fits (rank true false (two real) real) (rank true false (two int) real) (computed (mixed real)) ts s in
          let I = two_fits int real refl refl refl ts s in let R = two_fits real real refl refl refl ts s in (
            λ F. ⊎_elim (λ g. inr (inl (R.0 g))) (⊎_elim (λ g. inl (I.0 g)) (λ g. inr (inr g))) (T.0 F),
            λ h. T.1 (⊎_elim (λ g. inr (inl (I.1 g))) (⊎_elim (λ g. inl (R.1 g)) (λ g. inr (inr g))) h),
          )

  -- "Bool for the orders": 17 LessThan, 18 GreaterThan, 19 LessEq, 20 GreaterEq, two or more.
  pub order-accepted : (n : ℕ) → 17 ≤ n → n ≤ 20 → operated smt_lib n ts ≡ sort s ↔ Numbers ts × (2 ≤ count ts) × (s ≡ bool)
  unfolding well_rank ground
  order-accepted n lo hi =
      numbers-accepted n 2 (omega arith) (omega arith) (λ b. bool)
      (rw (smt_lib-orders n lo hi) (as-three 2 (λ b. bool) _ _ (two_fits int bool refl refl refl ts s) (two_fits real bool refl refl refl ts s)))
