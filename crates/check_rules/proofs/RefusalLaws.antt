-- How the theorems on refusals are proved: a verdict is gone through once, and each way out, which says which of the five conditions fails,
-- makes all six equivalences.
use Rattle.std.specs.Prelude.{ℕ, ◌≤◌, ◌≡◌, refl, ◌↔◌, Bool, true, false, List, eqb}
use Rattle.std.proofs.Common.{sym, ◌∙◌, arith, eqb-true}
use Rattle.std.proofs.lemmas.Bool.{false≢true, eqb-false}
use Rattle.std.proofs.Math.Option.{Option, none, some}
use Rattle.record.specs.Sort.{Sort, Sorts}
use Rattle.record.specs.Cases.{by_test, none-some, some_inj}
use Rattle.sheet.specs.Sheet.{Binding}
use Rattle.row_rules.specs.declared.Cause.{Cause}
use Rattle.row_rules.specs.declared.Cause.TheVariants.{Below, NoRank, Count, Misfit, Unassigned, Barred}
use Rattle.row_rules.specs.Verdict.{Verdict, sort, refused, need, number_of}
use Rattle.row_rules.specs.Term.{Site, over_parts}
use Rattle.row_rules.proofs.OutcomeLaws.{refused-sort}
use Rattle.check_rules.proofs.FitLaws.{sort-refused, other-cause}
use Rattle.check_rules.specs.Refusals.{Exactly}

---------------------------------------------------------------- the ways out
-- A refusal tells its cause.
pub refused-inj : {c d : Cause} → refused c ≡ refused d → c ≡ d
refused-inj e = cc

-- The cause is one of the five.
told : {v : Verdict} {c d : Cause} → v ≡ refused c → (24 ≤ number_of c) × (number_of c ≤ 28) → v ≡ refused d → (24 ≤ number_of d) × (number_of d ≤ 28)
told e b h = let q = refused-inj (sym e ∙ h) in rw q at b

-- WHAT A VERDICT SAYS, with the conditions that hold or fail there, makes all equivalences: two causes are never one, and a condition
-- does not hold and fail.
pub as-unranked : {v : Verdict} {A P C F X : Type 0} → v ≡ refused NoRank → (A → ⊥) → Exactly v A P C F X
as-unranked e a = record {
  unranked = (λ h. a, λ h. e);
  barred = (λ h. other-cause refl (sym e ∙ h), λ h. absurd (a h.0));
  miscounted = (λ h. other-cause refl (sym e ∙ h), λ h. absurd (a h.0));
  misfit = (λ h. other-cause refl (sym e ∙ h), λ h. absurd (a h.0));
  unassigned = (λ h. other-cause refl (sym e ∙ h), λ h. absurd (a h.0));
  nothing-else = λ c h. told e (omega arith, omega arith) h;
  accepted = (λ h. refused-sort (sym e ∙ h.1), λ h. absurd (a h.0));
}

pub as-barred : {v : Verdict} {A P C F X : Type 0} → v ≡ refused Barred → A → (P → ⊥) → Exactly v A P C F X
as-barred e a p = record {
  unranked = (λ h. other-cause refl (sym e ∙ h), λ h. absurd (h a));
  barred = (λ h. (a, p), λ h. e);
  miscounted = (λ h. other-cause refl (sym e ∙ h), λ h. absurd (p h.1));
  misfit = (λ h. other-cause refl (sym e ∙ h), λ h. absurd (p h.1));
  unassigned = (λ h. other-cause refl (sym e ∙ h), λ h. absurd (p h.1));
  nothing-else = λ c h. told e (omega arith, omega arith) h;
  accepted = (λ h. refused-sort (sym e ∙ h.1), λ h. absurd (p h.1));
}

pub as-miscounted : {v : Verdict} {A P C F X : Type 0} → v ≡ refused Count → A → P → (C → ⊥) → Exactly v A P C F X
as-miscounted e a p c = record {
  unranked = (λ h. other-cause refl (sym e ∙ h), λ h. absurd (h a));
  barred = (λ h. other-cause refl (sym e ∙ h), λ h. absurd (h.1 p));
  miscounted = (λ h. (a, p, c), λ h. e);
  misfit = (λ h. other-cause refl (sym e ∙ h), λ h. absurd (c h.2));
  unassigned = (λ h. other-cause refl (sym e ∙ h), λ h. absurd (c h.2));
  nothing-else = λ c h. told e (omega arith, omega arith) h;
  accepted = (λ h. refused-sort (sym e ∙ h.1), λ h. absurd (c h.2));
}

pub as-misfit : {v : Verdict} {A P C F X : Type 0} → v ≡ refused Misfit → A → P → C → (F → ⊥) → Exactly v A P C F X
as-misfit e a p c f = record {
  unranked = (λ h. other-cause refl (sym e ∙ h), λ h. absurd (h a));
  barred = (λ h. other-cause refl (sym e ∙ h), λ h. absurd (h.1 p));
  miscounted = (λ h. other-cause refl (sym e ∙ h), λ h. absurd (h.2 c));
  misfit = (λ h. (a, p, c, f), λ h. e);
  unassigned = (λ h. other-cause refl (sym e ∙ h), λ h. absurd (f h.3));
  nothing-else = λ c h. told e (omega arith, omega arith) h;
  accepted = (λ h. refused-sort (sym e ∙ h.1), λ h. absurd (f h.3));
}

pub as-unassigned : {v : Verdict} {A P C F X : Type 0} → v ≡ refused Unassigned → A → P → C → F → (X → ⊥) → Exactly v A P C F X
as-unassigned e a p c f x = record {
  unranked = (λ h. other-cause refl (sym e ∙ h), λ h. absurd (h a));
  barred = (λ h. other-cause refl (sym e ∙ h), λ h. absurd (h.1 p));
  miscounted = (λ h. other-cause refl (sym e ∙ h), λ h. absurd (h.2 c));
  misfit = (λ h. other-cause refl (sym e ∙ h), λ h. absurd (h.3 f));
  unassigned = (λ h. (a, p, c, f, x), λ h. e);
  nothing-else = λ c h. told e (omega arith, omega arith) h;
  accepted = (λ h. refused-sort (sym e ∙ h.1), λ h. absurd (x h.4));
}

pub as-accepted : {v : Verdict} {A P C F X : Type 0} → (s : Sort) → v ≡ sort s → A → P → C → F → X → Exactly v A P C F X
as-accepted s e a p c f x = record {
  unranked = (λ h. sort-refused (sym e ∙ h), λ h. absurd (h a));
  barred = (λ h. sort-refused (sym e ∙ h), λ h. absurd (h.1 p));
  miscounted = (λ h. sort-refused (sym e ∙ h), λ h. absurd (h.2 c));
  misfit = (λ h. sort-refused (sym e ∙ h), λ h. absurd (h.3 f));
  unassigned = (λ h. sort-refused (sym e ∙ h), λ h. absurd (h.4 x));
  accepted = (λ h. (a, p, c, f, x), λ h. (s, e));
  nothing-else = λ c h. sort-refused (sym e ∙ h);
}

-- The same conditions in other words: what is asked of the sorts may be put otherwise where the count is right.
pub exactly-same : {v : Verdict} {A P C F X B D G : Type 0} → Exactly v A P C F X → A ↔ B → C ↔ D → (C → F ↔ G) → Exactly v B P D G X
exactly-same e a c f = record {
  unranked = (λ h b. e.unranked.0 h (a.1 b), λ n. e.unranked.1 (λ x. n (a.0 x)));
  barred = (λ h. let (x, p) = e.barred.0 h in (a.0 x, p), λ h. e.barred.1 (a.1 h.0, h.1));
  miscounted = (
    λ h. let (x, p, n) = e.miscounted.0 h in (a.0 x, p, λ d. n (c.1 d)),
    λ h. let (b, p, n) = h in e.miscounted.1 (a.1 b, p, λ y. n (c.0 y)),
  );
  misfit = (
    λ h. let (x, p, y, n) = e.misfit.0 h in (a.0 x, p, c.0 y, λ g. n ((f y).1 g)),
    λ h. let (b, p, d, n) = h in e.misfit.1 (a.1 b, p, c.1 d, λ z. n ((f (c.1 d)).0 z)),
  );
  unassigned = (
    λ h. let (x, p, y, z, n) = e.unassigned.0 h in (a.0 x, p, c.0 y, (f y).0 z, n),
    λ h. let (b, p, d, g, n) = h in e.unassigned.1 (a.1 b, p, c.1 d, (f (c.1 d)).1 g, n),
  );
  accepted = (
    λ h. let (x, p, y, z, w) = e.accepted.0 h in (a.0 x, p, c.0 y, (f y).0 z, w),
    λ h. let (b, p, d, g, w) = h in e.accepted.1 (a.1 b, p, c.1 d, (f (c.1 d)).1 g, w),
  );
  nothing-else = e.nothing-else;
}

-- A test of counts, then one of sorts, each of which says its condition.
pub tests : (q r : Bool) (s : Sort) {v : Verdict} {A P C F : Type 0} → v ≡ need q Count (need r Misfit (sort s)) → A → P
    → (q ≡ true ↔ C) → (r ≡ true ↔ F) → Exactly v A P C F Unit
tests true true s e a p c f = as-accepted s e a p (c.0 refl) (f.0 refl) _
tests true false s e a p c f = as-misfit e a p (c.0 refl) (λ h. false≢true (f.1 h))
tests false r s e a p c f = as-miscounted e a p (λ h. false≢true (c.1 h))

-- A test of the record's own sorts.
pub cleaned : (q : Bool) {v : Verdict} {P C F : Type 0} → (q ≡ true ↔ P) → (q ≡ true → P → Exactly v Unit P C F Unit) → (q ≡ false → v ≡ refused Barred)
    → Exactly v Unit P C F Unit
cleaned true i f g = f refl (i.0 refl)
cleaned false i f g = as-barred (g refl) _ (λ p. false≢true (i.1 p))

-- By whether a number is another one.
pub by_equal : {C : Type 0} (n k : ℕ) → (eqb n k ≡ true → n ≡ k → C) → (eqb n k ≡ false → (n ≡ k → ⊥) → C) → C
by_equal n k f g = by_test (eqb n k) (λ q. f q (eqb-true n k q)) (λ q. g q (eqb-false n k q))

-- The verdict over the parts of a record is a cause other than 20 exactly where all parts have sorts and the record is refused for it.
pub parts-cause : (J : Site → Verdict) (k n : ℕ) (o : Sort) (bs : List Binding) (cs is : List (Option ℕ)) (a b : Option Sorts) (c : Cause) → (c ≡ Below → ⊥)
    → over_parts J k n o bs cs is a b ≡ refused c
    ↔ ((ts : Sorts) × (js : Sorts) × (a ≡ some ts) × (b ≡ some js)
    × (J (record { kind = k; number = n; own = o; args = ts; bindings = bs; constants = cs; indices = is }) ≡ refused c))
parts-cause J k n o bs cs is none b c d = (λ h. absurd (d (sym (refused-inj h))), λ g. let (ts, js, p, q, h) = g in none-some p)
parts-cause J k n o bs cs is (some ts) none c d = (λ h. absurd (d (sym (refused-inj h))), λ g. let (us, js, p, q, h) = g in none-some q)
parts-cause J k n o bs cs is (some ts) (some js) c d = (
  λ h. (ts, js, refl, refl, h),
  λ g. let (us, vs, p, q, h) = g in rw (some_inj p) h,
)
