-- What is said of 21 and of inferred widths, and how it is proved: a verdict is gone through once, and what holds at each way out makes all
-- equivalences.
use Rattle.std.specs.Prelude.{◌≡◌, refl, ◌↔◌, ◌⊎◌, true, false, eqb}
use Rattle.std.proofs.Common.{sym, ap, ◌∙◌, inl, inr, ⊎_elim, arith, eqb-true}
use Rattle.std.proofs.lemmas.Bool.{eqb-false}
use Rattle.record.specs.Sort.{Sort, Sorts, var, par, node, end, ◌then◌, param_bit_vec, kind_of}
use Rattle.record.specs.Cases.{by_test}
use Rattle.substitution.specs.MatchWith.{is_param_bit_vec, is_bit_vec}
use Rattle.row_rules.specs.declared.Cause.TheVariants.{Panics}
use Rattle.row_rules.specs.Verdict.{Verdict, sort, refused}
use Rattle.row_rules.proofs.OutcomeLaws.{refused-sort, sort-inj}
use Rattle.infer_rules.specs.Inferred.{has_width}

---------------------------------------------------------------- what is said
-- Where a verdict is 21, and that it is a sort elsewhere.
pub record PanicsWhen (v : Verdict) (Panic : Type 0) : Type 0 where
  pub panics : v ≡ refused Panics ↔ Panic
  pub otherwise : ((s : Sort) × (v ≡ sort s)) ↔ (Panic → ⊥)
  pub nothing-else : (v ≡ refused Panics) ⊎ ((s : Sort) × (v ≡ sort s))

-- Where a vector's sort is 21, where of unknown width, and that elsewhere it is r.
pub record WidthWhen (v : Verdict) (Panic Unknown : Type 0) (r : Sort) : Type 0 where
  pub panics : v ≡ refused Panics ↔ Panic
  pub unknown : v ≡ sort param_bit_vec ↔ (Panic → ⊥) × Unknown
  pub known : v ≡ sort r ↔ (Panic → ⊥) × (Unknown → ⊥)
  pub nothing-else : (v ≡ refused Panics) ⊎ ((v ≡ sort param_bit_vec) ⊎ (v ≡ sort r))

-- A sort of the list is such, and those before it are so.
abbrev pub Behind : (Sort → Type 0) → (Sort → Type 0) → Sorts → Type 0
Behind Q P end = ⊥
Behind Q P (s then ss) = P s ⊎ (Q s × Behind Q P ss)

abbrev pub Some : (Sort → Type 0) → Sorts → Type 0
Some P ss = Behind (λ s. Unit) P ss

-- A vector of known width, one of unknown width, and no vector.
abbrev pub KnownWidth : Sort → Type 0
KnownWidth s = kind_of s ≡ 9

abbrev pub Unknown : Sort → Type 0
Unknown s = kind_of s ≡ 10

abbrev pub Other : Sort → Type 0
Other s = (kind_of s ≡ 9 → ⊥) × (kind_of s ≡ 10 → ⊥)

---------------------------------------------------------------- the ways out
pub sort-panics : {C : Type 0} {s : Sort} → sort s ≡ refused Panics → C
sort-panics {C} {s} e = refused-sort (sym e)

-- A verdict that is 21 or a sort,
pub bad : {v : Verdict} {P : Type 0} → v ≡ refused Panics → P → PanicsWhen v P
bad e p = record { panics = (λ h. p, λ h. e); otherwise = (λ h. refused-sort (sym e ∙ h.1), λ h. absurd (h p)); nothing-else = inl e }

pub good : {v : Verdict} {P : Type 0} (s : Sort) → v ≡ sort s → (P → ⊥) → PanicsWhen v P
good s e n = record { panics = (λ h. sort-panics (sym e ∙ h), λ h. absurd (n h)); otherwise = (λ h. n, λ h. (s, e)); nothing-else = inr (s, e) }

-- where the panic is said otherwise.
pub panics-said : {v : Verdict} {P Q : Type 0} → PanicsWhen v P → (P → Q) → (Q → P) → PanicsWhen v Q
panics-said W f g = ⊎_elim (λ e. bad e (f (W.panics.0 e))) (λ x. good x.0 x.1 (λ q. W.otherwise.0 x (g q))) W.nothing-else

-- A vector that is 21, of unknown width, or r,
pub bad-width : {v : Verdict} {P U : Type 0} {r : Sort} → v ≡ refused Panics → P → WidthWhen v P U r
bad-width e p = record {
  panics = (λ h. p, λ h. e);
  unknown = (λ h. refused-sort (sym e ∙ h), λ h. absurd (h.0 p));
  known = (λ h. refused-sort (sym e ∙ h), λ h. absurd (h.0 p));
  nothing-else = inl e;
}

pub unclear : {v : Verdict} {P U : Type 0} {r : Sort} → kind_of r ≡ 9 → v ≡ sort param_bit_vec → (P → ⊥) → U → WidthWhen v P U r
unclear {v} {P} {U} {r} k e n u = record {
  panics = (λ h. sort-panics (sym e ∙ h), λ h. absurd (n h));
  unknown = (λ h. (n, u), λ h. e);
  known = (λ h. let z = ap kind_of (sort-inj (sym e ∙ h)) in absurd (omega arith), λ h. absurd (h.1 u));
  nothing-else = inr (inl e);
}

pub wide : {v : Verdict} {P U : Type 0} {r : Sort} → kind_of r ≡ 9 → v ≡ sort r → (P → ⊥) → (U → ⊥) → WidthWhen v P U r
wide {v} {P} {U} {r} k e n u = record {
  panics = (λ h. sort-panics (sym e ∙ h), λ h. absurd (n h));
  unknown = (λ h. let z = ap kind_of (sort-inj (sym e ∙ h)) in absurd (omega arith), λ h. absurd (u h.1));
  known = (λ h. (n, u), λ h. e);
  nothing-else = inr (inr e);
}

-- where panic and unknown width are said otherwise,
pub width-said : {v : Verdict} {P Q U O : Type 0} {r : Sort} → kind_of r ≡ 9 → WidthWhen v P U r → (P → Q) → (Q → P) → (U → O) → (O → U) → WidthWhen v Q O r
width-said k W f g i j =
    ⊎_elim (λ e. bad-width e (f (W.panics.0 e)))
    (⊎_elim
    (λ e. let (n, u) = W.unknown.0 e in unclear k e (λ q. n (g q)) (i u))
    (λ e. let (n, u) = W.known.0 e in wide k e (λ q. n (g q)) (λ x. u (j x))))
    W.nothing-else

-- and as a verdict that is 21 or a sort.
pub width-panics : {v : Verdict} {P U : Type 0} {r : Sort} → WidthWhen v P U r → PanicsWhen v P
width-panics {v} {P} {U} {r} W =
    ⊎_elim (λ e. bad e (W.panics.0 e))
    (⊎_elim (λ e. good param_bit_vec e (W.unknown.0 e).0) (λ e. good r e (W.known.0 e).0))
    W.nothing-else

-- By the kind of a sort: known, unknown, other.
pub by_width : {C : Type 0} (s : Sort) → (has_width s ≡ true → KnownWidth s → C) → (has_width s ≡ false → is_param_bit_vec s ≡ true → is_bit_vec s ≡ true → Unknown s → C)
    → (has_width s ≡ false → is_param_bit_vec s ≡ false → is_bit_vec s ≡ false → Other s → C) → C
by_width (var v) f g h = h refl refl refl (λ e. omega arith, λ e. omega arith)
by_width (par ns b) f g h = h refl refl refl (λ e. omega arith, λ e. omega arith)
by_width (node k a w ss) f g h =
    by_test (eqb k 9)
    (λ q. f q (eqb-true k 9 q))
    (λ q. by_test (eqb k 10) (λ r. g q r (rw (q, r) refl) (eqb-true k 10 r)) (λ r. h q r (rw (q, r) refl) (eqb-false k 9 q, eqb-false k 10 r)))

pub known-bitvec : (s : Sort) → KnownWidth s → is_bit_vec s ≡ true
known-bitvec (var v) e = absurd (omega arith)
known-bitvec (par ns b) e = absurd (omega arith)
known-bitvec (node k a w ss) e = rw e refl
