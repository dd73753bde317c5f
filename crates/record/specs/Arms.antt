-- The numbers of the arms of a match: a number that is in none of them, and what holds of the numbers of an arm, by computation.
use Prim.Native.Nat.{ℕ, zero, suc, ◌+◌, ◌≤◌, ◌<◌}
use Rattle.std.specs.Prelude.{◌≡◌, refl, Bool, false, ◌&&◌, ◌||◌, eqb}
use Rattle.std.proofs.Common.{sym, inl, inr, arith, eq-or-lt_of_le, eq-eqb, ne_eqb}
use Rattle.std.proofs.Math.Path.{subst}
use Rattle.std.proofs.Math.Bool.{true}
use mathlib.Core.List.{List, [], ◌∷◌}
use Rattle.std.proofs.Math.Logic.{⊎_elim}
use types.Run.{OneOf}
use Rattle.record.specs.Cases.{and_left, and_right, or-second, or-other}

unfoldable pub keyed : List ℕ → ℕ → Bool
keyed [] o = false
keyed (k ∷ ks) o = eqb o k || keyed ks o

pub one-keyed : (ks : List ℕ) (o : ℕ) → OneOf ks o → keyed ks o ≡ true
unfolding keyed
one-keyed [] o h = absurd h
one-keyed (k ∷ []) o h = rw (eq-eqb o k h) refl
one-keyed (k ∷ (l ∷ ks)) o h =
    ⊎_elim (λ (q : o ≡ k). rw (eq-eqb o k q) refl) (λ (q : OneOf (l ∷ ks) o). or-second (eqb o k) (keyed (l ∷ ks) o) (one-keyed (l ∷ ks) o q)) h

pub not-keyed : (ks : List ℕ) (o : ℕ) → (OneOf ks o → ⊥) → keyed ks o ≡ false
unfolding keyed
not-keyed [] o h = refl
not-keyed (k ∷ []) o h = rw (ne_eqb o k h) refl
not-keyed (k ∷ (l ∷ ks)) o h = rw (ne_eqb o k (λ q. h (inl q))) (not-keyed (l ∷ ks) o (λ q. h (inr q)))

-- o is in none of these arms' numbers, the last arm first.
abbrev pub Missed : List (List ℕ) → ℕ → Type 0
Missed [] o = Unit {0}
Missed (ks ∷ kss) o = Missed kss o × (OneOf ks o → ⊥)

unfoldable pub among : List (List ℕ) → ℕ → Bool
unfolding keyed
among [] o = false
among (ks ∷ kss) o = keyed ks o || among kss o

pub missed : (kss : List (List ℕ)) (o : ℕ) → Missed kss o → among kss o ≡ false
unfolding among
missed [] o h = refl
missed (ks ∷ kss) o h = rw (not-keyed ks o h.1) (missed kss o h.0)

---------------------------------------------------------------- what holds of an arm's numbers
-- Each of the single numbers passes the test t.
unfoldable pub keys_pass : (ℕ → Bool) → List ℕ → Bool
keys_pass t [] = true
keys_pass t (k ∷ ks) = t k && keys_pass t ks

-- Each of the n numbers from o on passes it, or is a single number of other arms.
unfoldable pub others_pass : (ℕ → Bool) → List (List ℕ) → ℕ → ℕ → Bool
others_pass t kss o zero = true
others_pass t kss o (suc n) = (among kss o || t o) && others_pass t kss (suc o) n

module _ (P : ℕ → Type 0) (t : ℕ → Bool) (holds : (o : ℕ) → t o ≡ true → P o) where
  pub keys-hold : (ks : List ℕ) → keys_pass t ks ≡ true → (o : ℕ) → OneOf ks o → P o
  unfolding keys_pass
  keys-hold [] e o h = absurd h
  keys-hold (k ∷ []) e o h = subst P (sym h) (holds k (and_left (t k) true e))
  keys-hold (k ∷ (l ∷ ks)) e o h =
      ⊎_elim
      (λ (q : o ≡ k). subst P (sym q) (holds k (and_left (t k) (keys_pass t (l ∷ ks)) e)))
      (λ (q : OneOf (l ∷ ks) o). keys-hold (l ∷ ks) (and_right (t k) (keys_pass t (l ∷ ks)) e) o q)
      h

  pub others-hold : (kss : List (List ℕ)) (lo n : ℕ) → others_pass t kss lo n ≡ true → (o : ℕ) → Missed kss o → lo ≤ o → o < lo + n → P o
  unfolding others_pass
  others-hold kss lo zero e o m h k = absurd (omega arith)
  others-hold kss lo (suc n) e o m h k =
      ⊎_elim
      (λ (q : lo ≡ o).
      holds o
      (or-other (among kss o) (t o) (missed kss o m)
      (subst (λ (x : ℕ). among kss x || t x ≡ true) q (and_left (among kss lo || t lo) (others_pass t kss (suc lo) n) e))))
      (λ (q : lo < o). others-hold kss (suc lo) n (and_right (among kss lo || t lo) (others_pass t kss (suc lo) n) e) o m q (omega arith))
      (eq-or-lt_of_le h)
