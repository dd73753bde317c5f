-- Lines one behind the other: the same lines under other numbers, and how long lines of 81 bytes are together.
use Rattle.std.specs.Prelude.{ℕ, zero, suc, ◌+◌, ◌*◌, ◌<◌, ◌≡◌, refl, List, ◌++◌, length}
use Rattle.std.proofs.Common.{sym, ap, ap₂, ◌∙◌, arith, length-append}
use Rattle.printout.specs.Whole.{lines_from}

pub lines-shift : (f g : ℕ → List ℕ) (i j n : ℕ) → ((k : ℕ) → k < n → f (i + k) ≡ g (j + k)) → lines_from f i n ≡ lines_from g j n
unfolding lines_from
lines-shift f g i j zero h = refl
lines-shift f g i j (suc n) h =
    let a : i ≡ i + 0 = omega arith in
    let b : j ≡ j + 0 = omega arith in
    ap₂ ◌++◌ (ap f a ∙ h 0 (omega arith) ∙ sym (ap g b))
    (lines-shift f g (suc i) (suc j) n
    (λ k l.
    let c : suc i + k ≡ i + suc k = omega arith in
    let d : suc j + k ≡ j + suc k = omega arith in
    ap f c ∙ h (suc k) (omega arith) ∙ sym (ap g d)))

pub lines_long : (f : ℕ → List ℕ) → ((k : ℕ) → length (f k) ≡ 81) → (i n : ℕ) → length (lines_from f i n) ≡ 81 * n
unfolding lines_from
lines_long f h i zero = refl
lines_long f h i (suc n) = omega (arith, length-append (f i) (lines_from f (suc i) n), h i, lines_long f h (suc i) n)
