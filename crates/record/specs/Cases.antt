-- Small laws of Bool, Option and numbers that the laws of sorts, substitution, matching and rows use: taking tests apart, and cases that keep
-- their equation.
use Rattle.std.specs.Prelude.{ℕ, zero, suc, ◌<◌, ◌≡◌, refl, Bool, true, false, ◌&&◌, ◌||◌, eqb}
use Rattle.std.proofs.Common.{sym, true≢false, arith, eq-eqb, eqb-true}
use Rattle.std.proofs.lemmas.Bool.{false≢true}
use Rattle.std.proofs.Math.Option.{Option, none, some}
-- A conjunction of two tests that hold holds, and one with a false side is false. A disjunction holds if one of its sides does.
-- A test whose negation held failed; one whose negation failed held. A test that does not hold is false.
pub use Rattle.std.proofs.lemmas.Bool.{and_from as and-true, and_left as false-first, and_right as false-second, or_left as or-first, or_right as or-second, not-true, not-false, false_from_ne_true as not-true-false}

-- Both sides of a conjunction that holds; `search conj` finds them where they are nested.
pub and_left : (a b : Bool) → (a && b) ≡ true → a ≡ true
and_left true b e = refl
and_left false b e = e

pub and_right : (a b : Bool) → (a && b) ≡ true → b ≡ true
and_right true b e = e
and_right false b e = absurd (false≢true e)

pub ruleset conj = (and_left, and_right)

-- The three sides of a conjunction of three.
pub three : (a b c : Bool) → (a && b && c) ≡ true → (a ≡ true) × (b ≡ true) × (c ≡ true)
three true true c e = (refl, refl, e)
three true false c e = absurd (false≢true e)
three false b c e = absurd (false≢true e)

-- The same, grouped to the right.
pub three-right : (a b c : Bool) → (a && (b && c)) ≡ true → (a ≡ true) × (b ≡ true) × (c ≡ true)
three-right a b c e = let f = and_right a (b && c) e in (and_left a (b && c) e, and_left b c f, and_right b c f)

-- Both sides of a disjunction that fails.
pub or_left : (a b : Bool) → (a || b) ≡ false → a ≡ false
or_left true b e = e
or_left false b e = refl

pub or_right : (a b : Bool) → (a || b) ≡ false → b ≡ false
or_right true b e = absurd (true≢false e)
or_right false b e = e

-- If a disjunction holds, one of its sides does.
pub or_cases : {C : Type 0} (a b : Bool) → (a || b) ≡ true → (a ≡ true → C) → (b ≡ true → C) → C
or_cases true b e f g = f refl
or_cases false b e f g = g e

-- A disjunction that holds and whose first side fails.
pub or-other : (a b : Bool) → a ≡ false → (a || b) ≡ true → b ≡ true
or-other true b h e = absurd (true≢false h)
or-other false b h e = e

-- The last two sides may change places, and a side said twice counts once.
pub last-two : (a b c : Bool) → (a || b || c) ≡ (a || c || b)
last-two true b c = refl
last-two false true true = refl
last-two false true false = refl
last-two false false true = refl
last-two false false false = refl

pub said-twice : (a : Bool) → (a || false || false || a) ≡ a
said-twice true = refl
said-twice false = refl

-- A test cannot both hold and fail.
pub clash : {C : Type 0} {a : Bool} → a ≡ true → a ≡ false → C
clash {C} {a} p q = let z : true ≡ false = cc in absurd (true≢false z)

-- Two tests that hold together are equal.
pub both_ways : (a b : Bool) → (a ≡ true → b ≡ true) → (b ≡ true → a ≡ true) → a ≡ b
both_ways true b f g = sym (f refl)
both_ways false true f g = g refl
both_ways false false f g = refl

-- A number is equal to itself, and the test does not mind the order.
pub eqb-self : (n : ℕ) → eqb n n ≡ true
eqb-self n = eq-eqb n n refl

pub eqb_swap : (m n : ℕ) → eqb m n ≡ eqb n m
eqb_swap m n =
    both_ways (eqb m n) (eqb n m) (λ e. eq-eqb n m (sym (eqb-true m n e))) (λ e. eq-eqb m n (sym (eqb-true n m e)))

-- By cases on a test or an option, with the equation kept.
pub by_test : {C : Type 0} (b : Bool) → (b ≡ true → C) → (b ≡ false → C) → C
by_test true t f = t refl
by_test false t f = f refl

pub by_option : {A : Type 0} {C : Type 0} (o : Option A) → (o ≡ none → C) → ((a : A) → o ≡ some a → C) → C
by_option none n s = n refl
by_option (some a) n s = s a refl

-- The constructors of Option are apart, and `some` takes no two values to one.
pub none-some : {A C : Type 0} {x : A} → none ≡ some x → C
none-some {A} {C} {x} e = let z : true ≡ false = cc in absurd (true≢false z)

pub some_inj : {A : Type 0} {x y : A} → some x ≡ some y → x ≡ y
some_inj {A} {x} {y} e = cc

-- A number below the next one and other than this one is below this one.
pub below_other : (a b : ℕ) → a < suc b → (a ≡ b → ⊥) → a < b
below_other a b h n = omega arith

-- A number other than 0 is over 0.
pub positive : (n : ℕ) → (n ≡ 0 → ⊥) → 0 < n
positive zero h = absurd (h refl)
positive (suc n) h = omega arith
