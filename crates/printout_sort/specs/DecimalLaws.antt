-- What `decimal` is without its fuel, for every number: the last digit, behind the decimal of what stands before it; and how
-- many digits a number has: one more than are left of it after a division by ten.
use Rattle.std.specs.Prelude.{ℕ, zero, suc, ◌+◌, ◌*◌, ◌-◌, ◌/◌, ◌%◌, ◌^◌, ◌≤◌, ◌<◌, ◌≡◌, refl, List, [], ◌∷◌, ◌++◌, length, drop, set, Option, None, Some, IfNone, IfSome}
use Rattle.std.specs.Option.{unwrap_or}
use Rattle.std.proofs.Common.{arith, ap, sym, ◌∙◌, add-one, append_assoc, length-append}
use Rattle.std.proofs.lemmas.List.{drop-set}
use Rattle.std.proofs.Math.Nat.{pow-succ'}
use Rattle.printout_sort.specs.Text.{ahead, digits, decimal}

ahead-same : (F G : ℕ → List ℕ) (q : ℕ) → (0 < q → F q ≡ G q) → ahead q F ≡ ahead q G
ahead-same F G zero h = refl
ahead-same F G (suc q) h = h (omega arith)

-- Fuel over the number is enough, and more changes nothing.
digits_same : (f g n : ℕ) → n < f → n < g → digits f n ≡ digits g n
unfolding digits
digits_same zero g n h k = absurd (omega arith)
digits_same (suc f) zero n h k = absurd (omega arith)
digits_same (suc f) (suc g) n h k =
    ap (λ (l : List ℕ). l ++ ((48 + n % 10) ∷ []))
    (ahead-same (λ q. digits f q) (λ q. digits g q) (n / 10) (λ p. digits_same f g (n / 10) (omega arith) (omega arith)))

-- THE LAW OF DECIMALS.
pub decimal-is : (n : ℕ) → decimal n ≡ ahead (n / 10) decimal ++ ((48 + n % 10) ∷ [])
unfolding decimal digits
decimal-is n =
    ap (λ (l : List ℕ). l ++ ((48 + n % 10) ∷ []))
    (ahead-same (λ q. digits n q) decimal (n / 10) (λ p. digits_same n (suc (n / 10)) (n / 10) (omega arith) (omega arith)))

-- The number that digits stand for, behind a number m that was read before them.
unfoldable pub value_from : ℕ → List ℕ → ℕ
value_from m [] = m
value_from m (d ∷ ds) = value_from (m * 10 + (d - 48)) ds

value-last : (m : ℕ) (l : List ℕ) (d : ℕ) → value_from m (l ++ (d ∷ [])) ≡ value_from m l * 10 + (d - 48)
unfolding value_from
value-last m [] d = refl
value-last m (c ∷ l) d = value-last (m * 10 + (c - 48)) l d

value-ahead : (F : ℕ → List ℕ) (q : ℕ) → (0 < q → value_from 0 (F q) ≡ q) → value_from 0 (ahead q F) ≡ q
unfolding value_from
value-ahead F zero h = refl
value-ahead F (suc q) h = h (omega arith)

value-digits : (f n : ℕ) → n < f → value_from 0 (digits f n) ≡ n
unfolding digits
value-digits zero n h = absurd (omega arith)
value-digits (suc f) n h =
    let e = value-ahead (λ q. digits f q) (n / 10) (λ p. value-digits f (n / 10) (omega arith)) in
    value-last 0 (ahead (n / 10) (λ q. digits f q)) (48 + n % 10) ∙ omega (arith, e)

-- DECIMALS ARE RIGHT: read back, they are the number.
pub decimal-value : (n : ℕ) → value_from 0 (decimal n) ≡ n
unfolding decimal
decimal-value n = value-digits (suc n) n (omega arith)

ahead_none : (F : ℕ → List ℕ) (q : ℕ) → q ≡ 0 → ahead q F ≡ []
ahead_none F zero e = refl
ahead_none F (suc q) e = absurd (omega arith)

ahead-some : (F : ℕ → List ℕ) (q : ℕ) → 0 < q → ahead q F ≡ F q
ahead-some F zero h = absurd (omega arith)
ahead-some F (suc q) h = refl

-- A number under ten is one digit; another is its last digit behind the others.
pub decimal-one : (n : ℕ) → n < 10 → decimal n ≡ (48 + n % 10) ∷ []
decimal-one n h = decimal-is n ∙ ap (λ (l : List ℕ). l ++ ((48 + n % 10) ∷ [])) (ahead_none decimal (n / 10) (omega arith))

pub decimal-more : (n : ℕ) → 10 ≤ n → decimal n ≡ decimal (n / 10) ++ ((48 + n % 10) ∷ [])
decimal-more n h = decimal-is n ∙ ap (λ (l : List ℕ). l ++ ((48 + n % 10) ∷ [])) (ahead-some decimal (n / 10) (omega arith))

-- DIVIDING BY TEN TAKES ONE DIGIT OFF, for every number; none is left of a number under ten.
pub decimal-divided : (n : ℕ) → length (decimal n) ≡ suc (length (ahead (n / 10) decimal))
decimal-divided n =
    omega (arith, ap length (decimal-is n), length-append (ahead (n / 10) decimal) ((48 + n % 10) ∷ []))

-- The same by cases, as a loop of divisions meets them.
pub digits-one : (n : ℕ) → n < 10 → length (decimal n) ≡ 1
digits-one n h = omega (arith, decimal-divided n, ap length (ahead_none decimal (n / 10) (omega arith)))

pub digits_more : (n : ℕ) → 10 ≤ n → length (decimal n) ≡ suc (length (decimal (n / 10)))
digits_more n h = omega (arith, decimal-divided n, ap length (ahead-some decimal (n / 10) (omega arith)))

-- HOW MANY DIGITS a number has: suc i, from the first number of so many digits up to the first of more.
unfoldable pub ten : ℕ → ℕ
ten zero = 1
ten (suc i) = 10 * ten i

pub ten-power : (i : ℕ) → ten i ≡ 10 ^ i
unfolding ten
ten-power zero = refl
ten-power (suc i) = omega (arith, ten-power i, pow-succ' 10 i)

ten-pos : (i : ℕ) → 1 ≤ ten i
unfolding ten
ten-pos zero = omega arith
ten-pos (suc i) = omega (arith, ten-pos i)

pub decimal-length : (i n : ℕ) → (0 < i → ten i ≤ n) → n < ten (suc i) → length (decimal n) ≡ suc i
unfolding ten
decimal-length zero n low high = digits-one n (omega arith)
decimal-length (suc i) n low high =
    omega (
      arith,
      digits_more n (omega (arith, low (omega arith), ten-pos i)),
      decimal-length i (n / 10) (λ h. omega (arith, low (omega arith))) (omega arith),
    )

-- The same by the logarithm of the number, which 0 has none of.
pub logarithm-length : (n : ℕ) (r : Option ℕ) → IfNone r (n ≡ 0) → IfSome r (λ k. 10 ^ k ≤ n) → IfSome r (λ k. n < 10 * 10 ^ k)
    → length (decimal n) ≡ suc (unwrap_or r 0)
logarithm-length n None e l h = digits-one n (omega (arith, e))
logarithm-length n (Some k) e l h =
    decimal-length k n (λ o. omega (arith, l, ten-power k)) (omega (arith, h, ten-power (suc k), pow-succ' 10 k))

ahead-short : (q : ℕ) → length (ahead q decimal) ≤ length (decimal q)
ahead-short zero = omega arith
ahead-short (suc q) = omega arith

-- At most so many, below the first number of more.
pub decimal-most : (i n : ℕ) → n < ten (suc i) → length (decimal n) ≤ suc i
unfolding ten
decimal-most zero n h = omega (arith, digits-one n (omega arith))
decimal-most (suc i) n h =
    omega (arith, decimal-divided n, ahead-short (n / 10), decimal-most i (n / 10) (omega arith))

-- THE LAST DIGITS of a number, so many of them.
unfoldable pub last_digits : ℕ → ℕ → List ℕ
last_digits zero n = []
last_digits (suc m) n = last_digits m (n / 10) ++ ((48 + n % 10) ∷ [])

ahead_last : (m q : ℕ) → m ≡ length (ahead q decimal) → (m ≡ length (decimal q) → last_digits m q ≡ decimal q) → last_digits m q ≡ ahead q decimal
unfolding last_digits
ahead_last zero zero e h = refl
ahead_last (suc m) zero e h = absurd (omega arith)
ahead_last m (suc q) e h = h e

-- As many as it has are the number.
pub all-digits : (m n : ℕ) → m ≡ length (decimal n) → last_digits m n ≡ decimal n
unfolding last_digits
all-digits zero n e = absurd (omega (arith, decimal-divided n))
all-digits (suc m) n e =
    ap (λ (l : List ℕ). l ++ ((48 + n % 10) ∷ []))
    (ahead_last m (n / 10) (omega (arith, decimal-divided n)) (λ p. all-digits m (n / 10) p))
    ∙ sym (decimal-is n)

-- Writing a digit: it stands before those that are written.
pub digit-put : (m n : ℕ) (l : List ℕ) → m < length l → last_digits m (n / 10) ++ drop m (set l m (48 + n % 10)) ≡ last_digits (m + 1) n ++ drop (m + 1) l
unfolding last_digits
digit-put m n l h =
    ap (λ (r : List ℕ). last_digits m (n / 10) ++ r) (drop-set l m (48 + n % 10) h)
    ∙ sym (append_assoc (last_digits m (n / 10)) ((48 + n % 10) ∷ []) (drop (m + 1) l))
    ∙ ap (λ (k : ℕ). last_digits k n ++ drop (m + 1) l) (sym (add-one m))
