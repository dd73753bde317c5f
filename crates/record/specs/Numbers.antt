-- What the iterators over the numbers of a list have left, and that the iterators of a list start with all of its numbers.
use Rattle.std.specs.Prelude.{ℕ, zero, suc, ◌+◌, ◌*◌, ◌<◌, ◌≤◌, ◌≡◌, List, [], ◌∷◌, length, get_or, take, drop, refl}
use Rattle.std.proofs.Common.{arith, drop-cons, ap}
use Rattle.std.proofs.lemmas.Iterator.{YieldsList}
use Rattle.std.proofs.lemmas.Iterator.Consumers.{YieldsList-from_first}
use Rattle.std.specs.Iterator.{YieldsFirst}
use Rattle.record.specs.Number.{u16_at, numbers_at, pairs_at}
use Rattle.record.specs.Codec.{Bytes}
use Rattle.record.specs.declared.numbers.Numbers.{Numbers}
use Rattle.record.specs.declared.numbers.Pairs.{Pairs}

-- The numbers in bytes, two each.
abbrev pub numbers_of : List ℕ → List ℕ
numbers_of (a ∷ b ∷ bytes) = (a + b * 256) ∷ numbers_of bytes
numbers_of bytes = []

-- The pairs of numbers in bytes, four each.
abbrev pub pairs_of : List ℕ → List (ℕ × ℕ)
pairs_of (a ∷ b ∷ c ∷ d ∷ bytes) = (a + b * 256, c + d * 256) ∷ pairs_of bytes
pairs_of bytes = []

abbrev pub numbers_left : Numbers → List ℕ
numbers_left n = numbers_of n.bytes.now

abbrev pub pairs_left : Pairs → List (ℕ × ℕ)
pairs_left p = pairs_of p.bytes.now

-- The numbers and the pairs of the part of the bytes where n of them stand are those n.
pub numbers-of-part : (s : List ℕ) (x n : ℕ) → x + 2 * n ≤ length s → numbers_of (take (2 * n) (drop x s)) ≡ numbers_at s x n
unfolding numbers_at u16_at
numbers-of-part s x zero l = refl
numbers-of-part s x (suc n) l =
    let e : 2 * suc n ≡ suc (suc (2 * n)) = omega arith in
    let f : suc (suc x) ≡ x + 2 = omega arith in
    let g : suc x ≡ x + 1 = omega arith in
    rw (e, drop-cons s x 0 (omega arith), drop-cons s (suc x) 0 (omega arith), f, g)
    (ap (λ (r : List ℕ). (get_or s x 0 + get_or s (x + 1) 0 * 256) ∷ r) (numbers-of-part s (x + 2) n (omega arith)))

pub pairs-of-part : (s : List ℕ) (x n : ℕ) → x + 4 * n ≤ length s → pairs_of (take (4 * n) (drop x s)) ≡ pairs_at s x n
unfolding pairs_at u16_at
pairs-of-part s x zero l = refl
pairs-of-part s x (suc n) l =
    let e : 4 * suc n ≡ suc (suc (suc (suc (4 * n)))) = omega arith in
    let i : suc (suc (suc (suc x))) ≡ x + 4 = omega arith in
    let h : suc (suc (suc x)) ≡ x + 2 + 1 = omega arith in
    let f : suc (suc x) ≡ x + 2 = omega arith in
    let g : suc x ≡ x + 1 = omega arith in
    rw (e, drop-cons s x 0 (omega arith), drop-cons s (suc x) 0 (omega arith), drop-cons s (suc (suc x)) 0 (omega arith), drop-cons s (suc (suc (suc x))) 0 (omega arith), i, h, f, g)
    (ap (λ (r : List (ℕ × ℕ)). (get_or s x 0 + get_or s (x + 1) 0 * 256, get_or s (x + 2) 0 + get_or s (x + 2 + 1) 0 * 256) ∷ r) (pairs-of-part s (x + 4) n (omega arith)))

-- Each number of a list is one of two bytes.
pub numbers-small : (b : List ℕ) (x n : ℕ) → Bytes b → (j : ℕ) → get_or (numbers_at b x n) j 0 < 65536
unfolding numbers_at u16_at
numbers-small b x zero h j = omega arith
numbers-small b x (suc n) h zero = omega (arith, h x, h (x + 1))
numbers-small b x (suc n) h (suc j) = numbers-small b (x + 2) n h j

pub left-small : (bytes : List ℕ) → Bytes bytes → (j : ℕ) → get_or (numbers_of bytes) j 0 < 65536
left-small [] h j = omega arith
left-small (a ∷ []) h j = omega arith
left-small (a ∷ b ∷ bytes) h zero = omega (arith, h 0, h 1)
left-small (a ∷ b ∷ bytes) h (suc j) = left-small bytes (λ i. h (suc (suc i))) j

-- What the iterators give, for the lemmas of std on `all`, `any`, `position` and the like.
pub numbers-yield : {n : Numbers} (xs : List ℕ) → numbers_left n ≡ xs → YieldsList (YieldsFirst numbers_left) (λ v. v) n xs
numbers-yield xs e = YieldsList-from_first (λ v. v) numbers_left xs e

pub pairs-yield : {p : Pairs} (xs : List (ℕ × ℕ)) → pairs_left p ≡ xs → YieldsList (YieldsFirst pairs_left) (λ v. v) p xs
pairs-yield xs e = YieldsList-from_first (λ v. v) pairs_left xs e
