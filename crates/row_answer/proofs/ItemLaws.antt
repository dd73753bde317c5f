-- What a loop over the numbers of a list, or over its pairs, has in its turn, and after its last one.
use Rattle.std.specs.Prelude.{◌≡◌, ℕ, zero, suc, ◌+◌, ◌*◌, ◌<◌, Option, Some, None, List, length, get_or, refl}
use Rattle.std.specs.Iterator.{YieldsFirst, Yields}
use Rattle.std.proofs.Common.{arith, not-suc-le-zero, ap, ◌∙◌}
use Rattle.std.proofs.lemmas.List.{get_or_default}
use Rattle.std.proofs.lemmas.Iterator.Consumers.{YieldsList-from_first, YieldsList-turn, YieldsList-end}
use Rattle.record.specs.Number.{u16_at, numbers_at, pairs_at}
use Rattle.record.specs.Numbers.{numbers_left, pairs_left}
use Rattle.record.specs.Codec.{length-numbers_at, number_at}
use Rattle.record.specs.declared.numbers.Numbers.{Numbers}
use Rattle.record.specs.declared.numbers.Pairs.{Pairs}

-- The number in a place of the list.
pub number-place : (s : List ℕ) (x m k i : ℕ) → i < length (numbers_at s x m) → k ≡ get_or (numbers_at s x m) i k → (i < m) × (k ≡ u16_at s (x + 2 * i))
number-place s x m k i l e =
    let o : i < m = omega (arith, l, length-numbers_at s x m) in
    (o, e ∙ get_or_default (numbers_at s x m) i k 0 l ∙ number_at s x m i o)

-- THE NUMBERS of the list of m at x: xs came out of the iterator so far, and it is at t.
module _ (s : List ℕ) (x m : ℕ) (first : Numbers) (start : numbers_left first ≡ numbers_at s x m) (xs : List ℕ) (t : Numbers) (out : Yields (YieldsFirst numbers_left) first xs t) where
  pub number-turn : {r : Option ℕ} (u : Numbers) {k : ℕ} → r ≡ Some k → YieldsFirst numbers_left t r u → (length xs < m) × (k ≡ u16_at s (x + 2 * length xs))
  number-turn {r} u {k} e h =
      let o = YieldsList-turn (YieldsList-from_first (λ (n : ℕ). n) numbers_left (numbers_at s x m) start) xs t out r u k e h in
      number-place s x m k (length xs) o.0 o.1

  pub number-end : {r : Option ℕ} (u : Numbers) → r ≡ None → YieldsFirst numbers_left t r u → length xs ≡ m
  number-end {r} u e h =
      let o = YieldsList-end (YieldsList-from_first (λ (n : ℕ). n) numbers_left (numbers_at s x m) start) xs t out r u e h in
      o.1 ∙ length-numbers_at s x m

length-pairs : (s : List ℕ) (x m : ℕ) → length (pairs_at s x m) ≡ m
unfolding pairs_at
length-pairs s x zero = refl
length-pairs s x (suc m) = ap suc (length-pairs s (x + 4) m)

pair_at : (s : List ℕ) (x m j : ℕ) (d : ℕ × ℕ) → j < m → get_or (pairs_at s x m) j d ≡ (u16_at s (x + 4 * j), u16_at s (x + 4 * j + 2))
unfolding pairs_at
pair_at s x zero j d l = absurd (not-suc-le-zero l)
pair_at s x (suc m) zero d l = let e : x ≡ x + 4 * 0 = omega arith in ap (λ (y : ℕ). (u16_at s y, u16_at s (y + 2))) e
pair_at s x (suc m) (suc j) d l =
    let e : x + 4 + 4 * j ≡ x + 4 * suc j = omega arith in
    pair_at s (x + 4) m j d (omega arith) ∙ ap (λ (y : ℕ). (u16_at s y, u16_at s (y + 2))) e

-- THE PAIRS of the list of m at x.
module _ (s : List ℕ) (x m : ℕ) (first : Pairs) (start : pairs_left first ≡ pairs_at s x m) (xs : List (ℕ × ℕ)) (t : Pairs) (out : Yields (YieldsFirst pairs_left) first xs t) where
  pub pair-turn : {r : Option (ℕ × ℕ)} (u : Pairs) {k : ℕ × ℕ} → r ≡ Some k → YieldsFirst pairs_left t r u → (length xs < m) × (k.1 ≡ u16_at s (x + 4 * length xs + 2))
  pair-turn {r} u {k} e h =
      let o = YieldsList-turn (YieldsList-from_first (λ (n : ℕ × ℕ). n) pairs_left (pairs_at s x m) start) xs t out r u k e h in
      let l : length xs < m = omega (arith, o.0, length-pairs s x m) in
      (l, ap (λ (p : ℕ × ℕ). p.1) (o.1 ∙ pair_at s x m (length xs) k l))

  pub pair-end : {r : Option (ℕ × ℕ)} (u : Pairs) → r ≡ None → YieldsFirst pairs_left t r u → length xs ≡ m
  pair-end {r} u e h =
      let o = YieldsList-end (YieldsList-from_first (λ (n : ℕ × ℕ). n) pairs_left (pairs_at s x m) start) xs t out r u e h in
      o.1 ∙ length-pairs s x m
