-- Whether the rows of a list are refusals, by the test of each.
use Rattle.std.specs.Prelude.{◌≡◌, ℕ, zero, suc, ◌+◌, ◌*◌, ◌<◌, Bool, true, false, List, [], ◌∷◌, length, get_or, ltb}
use Rattle.std.specs.List.{list_all}
use Rattle.std.proofs.Common.{arith, not-suc-le-zero, ltb-true, ltb-false, sym, true≢false}
use Rattle.record.specs.Number.{numbers_at}
use Rattle.record.specs.Codec.{length-numbers_at}
use Rattle.record.specs.Cases.{and_left, and_right, by_test}
use Rattle.row_answer.specs.Arguments.{number-row, JudgedIs, judged-clear, judged-hit}

-- An entry of a list that is not one of those that all pass.
record Fails (p : ℕ → Bool) (is : List ℕ) : Type 0 where
  place : ℕ
  low : place < length is
  fails : p (get_or is place 0) ≡ false

all-pass : (p : ℕ → Bool) (is : List ℕ) → list_all p is ≡ true → (j : ℕ) → j < length is → p (get_or is j 0) ≡ true
all-pass p [] a j l = absurd (not-suc-le-zero l)
all-pass p (i ∷ is) a zero l = and_left (p i) (list_all p is) a
all-pass p (i ∷ is) a (suc j) l = all-pass p is (and_right (p i) (list_all p is) a) j (omega arith)

one-fails : (p : ℕ → Bool) (is : List ℕ) → list_all p is ≡ false → Fails p is
one-fails p [] a = absurd (true≢false a)
one-fails p (i ∷ is) a =
    by_test (p i)
    (λ t. let o = one-fails p is (rw t at a) in record { place = suc o.place; low = omega (arith, o.low); fails = o.fails })
    (λ f. record { place = 0; low = omega arith; fails = f })

module _ (sheet : List ℕ) (at n : ℕ) (rows : List ℕ) (column : ℕ) where
  abbrev low : ℕ → Bool
  low t = ltb (get_or rows (2 * t + column) 0) 65536

  judged-case : (r : Bool) → list_all low (numbers_at sheet at n) ≡ r → JudgedIs sheet at n rows column r
  judged-case true a =
      judged-clear sheet at n rows column
      (λ j l.
      let o = all-pass low (numbers_at sheet at n) a j (omega (arith, length-numbers_at sheet at n)) in
      omega (arith, number-row sheet at n rows column j l, ltb-true (get_or rows (2 * get_or (numbers_at sheet at n) j 0 + column) 0) 65536 o))
  judged-case false a =
      let o = one-fails low (numbers_at sheet at n) a in
      let l : o.place < n = omega (arith, o.low, length-numbers_at sheet at n) in
      judged-hit sheet at n rows column o.place l
      (omega (arith, number-row sheet at n rows column o.place l, ltb-false (get_or rows (2 * get_or (numbers_at sheet at n) o.place 0 + column) 0) 65536 o.fails))

  pub judged-by : (r : Bool) → r ≡ list_all low (numbers_at sheet at n) → JudgedIs sheet at n rows column r
  judged-by r e = judged-case r (sym e)
