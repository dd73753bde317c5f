-- Operators whose numbers follow one another: what a test says of each of them, run by computation, holds of every number between.
use Rattle.std.specs.Prelude.{ℕ, zero, suc, ◌+◌, ◌≤◌, ◌<◌, ◌≡◌, Bool, true, ◌&&◌, eqb}
use Rattle.std.proofs.Common.{arith, eqb-true}
use Rattle.std.proofs.lemmas.Bool.{eqb-false}
use Rattle.record.specs.Cases.{and_left, and_right, by_test}

-- The test holds of the k numbers from n on.
unfoldable pub run : (ℕ → Bool) → ℕ → ℕ → Bool
run f n zero = true
run f n (suc k) = f n && run f (suc n) k

pub run-at : (f : ℕ → Bool) (lo k n : ℕ) → run f lo k ≡ true → lo ≤ n → n < lo + k → f n ≡ true
unfolding run
run-at f lo zero n e a b = absurd (omega arith)
run-at f lo (suc k) n e a b =
    by_test (eqb lo n)
    (λ q. let z = eqb-true lo n q in rw (← z) (and_left (f lo) (run f (suc lo) k) e))
    (λ q. let z = eqb-false lo n q in run-at f (suc lo) k n (and_right (f lo) (run f (suc lo) k) e) (omega (arith, z)) (omega arith))
