-- Lists of numbers taken apart at an App: the sorts that the arguments are matched with, what remains behind them, and the
-- arguments behind the head.
use Prim.Native.Nat.{ℕ, zero, suc, ◌+◌, ◌*◌, ◌-◌, ◌≤◌, ◌<◌}
use mathlib.Core.Path.{◌≡◌, refl, ap, ap₂, subst, ◌∙◌}
use mathlib.Core.List.{List}
use native.Mathlib.Omega.{arith}
use lib.ListN.{length, get_or}
use Rattle.record.specs.Number.{u16_at, numbers_at}
use Rattle.record.specs.Codec.{length-numbers_at}
use Rattle.record.specs.Sort.{Sort, ◌then◌, count, size, sizes}
use Rattle.record.specs.Record.{leaf, sorts_of}
use Rattle.record.specs.Sizes.{count-sorts}
use Rattle.matching_tables.specs.Usable.{Refs}
use Rattle.row_rules.specs.Lists.{firsts, others}

pub count_at : (st : List Sort) (b : List ℕ) (x m : ℕ) → count (sorts_of st (numbers_at b x m)) ≡ m
count_at st b x m = count-sorts st (numbers_at b x m) ∙ length-numbers_at b x m

pub firsts_at : (st : List Sort) (b : List ℕ) (x m : ℕ) (a : List ℕ) (y k : ℕ) → k ≤ m
    → firsts (sorts_of st (numbers_at b x m)) (sorts_of st (numbers_at a y k)) ≡ sorts_of st (numbers_at b x k)
unfolding firsts sorts_of numbers_at
firsts_at st b x m a y zero h = refl
firsts_at st b x zero a y (suc k) h = absurd (omega arith)
firsts_at st b x (suc m) a y (suc k) h = ap (get_or st (u16_at b x) leaf then◌) (firsts_at st b (x + 2) m a (y + 2) k (omega arith))

pub others-at : (st : List Sort) (b : List ℕ) (x m : ℕ) (a : List ℕ) (y k : ℕ) → k ≤ m
    → others (sorts_of st (numbers_at b x m)) (sorts_of st (numbers_at a y k)) ≡ sorts_of st (numbers_at b (x + 2 * k) (m - k))
unfolding others sorts_of numbers_at
others-at st b x m a y zero h =
    let e : x ≡ x + 2 * 0 = omega arith in
    let f : m ≡ m - 0 = omega arith in
    ap₂ (λ (i j : ℕ). sorts_of st (numbers_at b i j)) e f
others-at st b x zero a y (suc k) h = absurd (omega arith)
others-at st b x (suc m) a y (suc k) h =
    let e : x + 2 + 2 * k ≡ x + 2 * suc k = omega arith in
    let f : m - k ≡ suc m - suc k = omega arith in
    others-at st b (x + 2) m a (y + 2) k (omega arith) ∙ ap₂ (λ (i j : ℕ). sorts_of st (numbers_at b i j)) e f

pub sizes-first : (st : List Sort) (b : List ℕ) (x m k : ℕ) → k ≤ m → sizes (sorts_of st (numbers_at b x k)) ≤ sizes (sorts_of st (numbers_at b x m))
unfolding size sorts_of numbers_at
sizes-first st b x m zero h = omega arith
sizes-first st b x zero (suc k) h = absurd (omega arith)
sizes-first st b x (suc m) (suc k) h = omega (arith, sizes-first st b (x + 2) m k (omega arith))

-- The numbers of either part, and those behind the head.
module _ {b : List ℕ} {x m n : ℕ} (k : ℕ) (r : Refs b x m n) (h : k ≤ m) where
  pub refs-part : Refs b x k n
  refs-part = record { within = omega (arith, r.within); below = λ j l. r.below j (omega arith) }

  pub refs-behind : Refs b (x + 2 * k) (m - k) n
  refs-behind =
      record {
        within = omega (arith, r.within);
        below = λ j l. let e : x + 2 * (k + j) ≡ x + 2 * k + 2 * j = omega arith in subst (λ (i : ℕ). u16_at b i < n) e (r.below (k + j) (omega arith));
      }

pub refs-args : (a : List ℕ) (n m : ℕ) → m ≤ 64 → 259 ≤ length a → ((j : ℕ) → j < m → u16_at a (3 + 2 * j) < n) → Refs a 5 (m - 1) n
refs-args a n m few room below =
    record {
      within = omega arith;
      below = λ j l. let e : 3 + 2 * suc j ≡ 5 + 2 * j = omega arith in subst (λ (i : ℕ). u16_at a i < n) e (below (suc j) (omega arith));
    }
