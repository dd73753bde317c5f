-- What the functions over arguments ask: numbers of the store's sorts in a lent array, from byte 3 on.
use Rattle.std.specs.Prelude.{ℕ, ◌+◌, ◌*◌, ◌-◌, ◌≤◌, ◌<◌, ◌≡◌, List, length, All}
use Rattle.std.proofs.Common.{subst, arith}
use Rattle.record.specs.Number.{u16_at, numbers_at}
use Rattle.record.specs.Sort.{Sorts, ◌then◌}
use Rattle.record.specs.Record.{sorts_of}
use Rattle.record.specs.Decode.{store_of, sort_at, Stored}
use Rattle.record.specs.StoreLaws.{parts_more}
use Rattle.store.specs.Good.{Good}
use Rattle.store.specs.declared.Store.{Store}
use Rattle.row_answer.specs.declared.arguments.Args.{Args}

-- m numbers of the store of n sorts in b p stand in a from x on.
pub record Referring (b p : List ℕ) (n : ℕ) (a : List ℕ) (x m : ℕ) : Type 0 where
  pub stored : Stored b p n
  pub within : x + 2 * m ≤ length a
  pub below : (j : ℕ) → j < m → u16_at a (x + 2 * j) < n

-- Their sorts.
abbrev pub sorts_in : List ℕ → List ℕ → ℕ → List ℕ → ℕ → ℕ → Sorts
sorts_in b p n a x m = sorts_of (store_of b p n) (numbers_at a x m)

-- Of some store in these buffers; what is read holds for each that has them.
abbrev pub ReadArgumentsAsk : List ℕ → List ℕ → List ℕ → ℕ → ℕ → Type 0
ReadArgumentsAsk b p a x m = (n : ℕ) × Referring b p n a x m

-- Each of the numbers ks is one of the store of n sorts in b p; of some store, and their sorts.
pub record Known (b p : List ℕ) (n : ℕ) (ks : List ℕ) : Type 0 where
  pub stored : Stored b p n
  pub below : All (λ k. k < n) ks

abbrev pub KnownAsk : List ℕ → List ℕ → List ℕ → Type 0
KnownAsk b p ks = (n : ℕ) × Known b p n ks

abbrev pub sorts_with : List ℕ → List ℕ → ℕ → List ℕ → Sorts
sorts_with b p n ks = sorts_of (store_of b p n) ks

-- A good store, and m arguments of it in a from byte 3 on, at most 64; a is long enough for two lists of 64.
pub record ArgsAsks (b p ix : List ℕ) (n u : ℕ) (a : List ℕ) (m : ℕ) : Type 0 where
  pub good : Good b p ix n u
  pub few : m ≤ 64
  pub room : 259 ≤ length a
  pub below : (j : ℕ) → j < m → u16_at a (3 + 2 * j) < n

pub args-refer : (b p ix : List ℕ) (n u : ℕ) (a : List ℕ) (m : ℕ) → ArgsAsks b p ix n u a m → Referring b p n a 3 m
args-refer b p ix n u a m h = record { stored = h.good.stored; within = omega (arith, h.few, h.room); below = h.below }

---------------------------------------------------------------- whole stores and arguments
-- The arguments are numbers of the store, and their sorts.
abbrev pub ArgumentsAsk : Store → Args → Type 0
ArgumentsAsk s a = ArgsAsks s.records.now s.places.now s.index.now s.count s.used a.bytes.now a.count

abbrev pub arguments : Store → Args → Sorts
arguments s a = sorts_in s.records.now s.places.now s.count a.bytes.now 3 a.count

---------------------------------------------------------------- the first of some numbers
-- THE FIRST OF SOME NUMBERS, and the rest.
module _ (b p : List ℕ) (n : ℕ) (a : List ℕ) (x m : ℕ) (h : Referring b p n a x m) (some : 0 < m) where
  pub refer-first : u16_at a x < n
  refer-first = let e : x + 2 * 0 ≡ x = omega arith in subst (λ (y : ℕ). u16_at a y < n) e (h.below 0 some)

  pub refer-rest : Referring b p n a (x + 2) (m - 1)
  refer-rest =
      record {
        stored = h.stored;
        within = omega (arith, h.within);
        below = λ j l. let e : x + 2 * (j + 1) ≡ x + 2 + 2 * j = omega arith in subst (λ (y : ℕ). u16_at a y < n) e (h.below (j + 1) (omega arith));
      }

  pub sorts-first : sorts_in b p n a x m ≡ sort_at b p n (u16_at a x) then sorts_in b p n a (x + 2) (m - 1)
  unfolding sort_at
  sorts-first = parts_more (store_of b p n) a x m some
