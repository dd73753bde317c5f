-- What the columns of relations are, and what putting them together promises.
use Rattle.std.specs.Prelude.{ℕ, ◌+◌, ◌*◌, ◌-◌, ◌≤◌, ◌<◌, ◌≡◌, List, length, Option, Some, None}
use Rattle.std.proofs.Math.Option.{none, some}
use Rattle.record.specs.Number.{u16_at}
use Rattle.record.specs.Sort.{Sort, Sorts}
use Rattle.record.specs.Decode.{sort_at, Stored}
use Rattle.record.specs.declared.span.Span.{Span}
use Rattle.row_rules.specs.declared.Cause.TheVariants.{Panics}
use Rattle.row_rules.specs.Verdict.{Verdict, refused}
use Rattle.store.specs.Good.{Good}
use Rattle.store.specs.declared.Store.{Store}
use Rattle.infer_rules.specs.Inferred.{columns, over_both}
use Rattle.row_answer.specs.Arguments.{Filled}
use Rattle.infer_operator.specs.Asks.{Referring, sorts_in}

-- m numbers of the store of n sorts stand in its own bytes from x on, at most 64.
pub record ColumnsStand (b : List ℕ) (n x m : ℕ) : Type 0 where
  pub within : x + 2 * m ≤ length b
  pub below : (j : ℕ) → j < m → u16_at b (x + 2 * j) < n
  pub few : m ≤ 64

abbrev pub ColumnsIs : List ℕ → List ℕ → ℕ → Sort → Option Span → Type 0
ColumnsIs b p n s (Some c) = (columns s ≡ some (sorts_in b p n b c.at c.count)) × ColumnsStand b n c.at c.count
ColumnsIs b p n s None = columns s ≡ none

abbrev pub ColumnsHas : List ℕ → List ℕ → ℕ → Option Span → Type 0
ColumnsHas b p k r = (n : ℕ) → Stored b p n → k < n → ColumnsIs b p n (sort_at b p n k) r

-- Their sorts.
abbrev pub columns_in : Store → Span → Sorts
columns_in s c = sorts_in s.records.now s.places.now s.count s.records.now c.at c.count

-- The columns of the first two sorts of ss, for whatever is made of both.
pub record Having (b p : List ℕ) (n : ℕ) (ss : Sorts) (x m y q : ℕ) : Type 0 where
  pub is : (f : Sorts → Sorts → Verdict) → over_both f ss ≡ f (sorts_in b p n b x m) (sorts_in b p n b y q)
  pub left : ColumnsStand b n x m
  pub right : ColumnsStand b n y q

abbrev pub BothIs : List ℕ → List ℕ → ℕ → Sorts → Option (Span × Span) → Type 0
BothIs b p n ss (Some (c, d)) = Having b p n ss c.at c.count d.at d.count
BothIs b p n ss None = (f : Sorts → Sorts → Verdict) → over_both f ss ≡ refused Panics

abbrev pub BothHas : List ℕ → List ℕ → List ℕ → ℕ → Option (Span × Span) → Type 0
BothHas b p a m r = (n : ℕ) → Referring b p n a 3 m → BothIs b p n (sorts_in b p n a 3 m) r

-- m numbers from x on of b have room in a, from its number i on.
pub record PutColumnsAsk (b : List ℕ) (x m : ℕ) (a : List ℕ) (i : ℕ) : Type 0 where
  pub within : x + 2 * m ≤ length b
  pub room : 3 + 2 * (i + m) ≤ length a
  pub low : i ≤ 64
  pub few : m ≤ 64

-- a has been filled on by them.
abbrev pub PutHas : List ℕ → ℕ → ℕ → List ℕ → ℕ → List ℕ → Type 0
PutHas b x m a i c = (f : ℕ → ℕ) → Filled a f i → ((j : ℕ) → j < m → u16_at b (x + 2 * j) ≡ f (i + j)) → Filled c f (i + m)

abbrev pub back_at : List ℕ → ℕ → ℕ → ℕ → ℕ
back_at b x m j = u16_at b (x + 2 * (m - 1 - j))

abbrev pub BackwardsIs : List ℕ → ℕ → ℕ → List ℕ → Type 0
BackwardsIs b x m c = Filled c (back_at b x m) m

-- A good store, and two lists of its numbers in its own bytes; a is long enough for both.
pub record SideAsks (b p ix : List ℕ) (n u : ℕ) (a : List ℕ) (x m y q : ℕ) : Type 0 where
  pub good : Good b p ix n u
  pub room : 259 ≤ length a
  pub left : ColumnsStand b n x m
  pub right : ColumnsStand b n y q
