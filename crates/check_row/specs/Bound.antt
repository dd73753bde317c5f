-- What the functions on Binders ask and promise. The pairs stand on the sheet s from x on; the table names the sheet's sorts in
-- the store.
use Rattle.std.specs.Prelude.{ℕ, ◌+◌, ◌*◌, ◌≤◌, ◌<◌, List, length}
use Rattle.record.specs.Number.{u16_at}
use Rattle.record.specs.Sort.{Sorts}
use Rattle.record.specs.Record.{sorts_of}
use Rattle.record.specs.Decode.{store_of}
use Rattle.record.specs.declared.span.Span.{Span}
use Rattle.sheet.specs.declared.ReadSheet.{ReadSheet}
use Rattle.store.specs.Good.{Good}
use Rattle.store.specs.Usable.{Usable}
use Rattle.row_answer.specs.Arguments.{binding_at, bound_numbers}

-- The sorts of the pairs.
abbrev pub bound_sorts : List ℕ → List ℕ → ℕ → ReadSheet → Span → Sorts
bound_sorts b p n z pairs = sorts_of (store_of b p n) (bound_numbers z.table.now z.bytes.now pairs.at pairs.count)

-- m pairs, whose sorts are all of the store.
pub record BindingsAsk (b p : List ℕ) (n : ℕ) (s tbl : List ℕ) (x m : ℕ) : Type 0 where
  pub usable : Usable b p n
  pub within : x + 4 * m ≤ length s
  pub each : (j : ℕ) → j < m → u16_at s (x + 4 * j + 2) < length tbl
  pub below : (j : ℕ) → j < m → binding_at s x tbl j < n

-- At most 64 pairs and a body, over a good store; a is long enough for a list of 65.
pub record BodyAsks (b p ix : List ℕ) (n u : ℕ) (s tbl : List ℕ) (x m : ℕ) (a : List ℕ) (body : ℕ) : Type 0 where
  pub good : Good b p ix n u
  pub bound : BindingsAsk b p n s tbl x m
  pub few : m ≤ 64
  pub room : 133 ≤ length a
  pub known : body < n

-- The same with the number of the body in a from byte 3 on, the first of k arguments.
pub record BinderAsks (b p ix : List ℕ) (n u : ℕ) (s tbl : List ℕ) (x m : ℕ) (a : List ℕ) (k : ℕ) : Type 0 where
  pub good : Good b p ix n u
  pub bound : BindingsAsk b p n s tbl x m
  pub few : m ≤ 64
  pub room : 133 ≤ length a
  pub some : 0 < k
  pub known : u16_at a 3 < n
