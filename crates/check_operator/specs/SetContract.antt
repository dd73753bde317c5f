-- What the functions on sets and relations ask and promise.
use Rattle.std.specs.Prelude.{ℕ, ◌+◌, ◌*◌, ◌≤◌, ◌<◌, ◌≡◌, ◌||◌, Bool, true, false, List, length, eqb, Option, Some, None}
use Rattle.record.specs.Number.{numbers_at}
use Rattle.record.specs.Sort.{Sort, set}
use Rattle.record.specs.Record.{sorts_of}
use Rattle.record.specs.Decode.{store_of, sort_at, Stored, Distinct}
use Rattle.record.specs.declared.span.Span.{Span}
use Rattle.store.specs.declared.entries.Entries.{Entries}
use Rattle.infer_operator.specs.Relations.{ColumnsStand}
use Rattle.check_rules.specs.Forms.{touch}
use Rattle.row_answer.specs.declared.arguments.Args.{Args}
use Rattle.check_operator.specs.SetRule.{is_set}
use Rattle.check_operator.specs.Contract.{ArgsAsk}

-- A sort is the Set of the sort of this number, or no Set.
abbrev pub ElementIs : List ℕ → List ℕ → ℕ → Sort → Option ℕ → Type 0
ElementIs b p n s (Some j) = (j < n) × (s ≡ set (sort_at b p n j))
ElementIs b p n s None = is_set s ≡ false

abbrev pub ElementHas : List ℕ → List ℕ → ℕ → Option ℕ → Type 0
ElementHas b p k r = (n : ℕ) → Stored b p n → k < n → ElementIs b p n (sort_at b p n k) r

-- One argument or more, and a result that is none of its own, Bool or Int.
pub record AlikeAsks (e : Entries) (a : Args) (r : ℕ) : Type 0 where
  pub args : ArgsAsk e.records.now e.places.now a.bytes.now a.count
  pub some : 0 < a.count
  pub well : eqb r 0 || (eqb r 3 || eqb r 4) ≡ true

-- Two lists within the bytes.
pub record ListsAsk (b : List ℕ) (l r : Span) : Type 0 where
  pub left : l.at + 2 * l.count ≤ length b
  pub right : r.at + 2 * r.count ≤ length b

-- Whether the sorts of two lists of numbers touch.
abbrev pub TouchHas : List ℕ → Span → Span → Bool → Type 0
TouchHas b l r t =
    (p : List ℕ) (n : ℕ) → Stored b p n → Distinct b p n → ColumnsStand b n l.at l.count → ColumnsStand b n r.at r.count
    → t ≡ touch (sorts_of (store_of b p n) (numbers_at b l.at l.count)) (sorts_of (store_of b p n) (numbers_at b r.at r.count))
