-- A verdict meets the limits: 22 by the answer, 23 by the store; the row is coded, and an accepted answer is interned.
use Rattle.std.specs.Prelude.{ℕ, ◌+◌, ◌*◌, Bool, true, cond, ◌&&◌, List, length, get_or, leb, ltb}
use Rattle.std.proofs.Math.Option.{Option, none, some}
use Rattle.record.specs.Sort.{Sort, Sorts, var, par, node, end, ◌then◌, count, size}
use Rattle.record.specs.Record.{leaf}
use Rattle.record.specs.Store.{intern, index_of, room}
use Rattle.sheet.specs.Sheet.{Lengths}
use Rattle.row_rules.specs.declared.Cause.{Cause}
use Rattle.row_rules.specs.declared.Cause.TheVariants.{Limit, Full}
use Rattle.row_rules.specs.Verdict.{Verdict, sort, refused, need, number_of}

-- Every width is at most 65,535 and every list at most 64 long, at every depth.
unfoldable mutual
  unfolding count

  pub shallow : Sort → Bool
  shallow (var v) = true
  shallow (par ns b) = leb (length ns) 64 && shallow b
  shallow (node k a w ss) = leb w 65535 && (leb (count ss) 64 && shallow_all ss)

  pub shallow_all : Sorts → Bool
  shallow_all end = true
  shallow_all (s then ss) = shallow s && shallow_all ss

-- An answer within the limits of its width, its lists and its tree, 4,096.
unfoldable pub within : Sort → Bool
unfolding shallow size
within s = shallow s && leb (size s) 4096

-- THE LIMITS OF THE ANSWER: "answer's width, list or tree over its limit", 22. A refusal passes none.
abbrev pub in_limits : Verdict → Bool
in_limits (refused c) = true
in_limits (sort s) = within s

-- ROOM FOR THE ANSWER in the lent lengths: "store can't hold the answer's sorts", 23. A refusal needs none.
abbrev pub has_room : Lengths → List Sort → Verdict → Bool
has_room l st (refused c) = true
has_room l st (sort s) = room l.records l.places (intern s st)

-- The store after a row or an answer, and its code.
pub record CodedStore : Type 0 where
  pub store : List Sort
  pub code : ℕ

-- "left as it was: store", whatever the cause.
abbrev pub refusal : List Sort → Cause → CodedStore
refusal st c = record { store = st; code = number_of c * 65536 }

-- THE NUMBER OF THE ANSWER: "An answer adds only the sorts inside it", and its code is its number in the store after that.
abbrev pub numbered : List Sort → Verdict → CodedStore
numbered st (refused c) = refusal st c
numbered st (sort s) = record { store = intern s st; code = index_of s (intern s st) }

-- THE OUTCOME OF A VERDICT over a store: 22 by the answer, then 23 by the store, then its number.
unfoldable pub outcome : Lengths → List Sort → Verdict → CodedStore
unfolding within room intern index_of
outcome l st v = numbered st (need (in_limits v) Limit (need (has_room l st v) Full v))

-- The sort of the term i in a column of the rows, 0 the inferred, 1 the checked one; none where that row is refused.
unfoldable pub row_sort : List Sort → List ℕ → ℕ → ℕ → Option Sort
row_sort st rows column i =
    cond (ltb (get_or rows (2 * i + column) 0) 65536) (some (get_or st (get_or rows (2 * i + column) 0) leaf)) none
