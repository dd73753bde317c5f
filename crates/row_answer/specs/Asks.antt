-- What the functions that make answers ask of their callers, and what they promise beside `AnswerIs`.
use Rattle.std.specs.Prelude.{ℕ, ◌+◌, ◌*◌, ◌≤◌, ◌<◌, ◌≡◌, List, length}
use Rattle.record.specs.Number.{u16_at}
use Rattle.record.specs.Sort.{set as set_of}
use Rattle.record.specs.Record.{map_of, least_of, most_of}
use Rattle.record.specs.Store.{intern}
use Rattle.record.specs.Decode.{Fresh, store_of, sort_at}
use Rattle.store.specs.Good.{Good}
use Rattle.row_rules.specs.Verdict.{sort}
use Rattle.row_answer.specs.Answer.{Answer, AnswerIs}

-- A good store and a whole record over it.
pub record MakeAsks (b p ix : List ℕ) (n u : ℕ) (r : List ℕ) : Type 0 where
  pub good : Good b p ix n u
  pub fresh : Fresh r n

-- A kind without fields: 3 Bool, 4 Int, 5 Real, 6 String, 7 RegLan, 10 ParamBitVec, 13 Type.
pub record LeafAsks (b p ix : List ℕ) (n u kind : ℕ) : Type 0 where
  pub good : Good b p ix n u
  pub map : map_of kind ≡ 1

pub record VariableAsks (b p ix : List ℕ) (n u name : ℕ) : Type 0 where
  pub good : Good b p ix n u
  pub small : name < 65536

-- A sort k of a good store.
pub record KnownAsks (b p ix : List ℕ) (n u k : ℕ) : Type 0 where
  pub good : Good b p ix n u
  pub known : k < n

-- m numbers of a good store stand in a from byte 3 on; a is long enough for a list of 64.
pub record StoredListAsks (b p ix : List ℕ) (n u : ℕ) (a : List ℕ) (m : ℕ) : Type 0 where
  pub good : Good b p ix n u
  pub room : 131 ≤ length a
  pub below : (j : ℕ) → j < m → u16_at a (3 + 2 * j) < n

-- And the kind is one of a list of 0 to 64 sorts alone: 0 Function, 15 Tuple.
pub record ListedAsks (b p ix : List ℕ) (n u kind : ℕ) (a : List ℕ) (m : ℕ) : Type 0 where
  pub list : StoredListAsks b p ix n u a m
  pub map : map_of kind ≡ 17
  pub least : least_of kind ≡ 0
  pub most : most_of kind ≡ 64

-- m numbers, at most 64, stand in the store's own bytes from x on; a is long enough for a list of 64.
pub record RemainingAsks (b p ix : List ℕ) (n u : ℕ) (a : List ℕ) (x m : ℕ) : Type 0 where
  pub good : Good b p ix n u
  pub room : 131 ≤ length a
  pub within : x + 2 * m ≤ length b
  pub below : (j : ℕ) → j < m → u16_at b (x + 2 * j) < n
  pub few : m ≤ 64

-- The store of m sorts in c q has a sort k, and was one of n sorts before.
pub record SetOverAsks (c q ix : List ℕ) (m v k n : ℕ) : Type 0 where
  pub good : Good c q ix m v
  pub known : k < m
  pub order : n ≤ m

-- The store in b p from which the one in c q came by making its sort k.
pub record MadeFrom (b p ix : List ℕ) (n u : ℕ) (c q : List ℕ) (m k : ℕ) : Type 0 where
  pub good : Good b p ix n u
  pub made : store_of c q m ≡ intern (sort_at c q m k) (store_of b p n)
  pub long : length c ≡ length b
  pub wide : length q ≡ length p

-- THE SET OF THE SORT k THAT WAS MADE LAST, an answer over the store before: whatever store that was.
abbrev pub OverIs : List ℕ → List ℕ → ℕ → ℕ → ℕ → ℕ → List ℕ → List ℕ → List ℕ → Answer → Type 0
OverIs c q m k n u b' p' ix' r =
    (b p ix : List ℕ) → MadeFrom b p ix n u c q m k → AnswerIs b p n (sort (set_of (sort_at c q m k))) b' p' ix' r
