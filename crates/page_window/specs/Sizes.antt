-- The table of text sizes while it is made: what reading it asks and gives.
use Rattle.std.specs.Prelude.{ℕ, ◌+◌, ◌*◌, ◌≤◌, ◌<◌, List, [], ◌∷◌, length, get_or}
use Rattle.record.specs.Number.{u16_at}
use Rattle.record.specs.Sort.{size}
use Rattle.printout_sort.specs.Text.{text}
use Rattle.printout_sort.specs.Trees.{tree_at, TextAsks, TextSizeIs}

-- The text sizes of the sorts with these numbers, by the table z, with a blank for each.
unfoldable pub parts_total : List ℕ → List ℕ → ℕ
parts_total z [] = 0
parts_total z (k ∷ ks) = 1 + get_or z k 0 + parts_total z ks

-- Numbers of the table, `count` of them from `at` on.
pub record PartsAsk (b z : List ℕ) (at count : ℕ) : Type 0 where
  pub within : at + 2 * count ≤ length b
  pub few : count ≤ 64
  pub known : (j : ℕ) → j < count → u16_at b (at + 2 * j) < length z

-- The text sizes of the first n sorts stand in the table z, each within its bound.
pub record Measured (b p : List ℕ) (n : ℕ) (z : List ℕ) : Type 0 where
  pub room : n ≤ length z
  pub each : (k : ℕ) → k < n → TextSizeIs (text (tree_at b p k)) (size (tree_at b p k)) (get_or z k 0)

-- A sort, with the text sizes of those before it.
pub record SortSizeAsks (b p : List ℕ) (k : ℕ) (z : List ℕ) : Type 0 where
  pub asks : TextAsks b p k
  pub table : Measured b p k z
