-- A window of a text: what a lent buffer holds of it from some byte on; what finding it asks and gives.
use Rattle.std.specs.Prelude.{ℕ, ◌+◌, ◌-◌, ◌≤◌, ◌<◌, ◌≡◌, List, [], ◌++◌, length, get_or, take, drop}
use Rattle.record.specs.Sort.{size}
use Rattle.record.specs.Decode.{Stored}
use Rattle.printout_sort.specs.Text.{text}
use Rattle.printout_sort.specs.Trees.{tree_at, TextAsks}
use Rattle.page_window.specs.declared.Window.{Window}

-- THE TEXT SIZES of the first n sorts of a store stand in the table z.
pub record SizesAre (b p : List ℕ) (n : ℕ) (z : List ℕ) : Type 0 where
  pub room : n ≤ length z
  pub each : (k : ℕ) → k < n → get_or z k 0 ≡ length (text (tree_at b p k))

-- A store of n sorts within document 01's limit, and a table with room for their text sizes.
pub record SizesAsk (b p : List ℕ) (n : ℕ) (z : List ℕ) : Type 0 where
  pub stored : Stored b p n
  pub small : (k : ℕ) → k < n → size (tree_at b p k) ≤ 4096
  pub room : n ≤ length z

-- How many bytes more than are wanted a window's buffer has: two of the longest pieces of a sort's own, each with a blank.
abbrev pub window_slack : ℕ
window_slack = 912

-- A sort whose text size is in the table, a stack for any sort, and room for the bytes wanted.
pub record WindowAsks (b p z : List ℕ) (k want : ℕ) (stack o : List ℕ) : Type 0 where
  pub many : ℕ
  pub table : SizesAre b p many z
  pub known : k < many
  pub asks : TextAsks b p k
  pub short : length b ≤ 65536
  pub deep : 4096 ≤ length stack
  pub fits : want + window_slack ≤ length o

-- A WINDOW of the text t from the byte `skip` on: it stands in the buffer from `lead` up to `end`. What is left of the text behind it is
-- `more`, which is nothing where the window has fewer bytes than are wanted.
pub record WindowIs (t : List ℕ) (skip want : ℕ) (o' : List ℕ) (w : Window) : Type 0 where
  pub more : List ℕ
  pub is : drop skip t ≡ drop w.lead (take w.end o') ++ more
  pub within : w.end ≤ length o'
  pub enough : w.end - w.lead < want → more ≡ []
