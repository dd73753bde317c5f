-- Frames of the stack of a walk over a sort: what is still to print of a sort whose word was written, in one number.
use Rattle.std.specs.Prelude.{ℕ, suc, ◌+◌, ◌*◌, ◌/◌, ◌%◌, ◌≤◌, ◌<◌, ◌≡◌, List, ◌++◌, length}
use Rattle.record.specs.Number.{u16_at, numbers_at}
use Rattle.record.specs.Sort.{Sorts, size, sizes}
use Rattle.printout_sort.specs.Text.{text, texts}
use Rattle.printout_sort.specs.Pieces.{close_text}
use Rattle.printout_sort.specs.Trees.{tree_at, trees_at, TextAsks, TextsAsk}
use Rattle.printout_sort.specs.Wrote.{Wrote}
use Rattle.page_window.specs.Window.{SizesAre}

-- A FRAME: the numbers of the parts to print stand from a place on, there are `left` of them, and a form's bracket closes the sort.
unfoldable pub frame_of : ℕ → ℕ → ℕ → ℕ
frame_of place left form = place * 4096 + left * 32 + form

unfoldable pub place_of : ℕ → ℕ
place_of v = v / 4096

unfoldable pub left_of : ℕ → ℕ
left_of v = v / 32 % 128

unfoldable pub form_in : ℕ → ℕ
form_in v = v % 32

-- How much a frame grows when its first part is done: two places on, one part less.
abbrev pub next_part : ℕ
next_part = 8160

-- How many bytes the longest piece of a sort's own has, with a blank before it: a Par of 64 names.
abbrev pub piece_room : ℕ
piece_room = 456

-- The parts to print.
abbrev pub parts_in : List ℕ → List ℕ → ℕ → Sorts
parts_in b p v = trees_at b p (numbers_at b (place_of v) (left_of v))

-- A frame whose parts are well formed, with the sizes of their texts and of those below them in the table z.
pub record FrameAsks (b p z : List ℕ) (v : ℕ) : Type 0 where
  pub asks : TextsAsk b p (place_of v) (left_of v)
  pub known : (j : ℕ) → j < left_of v → SizesAre b p (suc (u16_at b (place_of v + 2 * j))) z
  pub form : form_in v < 17

-- A sort to open, and room for what stands before its parts; the blank of a piece stands there already.
pub record OpenAsks (b p : List ℕ) (k : ℕ) (o : List ℕ) (to : ℕ) : Type 0 where
  pub asks : TextAsks b p k
  pub short : length b ≤ 65536
  pub room : to + 455 ≤ length o

-- The frame of a sort that was opened, and the place behind what was written.
pub record Opened : Type 0 where
  pub frame : ℕ
  pub end : ℕ

-- THE SORT k WAS OPENED: `head` was written at `to`, and the frame has what is left of its text.
pub record OpenIs (b p : List ℕ) (k : ℕ) (o : List ℕ) (to : ℕ) (o' : List ℕ) (r : Opened) : Type 0 where
  pub head : List ℕ
  pub wrote : Wrote o to head o' r.end
  pub most : length head ≤ 455
  pub is : text (tree_at b p k) ≡ head ++ (texts (parts_in b p r.frame) ++ close_text (form_in r.frame))
  pub weighs : size (tree_at b p k) ≡ 1 + sizes (parts_in b p r.frame)
  pub list : TextsAsk b p (place_of r.frame) (left_of r.frame)
  pub below : (j : ℕ) → j < left_of r.frame → u16_at b (place_of r.frame + 2 * j) < k
  pub form : form_in r.frame < 17
