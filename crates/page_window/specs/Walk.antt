-- The walk over a sort: what is still to print, by the stack, and what each step asks and gives.
use Rattle.std.specs.Prelude.{ℕ, zero, suc, ◌+◌, ◌*◌, ◌-◌, ◌≤◌, ◌<◌, ◌≡◌, Bool, true, false, ◌⊎◌, List, [], ◌++◌, length, get_or, take, drop, set}
use Rattle.record.specs.Sort.{size, sizes}
use Rattle.printout_sort.specs.Text.{ascii, text, texts}
use Rattle.printout_sort.specs.Pieces.{close_text}
use Rattle.printout_sort.specs.Trees.{tree_at, TextAsks}
use Rattle.printout_sort.specs.Wrote.{Wrote}
use Rattle.page_window.specs.Window.{SizesAre}
use Rattle.page_window.specs.Frames.{form_in, piece_room, parts_in, FrameAsks, Opened, OpenIs}
use Rattle.page_window.specs.declared.walk.Walk.{Walk}

-- WHAT IS STILL TO PRINT by the first d frames of a stack: the top frame's parts and its bracket, then what the frames below it say.
unfoldable pub rest : List ℕ → List ℕ → List ℕ → ℕ → List ℕ
rest b p st zero = []
rest b p st (suc d) = texts (parts_in b p (get_or st d 0)) ++ (close_text (form_in (get_or st d 0)) ++ rest b p st d)

-- How many nodes they stand for: one each, and those of their parts.
unfoldable pub weight : List ℕ → List ℕ → List ℕ → ℕ → ℕ
weight b p st zero = 0
weight b p st (suc d) = 1 + sizes (parts_in b p (get_or st d 0)) + weight b p st d

-- The first d frames are well formed.
abbrev pub Valid : List ℕ → List ℕ → List ℕ → List ℕ → ℕ → Type 0
Valid b p z st d = (i : ℕ) → i < d → FrameAsks b p z (get_or st i 0)

-- What is left of a text by a walk: the bytes written and those still to print, without those that are not wanted.
abbrev pub left_by : List ℕ → List ℕ → List ℕ → List ℕ → Walk → List ℕ
left_by b p st o w = drop w.lead (take w.end o ++ rest b p st w.depth)

-- Nothing is written, or something of it is wanted; then few bytes before it are not.
abbrev pub Near : Walk → Type 0
Near w = (w.end ≡ 0) ⊎ ((w.lead < w.end) × (w.lead ≤ piece_room))

-- A walk at a depth, by what `lead` and `end` were.
abbrev pub Settled : ℕ → ℕ → ℕ → Walk → Type 0
Settled d lead end r =
    (r.depth ≡ d) × (((end ≤ lead) × (r.lead ≡ lead - end) × (r.end ≡ 0)) ⊎ ((lead < end) × (r.lead ≡ lead) × (r.end ≡ end)))

-- Whether a walk goes on.
abbrev pub Going : Walk → ℕ → Bool → Type 0
Going w want true = (0 < w.depth) × ((w.end ≤ w.lead) ⊎ (w.end < w.lead + want))
Going w want false = (w.depth ≡ 0) ⊎ ((w.lead < w.end) × (want ≤ w.end - w.lead))

-- A sort to enter, with room on the stack and in the buffer.
pub record EnterAsks (b p : List ℕ) (k : ℕ) (st o : List ℕ) (w : Walk) : Type 0 where
  pub asks : TextAsks b p k
  pub short : length b ≤ 65536
  pub deep : w.depth < length st
  pub room : w.end + piece_room ≤ length o
  pub near : Near w

-- THE SORT k WAS ENTERED, over frames that have `rest` to print: its frame v is on the stack.
pub record EnterIs (b p : List ℕ) (k : ℕ) (st o : List ℕ) (w : Walk) (st' o' : List ℕ) (r : Walk) : Type 0 where
  pub frame : ℕ
  pub stack : st' ≡ set st w.depth frame
  pub depth : r.depth ≡ suc w.depth
  pub valid : (z : List ℕ) → SizesAre b p (suc k) z → FrameAsks b p z frame
  pub weighs : weight b p st' r.depth ≡ size (tree_at b p k) + weight b p st w.depth
  pub same : drop w.lead (take w.end o ++ (ascii " " ++ (text (tree_at b p k) ++ rest b p st w.depth))) ≡ left_by b p st' o' r
  pub fits : r.end ≤ length o'
  pub near : Near r

-- A walk with something to print, and room for a piece.
pub record StepAsks (b p z st o : List ℕ) (w : Walk) : Type 0 where
  pub short : length b ≤ 65536
  pub deep : 4096 ≤ length st
  pub some : 0 < w.depth
  pub valid : Valid b p z st w.depth
  pub light : weight b p st w.depth ≤ 4096
  pub room : w.end + piece_room ≤ length o
  pub near : Near w

-- A STEP: what is left of the text is the same, and less of the walk is left.
pub record StepIs (b p z st o : List ℕ) (w : Walk) (st' o' : List ℕ) (r : Walk) : Type 0 where
  pub valid : Valid b p z st' r.depth
  pub light : weight b p st' r.depth ≤ weight b p st w.depth
  pub less : 2 * weight b p st' r.depth + w.depth < 2 * weight b p st w.depth + r.depth
  pub same : left_by b p st o w ≡ left_by b p st' o' r
  pub fits : r.end ≤ length o'
  pub near : Near r

-- THE WALK THROUGH THE SORT k BEFORE ANY STEP: the sort was opened at the start of the buffer, its frame is the only one on the stack.
pub record StartIs (b p : List ℕ) (k skip : ℕ) (st o st' o' : List ℕ) (r : Walk) : Type 0 where
  pub opened : Opened
  pub is : OpenIs b p k o 0 o' opened
  pub stack : st' ≡ set st 0 opened.frame
  pub settled : Settled 1 skip opened.end r

-- THE BRACKET of the form f was written, and the top frame is done.
pub record CloseIs (f : ℕ) (w : Walk) (o o' : List ℕ) (r : Walk) : Type 0 where
  pub end : ℕ
  pub wrote : Wrote o w.end (close_text f) o' end
  pub settled : Settled (w.depth - 1) w.lead end r
