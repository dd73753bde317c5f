-- Writing into a lent buffer of text: whether a text has room, and what writing it does.
use Rattle.std.specs.Prelude.{ℕ, ◌+◌, ◌≤◌, ◌≡◌, List, length}
use Rattle.printout_sort.specs.Wrote.{Wrote}
use Rattle.printout_sort.specs.declared.buffer.TextBuffer.{TextBuffer}

-- A text of these bytes fits behind what is written.
abbrev pub HasRoom : TextBuffer → List ℕ → Type 0
HasRoom s t = s.end + length t ≤ length s.bytes.now

-- It was written there, and nothing else.
abbrev pub Puts : TextBuffer → List ℕ → TextBuffer → Type 0
Puts s t r = Wrote s.bytes.now s.end t r.bytes.now r.end

-- The buffer is the same one.
abbrev pub Same : TextBuffer → TextBuffer → Type 0
Same s r = r.bytes.ghost_name ≡ s.bytes.ghost_name
