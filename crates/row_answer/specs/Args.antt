-- The numbers of sorts in a lent array keep their array.
use Rattle.std.specs.Prelude.{◌≡◌, length}
use Rattle.row_answer.specs.declared.arguments.Args.{Args}

abbrev pub SameArgs : Args → Args → Type 0
SameArgs s t = (t.bytes.ghost_name ≡ s.bytes.ghost_name) × (length t.bytes.now ≡ length s.bytes.now)
