-- What is promised of a sheet that was read, and of what is printed of it. Definitions only.
use Rattle.std.specs.Prelude.{ℕ, ◌≡◌, ◌≤◌, ◌<◌, List, length, take, Option, Some, None, Result, Ok, Err, IfSome}
use Rattle.judge_rules.specs.Judged.{judged}
use Rattle.printout.specs.Printed.{program_lengths}
use Rattle.written.specs.declared.Written.{Written}
use Rattle.written.specs.Written.{Layout, text_in, TextAdded, WrittenIn}

-- The first n bytes of the buffer b are the bytes that the input had left, where these are known; or they are more than any sheet has.
abbrev pub SheetRead : {E : Type 0} → Option (List ℕ) → List ℕ → Result (Option ℕ) E → Type 0
SheetRead left b (Ok (Some n)) = (n ≤ length b) × IfSome left (λ s. take n b ≡ s)
SheetRead left b (Ok None) = IfSome left (λ s. 65536 < length s)
SheetRead left b (Err e) = Unit {0}

-- WHAT IS PRINTED OF THE BYTES s: all lines of their printout, or of their pages, are written, and where no write failed, the output holds
-- their bytes behind what it held.
pub record PrintedOf (t : Layout) (s : List ℕ) (before after : Option (List ℕ)) (w : Written) : Type 0 where
  pub lines : WrittenIn t (judged s program_lengths) w
  pub bytes : TextAdded before after (text_in t (judged s program_lengths)) w
