-- What a call of read gave, and what is promised of the bytes that were read. Definitions only.
use Rattle.std.specs.Prelude.{ℕ, zero, suc, ◌≤◌, ◌<◌, min, List, [], length, take, Option, Some, None, Result, Ok, Err}
use Rattle.std.specs.Io.KnownBytes.{Consumes, IsAtEnd}

-- A count of bytes: none is the end of the input.
abbrev pub counted : ℕ → Option ℕ
counted zero = None
counted (suc n) = Some (suc n)

-- A READ THAT FAILED IS A FAILURE AND NEVER THE END OF THE INPUT.
abbrev pub told : {E : Type 0} → Result ℕ E → Result (Option ℕ) E
told (Ok n) = Ok (counted n)
told (Err e) = Err e

-- A READ COUNTS NO MORE BYTES THAN ITS BUFFER HAS, which holds `room`, whatever count it gave.
abbrev pub told_within : {E : Type 0} → Result ℕ E → ℕ → Result (Option ℕ) E
told_within (Ok n) room = told (Ok (min n room))
told_within (Err e) room = told (Err e)

-- Bytes that were read lie in a slice with so much room, and there is one at least.
abbrev pub ReadWithin : {E : Type 0} → ℕ → Result (Option ℕ) E → Type 0
ReadWithin room (Ok (Some n)) = (0 < n) × (n ≤ room)
ReadWithin room (Ok None) = Unit {0}
ReadWithin room (Err e) = Unit {0}

-- What reading into the slice b did to the bytes that the reader had left, where they are known: it took those that now stand at its start;
-- at the end of the input none was left.
abbrev pub ReadFrom : {E : Type 0} → Option (List ℕ) → Option (List ℕ) → List ℕ → Result (Option ℕ) E → Type 0
ReadFrom old new b (Ok (Some n)) = Consumes old new (take n b)
ReadFrom old new b (Ok None) = Consumes old new [] × IsAtEnd new
ReadFrom old new b (Err e) = Unit {0}

-- THE FIRST n BYTES OF THE BUFFER ARE THE NEXT ONES OF THE INPUT, where these are known, and where the buffer is not full, all of them.
pub record InputRead (old new : Option (List ℕ)) (b : List ℕ) (n : ℕ) : Type 0 where
  pub bytes : Consumes old new (take n b)
  pub whole : n < length b → IsAtEnd new
