-- What a read into a buffer did, and what two did, one after the other.
use Rattle.std.specs.Prelude.{ℕ, zero, suc, ◌+◌, ◌≤◌, min, ◌≡◌, refl, List, ◌++◌, length, take, Option, Result, Ok, Err}
use Rattle.std.proofs.Common.{ap₂, arith, sym, subst, ◌∙◌, drop_at, length-take-le}
use Rattle.std.proofs.Math.Seq.{take-add}
use Rattle.std.proofs.lemmas.List.{take-append-le}
use Rattle.std.proofs.lemmas.Slice.{take-put_mid_below}
use Rattle.std.specs.Io.KnownBytes.{Consumes}
use Rattle.std.proofs.KnownBytes.{Consumes-trans}
use borrow.Rule.Slice.PartMut.{put_mid, post_of}
use Rattle.program_input.specs.Input.{counted, told_within, ReadWithin}

-- What is told of a read lies in its buffer, whatever count the read gave.
pub told_lies_within : {E : Type 0} (r : Result ℕ E) (room : ℕ) → ReadWithin room (told_within r room)
told_lies_within {E} (Ok n) room = go (min n room) (omega arith)
  where
    go : (m : ℕ) → m ≤ room → ReadWithin {E = E} room (Ok (counted m))
    go zero h = tt
    go (suc m) h = (omega arith, h)
told_lies_within (Err e) room = tt

-- A further read, into the part y of the buffer behind its first n bytes.
pub read-more : (a b c : Option (List ℕ)) (o y : List ℕ) (n k m : ℕ) → n ≤ length o → m ≤ length y → Consumes a b (take n o) → Consumes b c (take m y)
    → Consumes a c (take (n + m) (put_mid n k o y))
read-more a b c o y n k m h l p q =
    let whole = put_mid n k o y in
    let e : take (n + m) whole ≡ take n o ++ take m y =
    take-add n m whole
    ∙ ap₂ (λ (s t : List ℕ). s ++ take m t) (take-put_mid_below n k o y n (omega arith) h) (drop_at (take n o) (y ++ post_of n k o) n (length-take-le n o h))
    ∙ ap₂ (λ (s t : List ℕ). s ++ t) refl (take-append-le m y (post_of n k o) l) in
    subst (Consumes a c) (sym e) (Consumes-trans a b c _ _ p q)
