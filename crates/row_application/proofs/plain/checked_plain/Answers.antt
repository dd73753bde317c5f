-- Where the arguments are the sorts in their places: what remains of the list, as it stands.
-- Else the refusal; nothing has changed.
use Prim.Native.Nat.{ℕ}
use mathlib.Core.Path.{refl}
use lib.ListN.{replicate, length-replicate}
use Rattle.row_application.proofs.ExactLaws.{remaining-asks, plain-made, plain-refused}
use Rattle.row_application.proofs.plain.checked_plain.Goals as goal

pub returns-then-not-all_exact-clause-answer : goal.returns-then-not-all_exact-clause-answer
returns-then-not-all_exact-clause-answer c =
    let s = c.sorts.ensures in
    plain-refused c.requires.0 c.all_exact.result (rw (s.records, s.places, s.count) at c.all_exact.ensures) c.if-not-all_exact.true refl

pub remaining-requires : goal.remaining-requires
remaining-requires c = rw (c.skip.ensures.at, c.skip.ensures.count) (remaining-asks c.requires.0 (replicate 131 0) (length-replicate {A = ℕ} 131 0))

pub returns-clause-answer : goal.returns-clause-answer
returns-clause-answer c =
    let s = c.sorts.ensures in
    plain-made c.requires.0 c.all_exact.result (rw (s.records, s.places, s.count) at c.all_exact.ensures) c.if-not-all_exact.false
    (rw (c.skip.ensures.at, c.skip.ensures.count) at c.remaining.ensures.answer)
