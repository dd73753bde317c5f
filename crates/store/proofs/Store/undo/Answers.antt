-- The store as it was with `from` sorts, whole.
-- All from the place of its first record to go is zeros, and no slot holds a later one; a good state is fixed by its sorts and lengths.
use Rattle.std.proofs.Common.{arith, refl}
use Rattle.store.proofs.BufferLaws.{part-cleared}
use Rattle.store.proofs.UndoLaws.{undo-none, undo-room, undo-wide, undo-cut}
use Rattle.store.proofs.Store.undo.Goals as goal

pub returns-then-count-from-clause-undone : goal.returns-then-count-from-clause-undone
returns-then-count-from-clause-undone c = (undo-none c.requires c.if-count-from.true, omega (arith, c.requires.order, c.if-count-from.true))

pub invariant_of-self-2 : goal.invariant_of-self-2
invariant_of-self-2 c = let some = c.if-count-from.false in
    let is =
    undo-cut c.requires some
    (part-cleared (c.fill.ensures.after (λ y e. e)) refl (undo-room c.requires some))
    (part-cleared (c.fill-2.ensures.after (λ y e. e)) refl (undo-wide c.requires some))
    c.cut_slots.ensures in
    record { good = is.cut.good }

pub returns-clause-undone : goal.returns-clause-undone
returns-clause-undone c = let some = c.if-count-from.false in (
  undo-cut c.requires some
      (part-cleared (c.fill.ensures.after (λ y e. e)) refl (undo-room c.requires some))
      (part-cleared (c.fill-2.ensures.after (λ y e. e)) refl (undo-wide c.requires some))
      c.cut_slots.ensures,
  refl,
)
