-- 22 by the capped size, with nothing touched; where there was no room, undoing gives back the store that it was grown from.
use Rattle.std.proofs.Common.{refl}
use Rattle.apply_walk.specs.Contract.{answer_at, SizeIs}
use Rattle.apply.proofs.ApplyLaws.{apply-over, apply-small, apply-asks}
use Rattle.apply.proofs.UndoLaws.{undo-asks, undo-back, without-room}
use Rattle.apply.proofs.apply.Goals as goal
use Rattle.apply.proofs.apply.Goals.{After-answer_size}

-- The size of the answer, over the store and the images that were given.
sized : (c : After-answer_size) → SizeIs c.args.store.now.records.now c.args.store.now.places.now c.args.store.now.count c.args.k c.args.images.now c.answer_size.result
sized c = let o = c.of.ensures in rw (o.records, o.places, o.count, o.images) at c.answer_size.ensures

pub returns-then-answer_size-gt-LARGEST_TREE-clause-applied : goal.returns-then-answer_size-gt-LARGEST_TREE-clause-applied
returns-then-answer_size-gt-LARGEST_TREE-clause-applied c =
    (apply-over c.requires c.answer_size.result (sized (goal.at.returns-then-answer_size-gt-LARGEST_TREE-clause-applied c).After-answer_size) c.if-answer_size-gt-LARGEST_TREE.true, (refl, refl, refl), refl, refl)

pub make_answer-requires : goal.make_answer-requires
make_answer-requires c =
    apply-asks c.requires c.answer_size.result (sized (goal.at.make_answer-requires c).After-answer_size) c.if-answer_size-gt-LARGEST_TREE.false

pub undo-requires : goal.undo-requires
undo-requires c = undo-asks c.requires.ready.good c.in-Err.ensures.made

pub returns-in-Ok-clause-applied : goal.returns-in-Ok-clause-applied
returns-in-Ok-clause-applied c =
    record { small = apply-small c.requires c.answer_size.result (sized (goal.at.returns-in-Ok-clause-applied c).After-answer_size) c.if-answer_size-gt-LARGEST_TREE.false; made = c.in-Ok.ensures.made }

pub returns-in-Err-clause-applied : goal.returns-in-Err-clause-applied
returns-in-Err-clause-applied c =
    let s = c.args.store.now in
    let w = c.in-Err.ensures.made in
    without-room (answer_at s.records.now s.places.now s.count c.args.images.now c.args.k) c.into.result c.into.ensures (apply-small c.requires c.answer_size.result (sized (goal.at.returns-in-Err-clause-applied c).After-answer_size) c.if-answer_size-gt-LARGEST_TREE.false) w.full (undo-back c.requires.ready.good w c.undo.ensures.undone)
