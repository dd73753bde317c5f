-- 22 by the capped sizes of the list, with nothing touched.
-- Where there was no room, undoing gives back the store that it was grown from.
use Rattle.std.proofs.Common.{refl}
use Rattle.apply_walk.specs.Contract.{SizesAre}
use Rattle.apply.specs.Contract.{function_at}
use Rattle.apply.proofs.UndoLaws.{undo-asks, undo-back, without-room}
use Rattle.apply.proofs.FunctionLaws.{function-over, function-fits}
use Rattle.apply.proofs.function.apply_function.Goals as goal
use Rattle.apply.proofs.function.apply_function.Goals.{After-answer_sizes}

-- The sizes of the answers together, over the store and the images that were given.
sized : (c : After-answer_sizes)
    → SizesAre c.args.store.now.records.now c.args.store.now.places.now c.args.store.now.count c.args.span.at c.args.span.count c.args.images.now c.answer_sizes.result
sized c = let o = c.of.ensures in rw (o.records, o.places, o.count, o.images) at c.answer_sizes.ensures

pub returns-then-answer_sizes-gt-LARGEST_PARTS-clause-applied : goal.returns-then-answer_sizes-gt-LARGEST_PARTS-clause-applied
returns-then-answer_sizes-gt-LARGEST_PARTS-clause-applied c =
    (function-over c.requires c.answer_sizes.result (sized (goal.at.returns-then-answer_sizes-gt-LARGEST_PARTS-clause-applied c).After-answer_sizes) c.if-answer_sizes-gt-LARGEST_PARTS.true, (refl, refl, refl), refl, refl)

pub make_function-requires : goal.make_function-requires
make_function-requires c =
    function-fits c.requires c.answer_sizes.result (sized (goal.at.make_function-requires c).After-answer_sizes) c.if-answer_sizes-gt-LARGEST_PARTS.false

pub undo-requires : goal.undo-requires
undo-requires c = undo-asks c.requires.ready.good c.in-Err.ensures.made

pub returns-in-Ok-clause-applied : goal.returns-in-Ok-clause-applied
returns-in-Ok-clause-applied c =
    record { small = (function-fits c.requires c.answer_sizes.result (sized (goal.at.returns-in-Ok-clause-applied c).After-answer_sizes) c.if-answer_sizes-gt-LARGEST_PARTS.false).small; made = c.in-Ok.ensures.made }

pub returns-in-Err-clause-applied : goal.returns-in-Err-clause-applied
returns-in-Err-clause-applied c =
    let s = c.args.store.now in
    let w = c.in-Err.ensures.made in
    without-room (function_at s.records.now s.places.now s.count c.args.images.now c.args.span.at c.args.span.count) c.into.result c.into.ensures (function-fits c.requires c.answer_sizes.result (sized (goal.at.returns-in-Err-clause-applied c).After-answer_sizes) c.if-answer_sizes-gt-LARGEST_PARTS.false).small w.full (undo-back c.requires.ready.good w c.undo.ensures.undone)
