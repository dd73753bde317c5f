-- A table of zeros says nothing, so it says the truth.
use Rattle.apply_walk.specs.KnownLaws.{weighed-none}
use Rattle.apply.proofs.whole.answer_size.Goals as goal

pub applied_size-requires-2 : goal.applied_size-requires-2
applied_size-requires-2 c =
    let r = c.args.replacing.now in
    record { known = c.requires; weighed = weighed-none r.entries.records.now r.entries.places.now r.count r.images.now 4096 }
