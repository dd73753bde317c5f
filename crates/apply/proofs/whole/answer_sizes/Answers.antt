-- A table of zeros says nothing, so it says the truth.
use Rattle.apply_walk.specs.KnownLaws.{weighed-none}
use Rattle.apply.proofs.whole.answer_sizes.Goals as goal

pub applied_sizes-requires : goal.applied_sizes-requires
applied_sizes-requires c =
    let r = c.args.replacing.now in
    record { list = c.requires; weighed = weighed-none r.entries.records.now r.entries.places.now r.count r.images.now 4096 }
