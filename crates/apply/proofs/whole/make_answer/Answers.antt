-- A table of zeros says nothing, so it says the truth; what it says afterwards is dropped.
use Rattle.apply_walk.specs.KnownLaws.{known-none}
use Rattle.apply.proofs.whole.make_answer.Goals as goal

pub apply_deep-requires : goal.apply_deep-requires
apply_deep-requires c =
    let s = c.args.store.now in
    record { asks = c.requires; known = known-none s.records.now s.places.now s.count c.args.images.now 4096 }
