-- A table of zeros says nothing, so it says the truth; what it says afterwards is dropped.
use Rattle.apply_walk.specs.KnownLaws.{known-none}
use Rattle.apply.proofs.whole.make_answers.Goals as goal

pub apply_list-requires : goal.apply_list-requires
apply_list-requires c =
    let s = c.args.store.now in
    record { asks = c.requires; known = known-none s.records.now s.places.now s.count c.args.images.now 4096 }
