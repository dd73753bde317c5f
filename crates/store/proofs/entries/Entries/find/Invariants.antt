-- A number of the equal record; or none is equal, and the slot is where its walk ends.
-- Each step goes down to a later entry, and a record that is equal is on the walk from there.
use Rattle.std.specs.Prelude.{ℕ, get_or}
use Rattle.store.specs.Contract.{Searched}
use Rattle.store.proofs.FindLaws.{FindInv, left}
use Rattle.store.proofs.entries.Entries.find.Given as goal

abbrev pub invariant-loop-k : goal.invariant-loop-k
invariant-loop-k l =
    (n : ℕ) → Searched l.self.records.now l.self.places.now l.index n l.rec
    → FindInv l.self.records.now l.self.places.now n l.rec l.slot l.rest l.deep (get_or l.index l.slot 0)

abbrev pub decreases-loop-k : goal.decreases-loop-k
decreases-loop-k l = left (get_or l.index l.slot 0)
