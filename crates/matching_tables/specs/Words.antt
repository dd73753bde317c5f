-- The words of the contracts over a store's sorts and the tables of names as they are passed.
use Rattle.std.specs.Prelude.{ℕ, ◌<◌}
use Rattle.record.specs.Sort.{Sort}
use Rattle.record.specs.Decode.{sort_at}
use Rattle.store.specs.declared.entries.Sorts.{Sorts}
use Rattle.matching_tables.specs.Usable.{OneAsks, PairAsks}

-- The sort with a number.
abbrev pub sort_in : Sorts → ℕ → Sort
sort_in s k = sort_at s.records.now s.places.now s.count k

-- A sort, two sorts.
abbrev pub OneIn : Sorts → ℕ → Type 0
OneIn s k = OneAsks s.records.now s.places.now s.count k

abbrev pub PairIn : Sorts → ℕ → ℕ → Type 0
PairIn s k j = PairAsks s.records.now s.places.now s.count k j

-- Sorts that are passed can be read, so a number below their count is all that is asked.
pub one-in : (s : Sorts) {k : ℕ} → k < s.count → OneIn s k
one-in s h = record { usable = s.usable; known = h }

pub pair-in : (s : Sorts) {k j : ℕ} → k < s.count → j < s.count → PairIn s k j
pair-in s h g = record { usable = s.usable; left = h; right = g }
