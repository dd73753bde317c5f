-- The sort that a checked row gives.
use Rattle.std.specs.Prelude.{ℕ, ◌+◌, ◌*◌, ◌<◌, ◌≡◌, List, get_or}
use Rattle.record.specs.Sort.{Sort}
use Rattle.record.specs.Record.{leaf}

-- The checked row of a term, and the sort that it gives: "A route gives a sort when the term's checked row is no refusal"; its code is
-- then the number of s.
abbrev pub checked_row : List ℕ → ℕ → ℕ
checked_row rows t = get_or rows (2 * t + 1) 0

abbrev pub Gives : List Sort → List ℕ → ℕ → Sort → Type 0
Gives st rows t s = (checked_row rows t < 65536) × (get_or st (checked_row rows t) leaf ≡ s)
