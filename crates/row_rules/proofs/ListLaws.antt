-- Lists of sorts that are put together and taken apart.
use Rattle.std.specs.Prelude.{◌≡◌, refl}
use Rattle.std.proofs.Common.{ap}
use Rattle.record.specs.Sort.{Sort, Sorts, end, ◌then◌}
use Rattle.row_rules.specs.Lists.{joined, all_but_last}

-- The last entry of a list that was put behind it, taken away again.
pub last-dropped : (xs : Sorts) (x : Sort) → all_but_last (joined xs x) ≡ xs
unfolding all_but_last joined
last-dropped end x = refl
last-dropped (a then end) x = refl
last-dropped (a then (b then xs)) x = ap (a then◌) (last-dropped (b then xs) x)
