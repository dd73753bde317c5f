-- An application's arguments in another order: the declared sorts with the arguments as pairs, and the verdict with these matched in a
-- given order. Definitions only; that they agree with `called` of Checked is proved in OrderTheorems.
use Rattle.std.specs.Prelude.{ℕ, Bool, List, ltb}
use Rattle.record.specs.Sort.{Sorts, count}
use Rattle.substitution.specs.Substitution.{empty, apply}
use Rattle.substitution.specs.Orders.{Pair, pairs_of, matches_pairs}
use Rattle.row_rules.specs.declared.Cause.TheVariants.{Count, Misfit}
use Rattle.row_rules.specs.Verdict.{Verdict, need}
use Rattle.row_rules.specs.Lists.{firsts, others, remaining}
use Rattle.check_rules.specs.Checked.{values, settled, delivered}

-- "One parametric application's arguments": each with the declared sort in its place.
abbrev pub argument_pairs : Sorts → Sorts → List Pair
argument_pairs ss ts = pairs_of (firsts ss ts) ts

-- "Matched in every order": the verdict on a head of the list ss whose arguments are matched in the order xs.
unfoldable pub called_in : (ℕ → Bool) → Sorts → Sorts → List Pair → Verdict
unfolding count values others matches_pairs settled apply
called_in listed ss ts xs =
    need (ltb (count ts) (count ss)) Count
    (need (values ts) Misfit
    (delivered listed (remaining (others ss ts)) (matches_pairs listed xs empty)))
