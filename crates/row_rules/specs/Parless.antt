-- NO PAR: verdicts, records and stores in which none stands. proofs/ParlessLaws.antt says what keeps it so.
use Rattle.std.specs.Prelude.{◌≡◌, Bool, true, ◌&&◌, List, [], ◌∷◌}
use Rattle.record.specs.Sort.{Sort}
use Rattle.substitution.specs.Premises.{parless, parless_all}
use Rattle.row_rules.specs.Verdict.{Verdict, sort, refused}
use Rattle.row_rules.specs.Lists.{binding_sorts}
use Rattle.row_rules.specs.Term.{Site}

-- A verdict's sort has no Par in it; a refusal has no sort.
abbrev pub ParlessVerdict : Verdict → Type 0
ParlessVerdict (sort s) = parless s ≡ true
ParlessVerdict (refused c) = Unit {0}

-- No sort that a record names has one.
pub record ParlessSite (z : Site) : Type 0 where
  pub own : parless z.own ≡ true
  pub args : parless_all z.args ≡ true
  pub bindings : parless_all (binding_sorts z.bindings) ≡ true

-- No sort of a store has one.
unfoldable pub parless_each : List Sort → Bool
unfolding parless
parless_each [] = true
parless_each (s ∷ st) = parless s && parless_each st
