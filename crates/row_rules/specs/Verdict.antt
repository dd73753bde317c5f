-- A verdict on one term or question: a sort, or the cause of its refusal, with document 01's numbers.
use Rattle.std.specs.Prelude.{ℕ, ◌*◌, Bool, true, false, Result, Ok, Err}
use Rattle.std.proofs.Math.Option.{Option, none, some}
use Rattle.record.specs.Sort.{Sort}
use Rattle.row_rules.specs.declared.Cause.{Cause}
use Rattle.row_rules.specs.declared.Cause.TheVariants.{Below, Panics, Limit, Full, NoRank, Count, Misfit, Unassigned, Barred, NoAssignment}

-- Document 01, "Causes and numbers".
abbrev pub number_of : Cause → ℕ
number_of Below = 20
number_of Panics = 21
number_of Limit = 22
number_of Full = 23
number_of NoRank = 24
number_of Count = 25
number_of Misfit = 26
number_of Unassigned = 27
number_of Barred = 28
number_of NoAssignment = 29

-- "refusal × 65,536 + store number, 0 in a refused row".
abbrev pub code_of : Result ℕ Cause → ℕ
code_of (Ok k) = k
code_of (Err c) = number_of c * 65536

-- A verdict on trees, free of any store.
pub data Verdict : Type 0 where
  sort : Sort → Verdict
  refused : Cause → Verdict

-- The verdict that follows where a test holds, and the cause where it does not: chains of it spell 01's order of causes.
abbrev pub need : Bool → Cause → Verdict → Verdict
need true c v = v
need false c v = refused c

-- A sort that was found, or the cause why there is none.
abbrev pub or_cause : Option Sort → Cause → Verdict
or_cause none c = refused c
or_cause (some s) c = sort s
