-- The kinds of a sheet's questions, which the printout of their answers needs: what finding them asks and gives.
use Rattle.std.specs.Prelude.{ℕ, ◌+◌, ◌≤◌, ◌<◌, ◌≡◌, List, length, get_or, take}
use Rattle.sheet.specs.Sheet.{Sheet, read_sheet}
use Rattle.sheet.specs.Sheet.Reading.{got}
use Rattle.sheet.specs.Contract.{QuestionStands}
use Rattle.printout.specs.declared.kinds.Totals.{Totals}
use Rattle.printout.specs.Printed.{kinds_of, program_lengths}

-- c question records of a sheet of m sorts stand at the places ys, and there is room for their kinds.
pub record PutKindsAsk (s ys : List ℕ) (c : ℕ) (kinds : List ℕ) : Type 0 where
  pub sorts : ℕ
  pub stands : (i : ℕ) → i < c → QuestionStands s sorts (get_or ys i 0)
  pub asked : c ≤ length ys
  pub room : c ≤ length kinds
  pub few : c ≤ 1024
  pub short : length s ≤ 65536

-- The kind of a record is its second byte.
pub record KindsPut (s ys : List ℕ) (c : ℕ) (kinds kinds' : List ℕ) : Type 0 where
  pub long : length kinds' ≡ length kinds
  pub each : (i : ℕ) → i < c → get_or kinds' i 0 ≡ get_or s (get_or ys i 0 + 1) 0

-- THE KINDS OF AN ACCEPTED SHEET'S QUESTIONS, in order, and how many terms and questions it has.
pub record Listed (h : Sheet) (kinds' : List ℕ) (r : Totals) : Type 0 where
  pub terms : r.terms ≡ length h.terms
  pub questions : r.questions ≡ length h.questions
  pub kinds : take r.questions kinds' ≡ kinds_of h.questions

pub record KindsAre (s kinds kinds' : List ℕ) (r : Totals) : Type 0 where
  pub long : length kinds' ≡ length kinds
  pub accepted : (h : Sheet) (x : ℕ) → read_sheet s program_lengths ≡ got h x → Listed h kinds' r
