-- What the entry point promises: its outcome, and the four lent buffers at exit over their whole length, are those of `judged`.
use Rattle.std.specs.Prelude.{ℕ, ◌≤◌, ◌<◌, ◌≡◌, refl, List, length, get_or, replicate, Result, Ok, Err, ⊤}
use Rattle.std.proofs.Common.{ap, ◌∙◌}
use Rattle.record.specs.Sort.{Sort, size}
use Rattle.record.specs.Record.{leaf}
use Rattle.record.specs.Decode.{size_at, store_of, sort_at, Stored}
use Rattle.reader.specs.Reader.{refusal_number}
use Rattle.reader.specs.declared.Refusal.{Refusal}
use Rattle.sheet.specs.Sheet.{Lengths}
use Rattle.sheet.specs.Contract.{SheetAccepted}
use Rattle.sheet.specs.declared.SheetCounts.{SheetCounts}
use Rattle.judge_rules.specs.Judged.{Judgement, sheet_refused, accepted, judged, outcome_number, records_after, places_after, rows_after, answers_after}

-- The lengths of the four lent buffers.
abbrev pub lengths_of : List ℕ → List ℕ → List ℕ → List ℕ → Lengths
lengths_of b p rw an = record { records = length b; places = length p; rows = length rw; answers = length an }

-- A sheet is accepted, or refused for a reason.
abbrev pub Outcome : Type 0
Outcome = Result ⊤ Refusal

abbrev pub Accepted : Outcome
Accepted = Ok tt

abbrev pub Refused : Refusal → Outcome
Refused e = Err e

-- The outcome of a judgement.
abbrev pub outcome_of : Judgement → Outcome
outcome_of (sheet_refused e) = Refused e
outcome_of (accepted h st rows answers) = Accepted

-- The number of an outcome: 0 where the sheet is accepted, else that of the refusal.
abbrev pub number_of_outcome : Outcome → ℕ
number_of_outcome (Ok u) = 0
number_of_outcome (Err e) = refusal_number e

-- THE STORE IS READ BACK: the records at the places are well formed, they are the sorts st, no tree passes 4,096, and each record
-- carries the tree size of its sort.
pub record Reads (b p : List ℕ) (st : List Sort) : Type 0 where
  pub stored : Stored b p (length st)
  pub back : store_of b p (length st) ≡ st
  pub small : (k : ℕ) → k < length st → size (sort_at b p (length st) k) ≤ 4096
  pub sizes : (k : ℕ) → k < length st → size_at b (get_or p k 0) ≡ size (get_or st k leaf)

abbrev pub ReadsBack : Judgement → List ℕ → List ℕ → Type 0
ReadsBack (sheet_refused e) b p = Unit {0}
ReadsBack (accepted h st rows answers) b p = Reads b p st

-- THE FOUR BUFFERS b p rw an are, over their whole length, those of the judgement of s; and the store can be read from them.
pub record BuffersAre (s : List ℕ) (l : Lengths) (b p rw an : List ℕ) : Type 0 where
  pub records : b ≡ records_after l (judged s l)
  pub places : p ≡ places_after l (judged s l)
  pub rows : rw ≡ rows_after l (judged s l)
  pub answers : an ≡ answers_after l (judged s l)
  pub reads : ReadsBack (judged s l) b p

-- THE PROMISE OF `judge` for the bytes s and the lent lengths l, with the buffers at exit: Accepted exactly for an accepted
-- sheet, Refused with the judgement's refusal for a refused one.
pub record JudgeIs (s : List ℕ) (l : Lengths) (b p rw an : List ℕ) (o : Outcome) : Type 0 where
  pub outcome : o ≡ outcome_of (judged s l)
  pub buffers : BuffersAre s l b p rw an

-- THE PROMISE OF `napsilo_judge`: 0 for an accepted sheet, else the number of its refusal.
pub record NumberIs (s : List ℕ) (l : Lengths) (b p rw an : List ℕ) (r : ℕ) : Type 0 where
  pub number : r ≡ outcome_number (judged s l)
  pub buffers : BuffersAre s l b p rw an

-- Rows and answers that are all zeros.
pub record ClearedAsks (rw an : List ℕ) : Type 0 where
  pub rows : rw ≡ replicate (length rw) 0
  pub answers : an ≡ replicate (length an) 0

-- A sheet that was read over the lent lengths, with its tables of the lengths that are read in, and rows and answers of zeros.
pub record AcceptedAsks (s b p ix tbl xs ys : List ℕ) (c : SheetCounts) (rw an : List ℕ) : Type 0 where
  pub accepted : SheetAccepted s (lengths_of b p rw an) b p ix tbl xs ys c
  pub table : length tbl ≡ 2048
  pub terms : length xs ≡ 4096
  pub questions : length ys ≡ 1024
  pub cleared : ClearedAsks rw an

-- The number of a judgement's outcome is the judgement's.
number_of : (j : Judgement) → number_of_outcome (outcome_of j) ≡ outcome_number j
number_of (sheet_refused e) = refl
number_of (accepted h st rows answers) = refl

-- So the outcome of `judge` tells the number that `napsilo_judge` returns.
pub judge-number : {s : List ℕ} {l : Lengths} {b p rw an : List ℕ} {o : Outcome} → JudgeIs s l b p rw an o → number_of_outcome o ≡ outcome_number (judged s l)
judge-number {s} {l} j = ap number_of_outcome j.outcome ∙ number_of (judged s l)
