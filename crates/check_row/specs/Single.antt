-- What the functions on constants, Vars, Lets and AsOps ask and promise.
use Rattle.std.specs.Prelude.{ℕ, ◌+◌, ◌*◌, ◌≤◌, not, cond, List, length, Result, eqb}
use Rattle.record.specs.Sort.{Sort, int, real, string, reglan, bitvec}
use Rattle.store.specs.Good.{Good}
use Rattle.store.specs.declared.entries.Sorts.{Sorts}
use Rattle.matching_tables.specs.Usable.{OneAsks}
use Rattle.row_rules.specs.declared.Cause.{Cause}
use Rattle.row_rules.specs.declared.Cause.TheVariants.{Barred}
use Rattle.row_rules.specs.Verdict.{Verdict, sort, need}
use Rattle.check_rules.specs.Checked.{carried, letting}
use Rattle.row_answer.specs.declared.arguments.Args.{Args}
use Rattle.row_answer.specs.Answer.{AnswerIs}
use Rattle.check_operator.specs.Contract.{Over, args_of}

-- The row r changes nothing: it answers the verdict over each good store that has these sorts, whatever its index and its bytes
-- in use.
abbrev pub ReadIs : List ℕ → List ℕ → ℕ → Verdict → Result ℕ Cause → Type 0
ReadIs b p n v r = (ix : List ℕ) (u : ℕ) → Good b p ix n u → AnswerIs b p n v b p ix (record { verdict = r; count = n; used = u })

abbrev pub Reads : Sorts → Verdict → Result ℕ Cause → Type 0
Reads s v r = ReadIs s.records.now s.places.now s.count v r

-- The kinds 0 to 4 of `checked`.
abbrev pub constant_verdict : ℕ → ℕ → Verdict
constant_verdict k w =
    cond (eqb k 0) (sort int)
    (cond (eqb k 1) (sort real)
    (cond (eqb k 2) (sort string)
    (cond (eqb k 3) (sort reglan)
    (need (not (eqb w 0)) Barred (sort (bitvec w))))))

-- The kind 5.
abbrev pub variable_verdict : Sort → Verdict
variable_verdict s = need (carried s) Barred (sort s)

-- Whatever the count of the store's sorts is, the row r of a Let over these arguments changes nothing.
abbrev pub LetHas : List ℕ → List ℕ → List ℕ → ℕ → Result ℕ Cause → Type 0
LetHas b p a m r = (n : ℕ) → Over b p n a m → ReadIs b p n (letting (args_of b p n a m)) r

-- Arguments of the store of n sorts; and a sort k of it.
pub record OverAsks (b p : List ℕ) (n : ℕ) (a : List ℕ) (m : ℕ) : Type 0 where
  pub within : 3 + 2 * m ≤ length a
  pub over : Over b p n a m

pub record QualifiedAsks (s : Sorts) (k : ℕ) (a : Args) : Type 0 where
  pub args : OverAsks s.records.now s.places.now s.count a.bytes.now a.count
  pub own : OneAsks s.records.now s.places.now s.count k
