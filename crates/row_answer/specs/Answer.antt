-- What making a row or an answer in the store promises: the one contract of everything that does.
use Rattle.std.specs.Prelude.{ℕ, ◌<◌, ◌≡◌, List, length, Result, Ok, Err}
use Rattle.record.specs.Sort.{Sort}
use Rattle.record.specs.Decode.{store_of}
use Rattle.record.specs.SortLists.{Starts}
use Rattle.sheet.specs.Sheet.{Lengths}
use Rattle.store.specs.Good.{Good}
use Rattle.store.specs.declared.Store.{Store}
use Rattle.row_rules.specs.declared.Cause.{Cause}
use Rattle.row_rules.specs.Verdict.{Verdict, code_of}
use Rattle.row_rules.specs.Outcome.{outcome}

-- A row or an answer, and the store's count and bytes in use after it.
pub record Answer : Type 0 where
  pub verdict : Result ℕ Cause
  pub count : ℕ
  pub used : ℕ

-- An accepted answer is a number of the store after it; a refused one left the sorts as they were.
abbrev pub AnswerLeft : List Sort → List Sort → Result ℕ Cause → Type 0
AnswerLeft st st' (Ok k) = k < length st'
AnswerLeft st st' (Err c) = st' ≡ st

-- THE ANSWER r TO THE VERDICT v over the store of n sorts in b p: the good store in b' p' after it, and the row's code, are
-- those of `outcome`, whatever other lengths the caller lent.
pub record AnswerIs (b p : List ℕ) (n : ℕ) (v : Verdict) (b' p' ix' : List ℕ) (r : Answer) : Type 0 where
  pub good : Good b' p' ix' r.count r.used
  pub long : length b' ≡ length b
  pub wide : length p' ≡ length p
  pub is : (l : Lengths) → l.records ≡ length b → l.places ≡ length p → outcome l (store_of b p n) v ≡ record { store = store_of b' p' r.count; code = code_of r.verdict }
  pub starts : Starts (store_of b p n) (store_of b' p' r.count)
  pub left : AnswerLeft (store_of b p n) (store_of b' p' r.count) r.verdict

-- The answers by their values.
abbrev pub accepting : ℕ → ℕ → ℕ → Answer
accepting k n u = record { verdict = Ok k; count = n; used = u }

abbrev pub refusing : Cause → ℕ → ℕ → Answer
refusing c n u = record { verdict = Err c; count = n; used = u }

-- THE ROW r ANSWERS THE VERDICT v over the store s, and t is the store after it.
abbrev pub answer : Store → Result ℕ Cause → Answer
answer t r = record { verdict = r; count = t.count; used = t.used }

abbrev pub Answered : Store → Verdict → Store → Result ℕ Cause → Type 0
Answered s v t r = AnswerIs s.records.now s.places.now s.count v t.records.now t.places.now t.index.now (answer t r)
