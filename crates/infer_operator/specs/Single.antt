-- What looking at one argument promises.
use Rattle.std.specs.Prelude.{ℕ, zero, suc, ◌≡◌, refl, Bool, List, Result, ok_or, slice_get}
use Rattle.record.specs.Number.{numbers_at}
use Rattle.record.specs.Sort.{Sorts, end, ◌then◌}
use Rattle.row_rules.specs.declared.Cause.{Cause}
use Rattle.row_rules.specs.declared.Cause.TheVariants.{Panics}
use Rattle.row_rules.specs.Verdict.{Verdict, sort, refused}
use Rattle.infer_rules.specs.Inferred.{final_of, first_of, second_of, matched, some_real, selected}
use Rattle.store.specs.Good.{Good}
use Rattle.row_answer.specs.Answer.{AnswerIs}
use Rattle.row_answer.specs.Arguments.{ConstantsAsk}
use Rattle.row_answer.specs.declared.arguments.Args.{Args}
use Rattle.infer_operator.specs.Asks.{sorts_in, ArgsAsks, Known, sorts_with}

-- The sort number i, and the last one behind the first i.
unfoldable pub nth_of : ℕ → Sorts → Verdict
nth_of i end = refused Panics
nth_of zero (s then ss) = sort s
nth_of (suc i) (s then ss) = nth_of i ss

unfoldable pub last_from : ℕ → Sorts → Verdict
last_from zero ss = final_of ss
last_from (suc i) end = refused Panics
last_from (suc i) (s then ss) = last_from i ss

-- args[0], args[1]; Let's inner, and Match's last body.
pub nth-first : (ss : Sorts) → first_of ss ≡ nth_of 0 ss
unfolding nth_of
nth-first end = refl
nth-first (s then ss) = refl

pub nth-second : (ss : Sorts) → second_of ss ≡ nth_of 1 ss
unfolding nth_of
nth-second end = refl
nth-second (s then end) = refl
nth-second (s then (t then ss)) = refl

pub last-all : (ss : Sorts) → final_of ss ≡ last_from 0 ss
unfolding last_from
last-all ss = refl

pub last-body : (ss : Sorts) → matched ss ≡ last_from 1 ss
unfolding last_from
last-body end = refl
last-body (s then ss) = refl

-- The argument number i itself.
abbrev pub argument_of : Args → ℕ → Result ℕ Cause
argument_of a i = ok_or (slice_get (numbers_at a.bytes.now 3 a.count) i) Panics

-- Whatever good store the arguments are of.
abbrev pub ArgumentHas : List ℕ → ℕ → ℕ → Result ℕ Cause → Type 0
ArgumentHas a m i r =
    (b p ix : List ℕ) (n u : ℕ) → ArgsAsks b p ix n u a m → AnswerIs b p n (nth_of i (sorts_in b p n a 3 m)) b p ix (record { verdict = r; count = n; used = u })

abbrev pub LastHas : List ℕ → ℕ → ℕ → Result ℕ Cause → Type 0
LastHas a m i r =
    (b p ix : List ℕ) (n u : ℕ) → ArgsAsks b p ix n u a m → AnswerIs b p n (last_from i (sorts_in b p n a 3 m)) b p ix (record { verdict = r; count = n; used = u })

-- Whatever store the numbers ks are of.
abbrev pub RealHas : List ℕ → List ℕ → List ℕ → Bool → Type 0
RealHas b p ks r = (n : ℕ) → Known b p n ks → some_real (sorts_with b p n ks) ≡ r

abbrev pub ElementHas : List ℕ → List ℕ → List ℕ → ℕ → Result ℕ Cause → Type 0
ElementHas b p a m r =
    (ix : List ℕ) (n u : ℕ) → ArgsAsks b p ix n u a m → AnswerIs b p n (selected (sorts_in b p n a 3 m)) b p ix (record { verdict = r; count = n; used = u })

-- A good store, and terms of a sheet.
pub record WrittenAsks (b p ix : List ℕ) (n u : ℕ) (sheet starts : List ℕ) (x m : ℕ) : Type 0 where
  pub good : Good b p ix n u
  pub terms : ConstantsAsk sheet starts x m
