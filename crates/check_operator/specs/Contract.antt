-- What the functions on an operator's arguments ask and promise. The arguments are store numbers in a lent array from byte 3 on.
use Rattle.std.specs.Prelude.{ℕ, ◌+◌, ◌*◌, ◌≤◌, ◌<◌, ◌≡◌, ◌⊎◌, Bool, true, List, length, get_or, eqb, Option, Some, None}
use Rattle.record.specs.Kinds.{sort_number}
use Rattle.record.specs.Number.{u16_at, numbers_at}
use Rattle.record.specs.Sort.{Sort, Sorts, bitvec, kind_of}
use Rattle.record.specs.Record.{map_of, leaf, sorts_of}
use Rattle.record.specs.Decode.{store_of, sort_at, Stored, Distinct}
use Rattle.store.specs.declared.Store.{Store}
use Rattle.infer_rules.specs.Inferred.{operated_by}
use Rattle.infer_operator.specs.Asks.{ArgumentsAsk}
use Rattle.infer_operator.specs.Operators.{no_constants, makes}
use Rattle.store.specs.declared.entries.Entries.{Entries}
use Rattle.matching_tables.specs.Usable.{Refs}
use Rattle.row_rules.specs.declared.Cause.TheVariants.{Misfit}
use Rattle.row_rules.specs.Verdict.{Verdict, sort, refused, need}
use Rattle.check_rules.specs.Forms.{all_same}
use Rattle.check_rules.specs.Checked.{value, values, only_of}
use Rattle.row_answer.specs.declared.arguments.Args.{Args}
use Rattle.check_operator.specs.declared.op.Fit.{Fit}
use Rattle.check_operator.specs.declared.op.Fit.TheVariants.{Known, Plain, Width, Gathered}
use Rattle.check_operator.specs.Rule.{Rule, Select, Store as AtIndex, plain_sort, counts_for, fitted, well_rule}

-- The store number of the argument j.
abbrev pub arg_at : List ℕ → ℕ → ℕ
arg_at a j = u16_at a (3 + 2 * j)

-- The m arguments are numbers of a store of n sorts.
pub record Over (b p : List ℕ) (n : ℕ) (a : List ℕ) (m : ℕ) : Type 0 where
  pub stored : Stored b p n
  pub distinct : Distinct b p n
  pub below : (j : ℕ) → j < m → arg_at a j < n

pub record ArgsAsk (b p a : List ℕ) (m : ℕ) : Type 0 where
  pub within : 3 + 2 * m ≤ length a
  pub many : ℕ
  pub over : Over b p many a m

-- The sorts of the arguments.
abbrev pub args_of : List ℕ → List ℕ → ℕ → List ℕ → ℕ → Sorts
args_of b p n a m = sorts_of (store_of b p n) (numbers_at a 3 m)

-- Whatever the count of the store's sorts is: the sort v is of the kind k.
abbrev pub KindIs : List ℕ → List ℕ → ℕ → ℕ → Bool → Type 0
KindIs b p v k r = (n : ℕ) → Stored b p n → v < n → r ≡ eqb (kind_of (sort_at b p n v)) k

-- Every argument is the sort of a kind without parts.
abbrev pub KindsHave : List ℕ → List ℕ → List ℕ → ℕ → ℕ → Bool → Type 0
KindsHave b p a m k r = (n : ℕ) → Over b p n a m → map_of k ≡ 1 → r ≡ all_same (plain_sort k) (args_of b p n a m)

-- Every argument is the first one.
abbrev pub SameHas : List ℕ → List ℕ → List ℕ → ℕ → Bool → Type 0
SameHas b p a m r = (n : ℕ) → Over b p n a m → r ≡ all_same (only_of (args_of b p n a m)) (args_of b p n a m)

-- Whether the first argument is no Par; true where there is none.
abbrev pub FirstHas : List ℕ → List ℕ → List ℕ → ℕ → Bool → Type 0
FirstHas b p a m r = (n : ℕ) → Over b p n a m → r ≡ value (only_of (args_of b p n a m))

-- They are references to its sorts.
pub args-refs : (b p a : List ℕ) (n m : ℕ) → 3 + 2 * m ≤ length a → Over b p n a m → Refs a 3 m n
args-refs b p a n m h o = record { within = h; below = o.below }

---------------------------------------------------------------- fits
-- The verdict of a fit over a store and the sorts of the arguments, and of a rule that may not fit.
abbrev pub fit_verdict : List Sort → Sorts → Fit → Verdict
fit_verdict st ts (Known k) = sort (get_or st k leaf)
fit_verdict st ts (Plain k) = sort (plain_sort (sort_number k))
fit_verdict st ts (Width w) = sort (bitvec w)
fit_verdict st ts (Gathered f) = operated_by f ts no_constants

abbrev pub fits_verdict : List Sort → Sorts → Option Fit → Verdict
fits_verdict st ts None = refused Misfit
fits_verdict st ts (Some f) = fit_verdict st ts f

-- Its number is one of the store, its kind one without parts, its family one that makes sets, tuples or relations.
abbrev pub FitOk : ℕ → Fit → Type 0
FitOk n (Known k) = k < n
FitOk n (Plain k) = map_of (sort_number k) ≡ 1
FitOk n (Width w) = Unit {0}
FitOk n (Gathered f) = makes f ≡ true

abbrev pub FitsOk : ℕ → Option Fit → Type 0
FitsOk n None = Unit {0}
FitsOk n (Some f) = FitOk n f

pub record FitIs (n : ℕ) (st : List Sort) (ts : Sorts) (v : Verdict) (r : Option Fit) : Type 0 where
  pub is : fits_verdict st ts r ≡ v
  pub ok : FitsOk n r

-- A rule of the table whose count the arguments have.
pub record FitAsks (b p a : List ℕ) (m : ℕ) (r : Rule) : Type 0 where
  pub args : ArgsAsk b p a m
  pub well : well_rule r ≡ true
  pub counted : counts_for r m ≡ true

abbrev pub FitHas : List ℕ → List ℕ → List ℕ → ℕ → Rule → Option Fit → Type 0
FitHas b p a m rule r = (n : ℕ) → Over b p n a m → FitIs n (store_of b p n) (args_of b p n a m) (fitted rule (args_of b p n a m)) r

-- For a rule the test r may stand for the one that no argument is a Par: the verdict is the same.
abbrev pub TestsValues : List ℕ → List ℕ → List ℕ → ℕ → Rule → Bool → Type 0
TestsValues b p a m rule r =
    (n : ℕ) → Over b p n a m → need (values (args_of b p n a m)) Misfit (fitted rule (args_of b p n a m)) ≡ need r Misfit (fitted rule (args_of b p n a m))

-- Two arguments or three, for Select and Store.
pub record ArrayAsks (b p a : List ℕ) (m : ℕ) : Type 0 where
  pub args : ArgsAsk b p a m
  pub few : (m ≡ 2) ⊎ (m ≡ 3)

pub record ArrayIs (n : ℕ) (st : List Sort) (ts : Sorts) (m : ℕ) (r : Option Fit) : Type 0 where
  pub two : m ≡ 2 → FitIs n st ts (fitted Select ts) r
  pub three : m ≡ 3 → FitIs n st ts (fitted AtIndex ts) r

abbrev pub ArrayHas : List ℕ → List ℕ → List ℕ → ℕ → Option Fit → Type 0
ArrayHas b p a m r = (n : ℕ) → Over b p n a m → ArrayIs n (store_of b p n) (args_of b p n a m) m r

---------------------------------------------------------------- answers
pub record DeliverFitAsked (s : Store) (r : Fit) (a : Args) : Type 0 where
  pub args : ArgumentsAsk s a
  pub ok : FitOk s.count r

---------------------------------------------------------------- the same of entries and the arguments as they are lent
abbrev pub RuleAsks : Entries → Args → Rule → Type 0
RuleAsks e a rule = FitAsks e.records.now e.places.now a.bytes.now a.count rule

abbrev pub RuleFits : Entries → Args → Rule → Option Fit → Type 0
RuleFits e a rule r = FitHas e.records.now e.places.now a.bytes.now a.count rule r

abbrev pub ValuesFor : Entries → Args → Rule → Bool → Type 0
ValuesFor e a rule r = TestsValues e.records.now e.places.now a.bytes.now a.count rule r
