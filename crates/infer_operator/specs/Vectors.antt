-- What looking through the arguments of a vector operator promises.
use Rattle.std.specs.Prelude.{ℕ, ◌≤◌, ◌<◌, ◌≡◌, Bool, true, false, List, length, Option, Some, None, Result, Ok, Err}
use Rattle.record.specs.Sort.{Sorts, bitvec, param_bit_vec}
use Rattle.record.specs.Decode.{sort_at}
use Rattle.row_rules.specs.declared.Cause.{Cause}
use Rattle.row_rules.specs.declared.Cause.TheVariants.{Panics}
use Rattle.row_rules.specs.Verdict.{Verdict, sort, refused}
use Rattle.infer_rules.specs.Inferred.{first_vector, concat_unknown, concat_from}
use Rattle.infer_operator.specs.Asks.{Known, sorts_with}

-- The first vector among the sorts ss is the sort k of the store; there is none; or another sort is met.
abbrev pub ScanIs : List ℕ → List ℕ → ℕ → Sorts → Result (Option ℕ) Cause → Type 0
ScanIs b p n ss (Ok (Some k)) = (k < n) × (first_vector ss ≡ sort (sort_at b p n k))
ScanIs b p n ss (Ok None) = first_vector ss ≡ sort param_bit_vec
ScanIs b p n ss (Err c) = first_vector ss ≡ refused c

abbrev pub ScanHas : List ℕ → List ℕ → List ℕ → Result (Option ℕ) Cause → Type 0
ScanHas b p ks r = (n : ℕ) → Known b p n ks → ScanIs b p n (sorts_with b p n ks) r

-- All are vectors, or one is none.
abbrev pub unknown_by : Bool → Verdict
unknown_by true = sort param_bit_vec
unknown_by false = refused Panics

abbrev pub VectorsHas : List ℕ → List ℕ → List ℕ → Bool → Type 0
VectorsHas b p ks r = (n : ℕ) → Known b p n ks → concat_unknown (sorts_with b p n ks) ≡ unknown_by r

-- At most 64 numbers of some store.
pub record FewKnown (b p : List ℕ) (n : ℕ) (ks : List ℕ) : Type 0 where
  pub known : Known b p n ks
  pub few : length ks ≤ 64

abbrev pub WidthAsks : List ℕ → List ℕ → List ℕ → Type 0
WidthAsks b p ks = (n : ℕ) × FewKnown b p n ks

-- The vector of a width, which may be unknown.
abbrev pub vector_of : Option ℕ → Verdict
vector_of (Some w) = sort (bitvec w)
vector_of None = sort param_bit_vec

-- The sum of all widths, or what there is instead.
abbrev pub widths_of : Result (Option ℕ) Cause → Verdict
widths_of (Ok w) = vector_of w
widths_of (Err c) = refused c

abbrev pub WidthsHas : List ℕ → List ℕ → List ℕ → Result (Option ℕ) Cause → Type 0
WidthsHas b p ks r = (n : ℕ) → Known b p n ks → concat_from 0 (sorts_with b p n ks) ≡ widths_of r
