-- When a rank fits the sorts of arguments, and when a function takes them, as document 01 says it: some assignment, or a form
-- of document 02. Definitions only; that the tests of Rank and Checked are this is proved in RankTheorems and AppTheorems.
use Rattle.std.specs.Prelude.{ℕ, zero, suc, ◌<◌, ◌≡◌, Bool, true, false, List, [], ◌∷◌}
use Rattle.std.proofs.Math.Option.{Option, none, some}
use Rattle.record.specs.Names.{member}
use Rattle.record.specs.Sort.{Sort, Sorts, var, bitvec, count}
use Rattle.substitution.specs.Substitution.{Map, apply, apply_all, occurs, occurs_any}
use Rattle.substitution.specs.Matching.{Within}
use Rattle.row_rules.specs.Lists.{firsts, others, remaining}
use Rattle.check_rules.specs.Rank.{Rank, rank, patterns, computed}
use Rattle.check_rules.specs.Parts.{EachValue}
use Rattle.check_rules.specs.Forms.{Computes}

---------------------------------------------------------------- ranks
-- A rank of patterns fits the sorts ts with the result s: an assignment of its variables turns its argument sorts, the last one as
-- often as the actual arguments ask, into ts and its result into s; in a rank over vectors each variable stands for a vector of some
-- width.
pub record Assigns (repeats vectors : Bool) (ps : Sorts) (r : Sort) (ts : Sorts) (s : Sort) : Type 0 where
  pub assignment : Map
  pub turns : apply_all assignment (patterns repeats ps ts) ≡ ts
  pub widths : vectors ≡ true → (v : ℕ) → occurs_any v ps ≡ true → (w : ℕ) × (apply assignment (var v) ≡ bitvec w)
  pub result : apply assignment r ≡ s

-- A RANK FITS the sorts ts with the result s: by an assignment, or as its form computes it.
abbrev pub Fits : Rank → Sorts → Sort → Type 0
Fits (rank rep vs ps r) ts s = Assigns rep vs ps r ts s
Fits (computed f) ts s = Computes f ts s

-- The rank with the number i in the list of an operator's ranks.
unfoldable pub rank_at : List Rank → ℕ → Option Rank
rank_at [] i = none
rank_at (r ∷ rs) zero = some r
rank_at (r ∷ rs) (suc i) = rank_at rs i

-- Some rank of a list fits.
pub record SomeFits (rs : List Rank) (ts : Sorts) (s : Sort) : Type 0 where
  pub place : ℕ
  pub chosen : Rank
  pub listed : rank_at rs place ≡ some chosen
  pub fits : Fits chosen ts s

---------------------------------------------------------------- functions
-- Some assignment of the listed names makes the first entries of a Function's list the actual argument sorts.
pub record Assigned (listed : ℕ → Bool) (ss ts : Sorts) : Type 0 where
  pub assignment : Map
  pub within : Within listed assignment
  pub turns : apply_all assignment (firsts ss ts) ≡ ts

-- What the list leaves behind the arguments: its last entry, or a Function of the remaining ones.
abbrev pub rest : Sorts → Sorts → Sort
rest ss ts = remaining (others ss ts)

-- The arguments fix the result: each parameter that stands in what is left stands among the declared argument sorts, where
-- an assignment that turns them into the actual ones says what it is.
abbrev pub Fixed : (ℕ → Bool) → Sorts → Sorts → Type 0
Fixed listed ss ts = (v : ℕ) → listed v ≡ true → occurs v (rest ss ts) ≡ true → occurs_any v (firsts ss ts) ≡ true

-- THE FUNCTION WITH THE LIST ss TAKES THE ARGUMENTS ts AND GIVES s.
pub record Applies (listed : ℕ → Bool) (ss ts : Sorts) (s : Sort) : Type 0 where
  pub any : 0 < count ts
  pub few : count ts < count ss
  pub given : EachValue ts
  pub assigned : Assigned listed ss ts
  pub fixed : Fixed listed ss ts
  pub result : apply assigned.assignment (rest ss ts) ≡ s

-- The arguments fit, and a parameter that they do not fix stands in the result.
pub record Unfixed (listed : ℕ → Bool) (ss ts : Sorts) : Type 0 where
  pub any : 0 < count ts
  pub few : count ts < count ss
  pub given : EachValue ts
  pub assigned : Assigned listed ss ts
  pub parameter : ℕ
  pub is_listed : listed parameter ≡ true
  pub stands : occurs parameter (rest ss ts) ≡ true
  pub unassigned : occurs_any parameter (firsts ss ts) ≡ false

-- The parameters of a Par-sorted head.
abbrev pub one_of : List ℕ → ℕ → Bool
one_of ns v = member v ns
