-- What the functions on indexed operators ask and promise.
use Rattle.std.specs.Prelude.{ℕ, ◌+◌, ◌*◌, ◌≤◌, ◌<◌, ◌≡◌, cond, List, [], ◌∷◌, length, eqb, Result, Ok, Err}
use Rattle.std.proofs.Math.Option.{Option, none, some}
use Rattle.std.specs.Prelude.{Option as Maybe, Some, None}
use Rattle.record.specs.Sort.{Sort, bitvec}
use Rattle.store.specs.Good.{Good}
use Rattle.row_rules.specs.declared.Cause.{Cause}
use Rattle.row_rules.specs.declared.Cause.TheVariants.{Count, Misfit}
use Rattle.row_rules.specs.Verdict.{Verdict, sort, refused, need}
use Rattle.check_rules.specs.Checked.{indexed₁, indexed₂}
use Rattle.row_answer.specs.Arguments.{constants_in, ConstantsAsk}
use Rattle.check_operator.specs.Contract.{arg_at}
use Rattle.check_row.specs.declared.indexed.Indices.{Indices}
use Rattle.check_row.specs.declared.indexed.Indices.TheVariants.{One, Two}

---------------------------------------------------------------- the indices
-- One or two integer constants.
abbrev pub indices_from : List (Option ℕ) → Maybe Indices
indices_from [] = None
indices_from (none ∷ is) = None
indices_from (some i ∷ []) = Some (One i)
indices_from (some i ∷ (none ∷ is)) = None
indices_from (some i ∷ (some j ∷ [])) = Some (Two i j)
indices_from (some i ∷ (some j ∷ (k ∷ is))) = None

-- A first index that stands alone is of four bytes.
abbrev pub SmallOne : Indices → Type 0
SmallOne (One i) = i < 4294967296
SmallOne (Two i j) = Unit {0}

abbrev pub SmallIfOne : Maybe Indices → Type 0
SmallIfOne None = Unit {0}
SmallIfOne (Some is) = SmallOne is

pub record IndicesAre (s xs : List ℕ) (x m : ℕ) (r : Maybe Indices) : Type 0 where
  pub are : r ≡ indices_from (constants_in s xs x m)
  pub small : SmallIfOne r

---------------------------------------------------------------- answers
-- The argument a where its kind is the one wanted.
abbrev pub kept_as : ℕ → ℕ → ℕ → Result ℕ Cause
kept_as a kind wanted = cond (eqb kind wanted) (Ok a) (Err Misfit)

-- A vector of a width where the argument's kind is the one wanted.
abbrev pub widened_verdict : ℕ → ℕ → ℕ → Verdict
widened_verdict kind wanted w = need (eqb kind wanted) Misfit (sort (bitvec w))

-- An index of four bytes, and an argument that is a number of a good store.
pub record OneIndexAsks (b p ix : List ℕ) (n u i a : ℕ) : Type 0 where
  pub good : Good b p ix n u
  pub known : a < n
  pub small : i < 4294967296

pub record CheckIndexedAsks (b p ix : List ℕ) (n u : ℕ) (is : Indices) (a : ℕ) : Type 0 where
  pub good : Good b p ix n u
  pub known : a < n
  pub small : SmallOne is

-- The verdict of an operator at its indices and its argument: `indexed_by`.
abbrev pub indexed_with : ℕ → Indices → Sort → Verdict
indexed_with op (One i) a = indexed₁ op i a
indexed_with op (Two i j) a = indexed₂ op i j a

-- The same without indices.
abbrev pub indexed_within : ℕ → Maybe Indices → Sort → Verdict
indexed_within op None a = refused Count
indexed_within op (Some is) a = indexed_with op is a

-- The index terms that the sheet names, and m arguments that are numbers of a good store.
pub record IndexingAsks (b p ix : List ℕ) (n u : ℕ) (s xs : List ℕ) (x y : ℕ) (a : List ℕ) (m : ℕ) : Type 0 where
  pub good : Good b p ix n u
  pub constants : ConstantsAsk s xs x y
  pub within : 3 + 2 * m ≤ length a
  pub below : (j : ℕ) → j < m → arg_at a j < n
