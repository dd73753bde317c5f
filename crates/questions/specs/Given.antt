-- The pairs of name and sort that a question gives beside its parameters, over the store numbers of the sheet's sorts: what the test
-- of the given sorts and the binding of the given names ask and promise. Definitions only.
use Rattle.std.specs.Prelude.{ℕ, ◌+◌, ◌*◌, ◌≤◌, ◌<◌, ◌≡◌, Bool, true, ◌&&◌, List, length}
use Rattle.record.specs.Names.{distinct}
use Rattle.record.specs.Number.{u16_at}
use Rattle.record.specs.Decode.{store_of, sort_at}
use Rattle.reader.specs.Reader.{pair_names_at}
use Rattle.sheet.specs.Sheet.{Binding}
use Rattle.substitution.specs.Matching.{premise}
use Rattle.matching_tables.specs.Tables.{Lists, table_map, Mapped, Cleared}
use Rattle.matching_tables.specs.Usable.{Usable}
use Rattle.row_answer.specs.Arguments.{binding_at}
use Rattle.row_parts.specs.Site.{pairs_over}
use Rattle.judge_rules.specs.Questions.{given_map, given_premise}

-- The m pairs at x lie in the sheet, their sorts have numbers below n, and no name is given twice.
pub record GivenStand (n : ℕ) (s tbl : List ℕ) (x m : ℕ) : Type 0 where
  pub within : x + 4 * m ≤ length s
  pub few : m ≤ 64
  pub inside : (j : ℕ) → j < m → u16_at s (x + 4 * j + 2) < length tbl
  pub known : (j : ℕ) → j < m → binding_at s x tbl j < n
  pub once : distinct (pair_names_at s x m) ≡ true

---------------------------------------------------------------- the test of the given sorts
-- Their sorts, each as a target.
pub record GivenTestAsks (b p : List ℕ) (n : ℕ) (prm s tbl : List ℕ) (x m : ℕ) : Type 0 where
  pub usable : Usable b p n
  pub table : length prm ≡ 65536
  pub given : GivenStand n s tbl x m

-- The answer is the definition's, for every list of names that the table lists.
abbrev pub GivenTestIs : List ℕ → List ℕ → ℕ → List ℕ → List ℕ → List ℕ → ℕ → ℕ → Bool → Type 0
GivenTestIs b p n prm s tbl x m r = (ns : List ℕ) → Lists prm ns → r ≡ given_premise ns (pairs_over (store_of b p n) tbl s x m)

-- And a pattern k and a target j.
pub record AllTestAsks (b p : List ℕ) (n : ℕ) (prm s tbl : List ℕ) (k j x m : ℕ) : Type 0 where
  pub given : GivenTestAsks b p n prm s tbl x m
  pub pattern : k < n
  pub target : j < n

-- 28 IS THE ANSWER exactly where this is false.
abbrev pub AllTestIs : List ℕ → List ℕ → ℕ → List ℕ → List ℕ → List ℕ → ℕ → ℕ → ℕ → ℕ → Bool → Type 0
AllTestIs b p n prm s tbl k j x m r =
    (ns : List ℕ) → Lists prm ns
    → r ≡ (premise ns (sort_at b p n k) (sort_at b p n j) && given_premise ns (pairs_over (store_of b p n) tbl s x m))

---------------------------------------------------------------- the given names bound
-- No name is bound, and none is counted as bound.
pub record GiveAsks (imgs bnd : List ℕ) (c : ℕ) (s tbl : List ℕ) (x m : ℕ) : Type 0 where
  pub cleared : Cleared imgs bnd
  pub none : c ≡ 0
  pub given : GivenStand 4096 s tbl x m

-- The tables stand for the map of the pairs gs.
pub record GivenMapped (b p : List ℕ) (n : ℕ) (imgs bnd : List ℕ) (c : ℕ) (gs : List Binding) : Type 0 where
  pub mapped : Mapped b p n imgs bnd c
  pub map : table_map (store_of b p n) imgs bnd c ≡ given_map gs

-- So over every store that has the pairs' sorts.
abbrev pub GiveIs : List ℕ → List ℕ → ℕ → ℕ → List ℕ → List ℕ → ℕ → Type 0
GiveIs s tbl x m imgs bnd c =
    (b p : List ℕ) (n : ℕ) → Usable b p n → ((j : ℕ) → j < m → binding_at s x tbl j < n)
    → GivenMapped b p n imgs bnd c (pairs_over (store_of b p n) tbl s x m)
