-- The way of match_with down Pars and last parts, and what a turn and a walk promise. Definitions only.
use Rattle.std.specs.Prelude.{ℕ, zero, suc, ◌+◌, ◌*◌, ◌-◌, ◌≤◌, ◌<◌, ◌≡◌, List, [], ◌++◌, length, get_or}
use Rattle.record.specs.Number.{u16_at}
use Rattle.record.specs.Sort.{Sort, Sorts, end, ◌then◌, parts_of, names_of, count, size, sizes}
use Rattle.record.specs.Record.{leaf}
use Rattle.record.specs.Decode.{store_of, sort_at}
use Rattle.substitution.specs.Matching.{and_then}
use Rattle.substitution.specs.MatchWith.{match_with}
use Rattle.matching_tables.specs.Tables.{times, Lists, Added, Mapped}
use Rattle.matching_with.specs.Met.{WithBefore, WithAfter}
use Rattle.matching_tables.specs.Usable.{sorts_at, OneAsks, PairAsks}
use Rattle.matching_tables.specs.Contract.{count_of, matched_map}
use Rattle.matching_with.specs.Contract.{WithAsks, WithAllAsks, WithIs, PairWith, PairsWith}
use Rattle.matching_with.specs.declared.Move.{Move}
use Rattle.matching_with.specs.declared.Move.TheVariants.{Ends, Under, Past, Parts}
use Rattle.matching_tables.specs.Matched.{Matched, found}

---------------------------------------------------------------- the way
-- The last sort of a list; of none, a leaf.
unfoldable pub last_sort : Sorts → Sort
last_sort end = leaf
last_sort (s then end) = s
last_sort (s then (t then ts)) = last_sort (t then ts)

-- Where i steps from s lead, each to the last part, of a Par to its body; and the names of the Pars left behind.
unfoldable pub way_end : Sort → ℕ → Sort
way_end s zero = s
way_end s (suc i) = last_sort (parts_of (way_end s i))

unfoldable pub way_names : Sort → ℕ → List ℕ
way_names s zero = []
way_names s (suc i) = way_names s i ++ names_of (way_end s i)

-- There are parts at each of the i steps.
abbrev pub Deep : Sort → ℕ → Type 0
Deep s i = (h : ℕ) → h < i → 0 < count (parts_of (way_end s h))

pub record CloseAsks (b p : List ℕ) (n : ℕ) (prm : List ℕ) (k i : ℕ) : Type 0 where
  pub one : OneAsks b p n k
  pub table : length prm ≡ 65536
  pub deep : Deep (sort_at b p n k) i
  pub there : (v : ℕ) → times v (way_names (sort_at b p n k) i) ≤ get_or prm v 0

abbrev pub CloseIs : List ℕ → List ℕ → ℕ → List ℕ → ℕ → ℕ → List ℕ → Type 0
CloseIs b p n prm k i prm' = Added prm' (way_names (sort_at b p n k) i) prm

---------------------------------------------------------------- a turn
-- THE PAIR k' AND j' IS MATCHED IN THE PLACE OF k AND j, with the names us listed once more, and gives the whole.
pub record Instead (b p : List ℕ) (n : ℕ) (prm imgs bnd : List ℕ) (m k j : ℕ) (us prm' imgs' bnd' : List ℕ) (m' k' j' : ℕ) (l : List ℕ) : Type 0 where
  pub added : Added prm us prm'
  pub asks : WithAsks b p n prm' imgs' bnd' m' k' j'
  pub noted : WithBefore b p n prm' imgs' bnd' m' l
  pub whole : (ns : List ℕ) → Lists prm ns → PairWith b p n imgs' bnd' m' k' j' (ns ++ us) ≡ PairWith b p n imgs bnd m k j ns

-- One step down the way, from k to its last part i.
pub record Leads (b p : List ℕ) (n k i : ℕ) : Type 0 where
  pub some : 0 < count (parts_of (sort_at b p n k))
  pub last : last_sort (parts_of (sort_at b p n k)) ≡ sort_at b p n i
  pub less : size (sort_at b p n i) < size (sort_at b p n k)

-- The first c parts at x are matched with those at y, then the two behind them: the last of the nodes k and j.
pub record Split (b p : List ℕ) (n : ℕ) (prm imgs bnd : List ℕ) (m k j : ℕ) (prm' imgs' bnd' : List ℕ) (m' : ℕ) (l : List ℕ) (x y c : ℕ) : Type 0 where
  pub params : prm' ≡ prm
  pub asks : WithAllAsks b p n prm' imgs' bnd' m' b x b y c
  pub noted : WithBefore b p n prm' imgs' bnd' m' l
  pub left : x + 2 * c + 2 ≤ length b
  pub right : y + 2 * c + 2 ≤ length b
  pub ends : PairAsks b p n (u16_at b (x + 2 * c)) (u16_at b (y + 2 * c))
  pub leads : Leads b p n k (u16_at b (x + 2 * c))
  pub nameless : names_of (sort_at b p n k) ≡ []
  pub falls : sizes (sorts_at b p n b x c) + sizes (sorts_at b p n b y c) + size (sort_at b p n (u16_at b (x + 2 * c))) + size (sort_at b p n (u16_at b (y + 2 * c))) + 2
      ≡ size (sort_at b p n k) + size (sort_at b p n j)
  pub whole : (ns : List ℕ) → Lists prm ns
      → and_then (PairsWith b p n imgs' bnd' m' b x b y c ns) (λ θ. match_with ns (sort_at b p n (u16_at b (x + 2 * c))) (sort_at b p n (u16_at b (y + 2 * c))) θ)
      ≡ PairWith b p n imgs bnd m k j ns

abbrev pub MoveIs : List ℕ → List ℕ → ℕ → List ℕ → List ℕ → List ℕ → ℕ → ℕ → ℕ → List ℕ → List ℕ → List ℕ → ℕ → List ℕ → Move → Type 0
MoveIs b p n prm imgs bnd m k j prm' imgs' bnd' m' l (Ends q) =
    WithIs b p n prm prm' imgs' bnd' (found m' q) (PairWith b p n imgs bnd m k j) × WithAfter b p n prm imgs' bnd' l (found m' q)
MoveIs b p n prm imgs bnd m k j prm' imgs' bnd' m' l (Under i) =
    Instead b p n prm imgs bnd m k j (names_of (sort_at b p n k)) prm' imgs' bnd' m' i j l × Leads b p n k i
MoveIs b p n prm imgs bnd m k j prm' imgs' bnd' m' l (Past i) =
    Instead b p n prm imgs bnd m k j [] prm' imgs' bnd' m' k i l × (size (sort_at b p n i) < size (sort_at b p n j))
MoveIs b p n prm imgs bnd m k j prm' imgs' bnd' m' l (Parts x y) =
    Split b p n prm imgs bnd m k j prm' imgs' bnd' m' l x.at y.at (x.count - 1) × (0 < x.count) × (y.count ≡ x.count)

---------------------------------------------------------------- a walk
-- The answer is that of the whole, and the names of the Pars that the way left are listed once more. Where it left none, the
-- table of pairs is right for the map found.
pub record WalkIs (b p : List ℕ) (n : ℕ) (prm imgs bnd : List ℕ) (m k j : ℕ) (prm' imgs' bnd' l : List ℕ) (q : Matched) (d : ℕ) : Type 0 where
  pub added : Added prm (way_names (sort_at b p n k) d) prm'
  pub deep : Deep (sort_at b p n k) d
  pub mapped : Mapped b p n imgs' bnd' (count_of q)
  pub result : (ns : List ℕ) → Lists prm ns → matched_map (store_of b p n) imgs' bnd' q ≡ PairWith b p n imgs bnd m k j ns
  pub noted : d ≡ 0 → WithAfter b p n prm imgs' bnd' l q
