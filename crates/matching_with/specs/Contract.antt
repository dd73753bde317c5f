-- What match_with asks of a store, and what it promises, on trees. Definitions only.
use Rattle.std.specs.Prelude.{ℕ, ◌+◌, ◌*◌, ◌≤◌, ◌<◌, ◌≡◌, true, List, [], ◌++◌, length}
use Rattle.std.proofs.Math.Option.{Option, none, some}
use Rattle.record.specs.Kinds.{sort_number}
use Rattle.record.specs.Number.{numbers_at}
use Rattle.record.specs.Names.{distinct}
use Rattle.store.specs.Entry.{EntryHas}
use Rattle.record.specs.Sort.{end, ◌then◌, parts_of, names_of, size, sizes}
use Rattle.record.specs.Record.{sorts_of}
use Rattle.record.specs.Decode.{store_of, sort_at}
use Rattle.record.specs.declared.SortRecord.{SortRecord}
use Rattle.substitution.specs.Substitution.{Map, find}
use Rattle.substitution.specs.MatchWith.{meet_with, match_with, match_all_with}
use Rattle.matching_tables.specs.Tables.{Lists, Roomy, table_map, VarIn, Mapped}
use Rattle.matching_tables.specs.Matched.{Matched}
use Rattle.matching_with.specs.declared.Turn.{Turn}
use Rattle.matching_with.specs.declared.Turn.TheVariants.{Holds, Fails, Meets, Under, Past, Parts}
use Rattle.matching_tables.specs.Contract.{count_of, matched_map, Answered, TestAsks}
use Rattle.matching_tables.specs.Usable.{PairAsks, PairsAsk, ListsAsk, sorts_at, Usable}

---------------------------------------------------------------- match_with
-- Each Par of the pattern lists each of its names once more, so the table needs room for the pattern's size at most.
pub record WithAsks (b p : List ℕ) (n : ℕ) (prm imgs bnd : List ℕ) (m k j : ℕ) : Type 0 where
  pub pair : PairAsks b p n k j
  pub table : length prm ≡ 65536
  pub room : Roomy prm (size (sort_at b p n k))
  pub mapped : Mapped b p n imgs bnd m

pub record WithAllAsks (b p : List ℕ) (n : ℕ) (prm imgs bnd : List ℕ) (m : ℕ) (s : List ℕ) (x : ℕ) (t : List ℕ) (y e : ℕ) : Type 0 where
  pub pairs : PairsAsk b p n s x t y e
  pub table : length prm ≡ 65536
  pub room : Roomy prm (sizes (sorts_at b p n s x e))
  pub mapped : Mapped b p n imgs bnd m

-- By lists of numbers.
pub record WithListsAsk (b p : List ℕ) (n : ℕ) (prm imgs bnd : List ℕ) (m : ℕ) (ks js : List ℕ) : Type 0 where
  pub lists : ListsAsk b p n ks js
  pub table : length prm ≡ 65536
  pub room : Roomy prm (sizes (sorts_of (store_of b p n) ks))
  pub mapped : Mapped b p n imgs bnd m

-- The parameters are as they were, the tables well formed, and for every list of names that the table lists the answer is o.
pub record WithIs (b p : List ℕ) (n : ℕ) (prm prm' imgs bnd : List ℕ) (r : Matched) (o : List ℕ → Option Map) : Type 0 where
  pub params : prm' ≡ prm
  pub mapped : Mapped b p n imgs bnd (count_of r)
  pub result : (ns : List ℕ) → Lists prm ns → matched_map (store_of b p n) imgs bnd r ≡ o ns

abbrev pub PairWith : List ℕ → List ℕ → ℕ → List ℕ → List ℕ → ℕ → ℕ → ℕ → List ℕ → Option Map
PairWith b p n imgs bnd m k j ns = match_with ns (sort_at b p n k) (sort_at b p n j) (table_map (store_of b p n) imgs bnd m)

abbrev pub PairsWith : List ℕ → List ℕ → ℕ → List ℕ → List ℕ → ℕ → List ℕ → ℕ → List ℕ → ℕ → ℕ → List ℕ → Option Map
PairsWith b p n imgs bnd m s x t y e ns = match_all_with ns (sorts_at b p n s x e) (sorts_at b p n t y e) (table_map (store_of b p n) imgs bnd m)

abbrev pub ListsWith : List ℕ → List ℕ → ℕ → List ℕ → List ℕ → ℕ → List ℕ → List ℕ → List ℕ → Option Map
ListsWith b p n imgs bnd m ks js ns = match_all_with ns (sorts_of (store_of b p n) ks) (sorts_of (store_of b p n) js) (table_map (store_of b p n) imgs bnd m)

-- A parameter of the pattern, not equal to the target.
pub record MeetWithAsks (b p : List ℕ) (n : ℕ) (imgs bnd : List ℕ) (m v j : ℕ) : Type 0 where
  pub usable : Usable b p n
  pub mapped : Mapped b p n imgs bnd m
  pub target : j < n
  pub name : v < 65536
  pub own : VarIn b p n v

abbrev pub MeetWithIs : List ℕ → List ℕ → ℕ → List ℕ → List ℕ → ℕ → ℕ → ℕ → List ℕ → List ℕ → Matched → Type 0
MeetWithIs b p n imgs bnd m v j imgs' bnd' r =
    Answered b p n imgs' bnd' r
    (meet_with (find (table_map (store_of b p n) imgs bnd m) v) v (sort_at b p n j) (table_map (store_of b p n) imgs bnd m))

---------------------------------------------------------------- what match_with does next
-- Two sorts, of which the first is neither a Var nor a Par, by its entry, and not the second.
pub record NodeAsks (b p : List ℕ) (n : ℕ) (prm : List ℕ) (r : SortRecord) (k j : ℕ) : Type 0 where
  pub turn : TestAsks b p n prm k j
  pub entry : EntryHas b p k r
  pub no_var : sort_number r.kind ≡ 2 → ⊥
  pub no_par : sort_number r.kind ≡ 12 → ⊥
  pub differ : k ≡ j → ⊥

-- A parameter v meets the target.
pub record Meeting (b p : List ℕ) (n : ℕ) (prm : List ℕ) (k j v : ℕ) : Type 0 where
  pub name : v < 65536
  pub own : VarIn b p n v
  pub whole : (ns : List ℕ) → Lists prm ns → (m : Map) → meet_with (find m v) v (sort_at b p n j) m ≡ match_with ns (sort_at b p n k) (sort_at b p n j) m

-- A Par of the pattern, with c names at x, is opened: its body i.
pub record Opened (b p : List ℕ) (n k j i x c : ℕ) : Type 0 where
  pub below : i < n
  pub within : x + 2 * c ≤ length b
  pub once : distinct (numbers_at b x c) ≡ true
  pub names : names_of (sort_at b p n k) ≡ numbers_at b x c
  pub parts : parts_of (sort_at b p n k) ≡ sort_at b p n i then end
  pub falls : size (sort_at b p n k) ≡ 1 + size (sort_at b p n i)
  pub whole : (ns : List ℕ) (m : Map) → match_with (ns ++ numbers_at b x c) (sort_at b p n i) (sort_at b p n j) m ≡ match_with ns (sort_at b p n k) (sort_at b p n j) m

-- A Par of the target is opened: its body i.
pub record Passed (b p : List ℕ) (n : ℕ) (prm : List ℕ) (k j i : ℕ) : Type 0 where
  pub below : i < n
  pub falls : size (sort_at b p n j) ≡ 1 + size (sort_at b p n i)
  pub whole : (ns : List ℕ) → Lists prm ns → (m : Map) → match_with ns (sort_at b p n k) (sort_at b p n i) m ≡ match_with ns (sort_at b p n k) (sort_at b p n j) m

-- The c parts at x are matched with those at y.
pub record Parted (b p : List ℕ) (n k j x y c : ℕ) : Type 0 where
  pub pairs : PairsAsk b p n b x b y c
  pub names : names_of (sort_at b p n k) ≡ []
  pub parts : parts_of (sort_at b p n k) ≡ sorts_at b p n b x c
  pub less : sizes (sorts_at b p n b x c) < size (sort_at b p n k)
  pub falls : sizes (sorts_at b p n b x c) + sizes (sorts_at b p n b y c) + 2 ≡ size (sort_at b p n k) + size (sort_at b p n j)
  pub whole : (ns : List ℕ) (m : Map) → match_all_with ns (sorts_at b p n b x c) (sorts_at b p n b y c) m ≡ match_with ns (sort_at b p n k) (sort_at b p n j) m

-- WHAT IS TO BE DONE GIVES THE WHOLE, whatever the map and the list of names that the table lists.
abbrev pub TurnIs : List ℕ → List ℕ → ℕ → List ℕ → ℕ → ℕ → Turn → Type 0
TurnIs b p n prm k j Holds = (ns : List ℕ) → Lists prm ns → (m : Map) → some m ≡ match_with ns (sort_at b p n k) (sort_at b p n j) m
TurnIs b p n prm k j Fails = (ns : List ℕ) → Lists prm ns → (m : Map) → none ≡ match_with ns (sort_at b p n k) (sort_at b p n j) m
TurnIs b p n prm k j (Meets v) = Meeting b p n prm k j v
TurnIs b p n prm k j (Under i x) = Opened b p n k j i x.at x.count
TurnIs b p n prm k j (Past i) = Passed b p n prm k j i
TurnIs b p n prm k j (Parts x y) = Parted b p n k j x.at y.at x.count × (y.count ≡ x.count)
