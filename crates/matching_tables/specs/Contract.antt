-- What the tables of names and of the map ask and promise. Definitions only.
use Rattle.std.specs.Prelude.{ℕ, ◌+◌, ◌*◌, ◌≤◌, ◌<◌, ◌≡◌, Bool, true, ◌&&◌, List, [], ◌∷◌, length, get_or, set, eqb}
use Rattle.std.proofs.Math.Option.{Option, none, some}
use Rattle.record.specs.Names.{all_members}
use Rattle.record.specs.Number.{numbers_at}
use Rattle.record.specs.Sort.{Sort}
use Rattle.record.specs.Decode.{store_of, sort_at}
use Rattle.substitution.specs.Substitution.{Map, find}
use Rattle.substitution.specs.Matching.{meet}
use Rattle.matching_tables.specs.Tables.{times, Lists, image_of, table_map, VarIn, Mapped}
use Rattle.matching_tables.specs.Matched.{Matched, Fits, Misfits}
use Rattle.matching_tables.specs.Usable.{PairAsks, Usable}

---------------------------------------------------------------- names
-- The names at a place, and room in the table for listing them.
pub record NamesAsk (prm s : List ℕ) (x m : ℕ) : Type 0 where
  pub table : length prm ≡ 65536
  pub within : x + 2 * m ≤ length s

pub record AddAsks (prm s : List ℕ) (x m : ℕ) : Type 0 where
  pub names : NamesAsk prm s x m
  pub room : (v : ℕ) → get_or prm v 0 + times v (numbers_at s x m) ≤ 65535

pub record TakeAsks (prm s : List ℕ) (x m : ℕ) : Type 0 where
  pub names : NamesAsk prm s x m
  pub there : (v : ℕ) → times v (numbers_at s x m) ≤ get_or prm v 0

-- Every name at a place is listed.
abbrev pub AllListed : List ℕ → List ℕ → ℕ → ℕ → Bool → Type 0
AllListed prm s x m r = (ns : List ℕ) → Lists prm ns → r ≡ all_members (numbers_at s x m) ns

-- No name of a list has an entry in the table; so `apart` of every list that the table lists.
unfoldable pub none_of : List ℕ → List ℕ → Bool
none_of prm [] = true
none_of prm (v ∷ vs) = eqb (get_or prm v 0) 0 && none_of prm vs

-- Two sorts, and the table of names.
pub record TestAsks (b p : List ℕ) (n : ℕ) (prm : List ℕ) (k j : ℕ) : Type 0 where
  pub pair : PairAsks b p n k j
  pub table : length prm ≡ 65536

---------------------------------------------------------------- the map
-- The image of a name, by the entry under it.
pub record LookIs (imgs : List ℕ) (v r : ℕ) : Type 0 where
  pub entry : r ≡ get_or imgs v 0
  pub image : (b p bnd : List ℕ) (n m : ℕ) → Mapped b p n imgs bnd m → find (table_map (store_of b p n) imgs bnd m) v ≡ image_of (store_of b p n) r

pub record BindAsks (imgs bnd : List ℕ) (m v j : ℕ) : Type 0 where
  pub name : v < length imgs
  pub place : m < length bnd
  pub small : v < 65536
  pub image : j < 65535

pub record BindIs (imgs bnd : List ℕ) (m v j : ℕ) (imgs' bnd' : List ℕ) (r : ℕ) : Type 0 where
  pub images : imgs' ≡ set imgs v (j + 1)
  pub order : bnd' ≡ set bnd m v
  pub count : r ≡ m + 1

-- How many names are bound after matching, and the map found, `none` where there is none.
abbrev pub count_of : Matched → ℕ
count_of (Fits m) = m
count_of (Misfits m) = m

abbrev pub matched_map : List Sort → List ℕ → List ℕ → Matched → Option Map
matched_map st imgs bnd (Fits m) = some (table_map st imgs bnd m)
matched_map st imgs bnd (Misfits m) = none

-- THE ANSWER IS o, and the tables are well formed, whatever it is.
pub record Answered (b p : List ℕ) (n : ℕ) (imgs bnd : List ℕ) (r : Matched) (o : Option Map) : Type 0 where
  pub mapped : Mapped b p n imgs bnd (count_of r)
  pub result : matched_map (store_of b p n) imgs bnd r ≡ o

-- A listed name of a Var of the store, met against the sort j: with room for one more bound name where it has no image.
pub record MeetAsks (imgs bnd : List ℕ) (m v j : ℕ) : Type 0 where
  pub names : length imgs ≡ 65536
  pub order : length bnd ≡ 4160
  pub name : v < 65536
  pub target : j < 65535
  pub room : get_or imgs v 0 ≡ 0 → m < 4160

abbrev pub MeetIs : List ℕ → List ℕ → ℕ → ℕ → ℕ → List ℕ → List ℕ → Matched → Type 0
MeetIs imgs bnd m v j imgs' bnd' r =
    (b p : List ℕ) (n : ℕ) → Usable b p n → Mapped b p n imgs bnd m → j < n → VarIn b p n v
    → Answered b p n imgs' bnd' r
    (meet (find (table_map (store_of b p n) imgs bnd m) v) v (sort_at b p n j) (table_map (store_of b p n) imgs bnd m))
