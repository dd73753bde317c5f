-- What one substitution knows already, in tables by store number: the answers that it has made, and their sizes. A table has
-- any length; an entry of 0, and one past the end, says nothing.
use Rattle.std.specs.Prelude.{ℕ, suc, ◌<◌, ◌≡◌, List, get_or, Result, Ok, Err}
use Rattle.record.specs.Decode.{sort_at}
use Rattle.store.specs.declared.Full.{Full}
use Rattle.apply_walk.specs.Made.{Made}
use Rattle.apply_walk.specs.Contract.{answer_at, answers_at, SizeIs, SizesAre, SortAsks, ReplacedIs, PartsAsk, PartsMade, PartsAre}

-- What an entry x for the sort k says of the answers made: x is 0, or one more than the number of the answer.
abbrev pub EntrySays : List ℕ → List ℕ → ℕ → List ℕ → ℕ → ℕ → Type 0
EntrySays b p n l k x = (i : ℕ) → x ≡ suc i → (k < n) × (i < n) × (sort_at b p n i ≡ answer_at b p n l k)

-- THE TABLE ws OF ANSWERS says the truth.
pub record Known (b p : List ℕ) (n : ℕ) (l ws : List ℕ) : Type 0 where
  pub each : (k : ℕ) → EntrySays b p n l k (get_or ws k 0)

-- What an entry x for the sort k says of the sizes: x is 0, or the capped size of the answer.
abbrev pub Weighs : List ℕ → List ℕ → ℕ → List ℕ → ℕ → ℕ → Type 0
Weighs b p n l k x = (v : ℕ) → x ≡ suc v → SizeIs b p n k l x

-- THE TABLE ws OF SIZES says the truth.
pub record Weighed (b p : List ℕ) (n : ℕ) (l ws : List ℕ) : Type 0 where
  pub each : (k : ℕ) → Weighs b p n l k (get_or ws k 0)

-- The two walks for the size, over a table that says the truth and says it afterwards.
pub record WeighIs (b p : List ℕ) (n k : ℕ) (l ws : List ℕ) (r : ℕ) : Type 0 where
  pub is : SizeIs b p n k l r
  pub weighed : Weighed b p n l ws

pub record WeighAllAre (b p : List ℕ) (n x m : ℕ) (l ws : List ℕ) (r : ℕ) : Type 0 where
  pub are : SizesAre b p n x m l r
  pub weighed : Weighed b p n l ws

-- The two walks that make the answer, over a table that says the truth and says it of the grown store afterwards. Where
-- there was no room the table is of no use any more.
pub record KnownWalkAsks (b p ix ws : List ℕ) (n u k : ℕ) (l : List ℕ) : Type 0 where
  pub asks : SortAsks b p ix n u k l
  pub known : Known b p n l ws

pub record KnownMade (b p : List ℕ) (n u k : ℕ) (l c q ix' ws' : List ℕ) (i m v : ℕ) : Type 0 where
  pub made : Made b p n u (answer_at b p n l k) c q ix' i m v
  pub known : Known c q m l ws'

abbrev pub KnownIs : List ℕ → List ℕ → ℕ → ℕ → ℕ → List ℕ → List ℕ → List ℕ → List ℕ → List ℕ → ℕ → ℕ → Result ℕ Full → Type 0
KnownIs b p n u k l c q ix' ws' m v (Ok i) = KnownMade b p n u k l c q ix' ws' i m v
KnownIs b p n u k l c q ix' ws' m v (Err e) = ReplacedIs b p n u (answer_at b p n l k) c q ix' m v (Err e)

pub record KnownAllAsk (b p ix ws : List ℕ) (n u : ℕ) (parts l : List ℕ) : Type 0 where
  pub asks : PartsAsk b p ix n u parts l
  pub known : Known b p n l ws

pub record KnownAllMade (b p : List ℕ) (n u : ℕ) (parts l c q ix' ws' o : List ℕ) (m v : ℕ) : Type 0 where
  pub made : PartsMade b p n u (answers_at b p n l parts) c q ix' o m v
  pub known : Known c q m l ws'

abbrev pub KnownAllAre : List ℕ → List ℕ → ℕ → ℕ → List ℕ → List ℕ → List ℕ → List ℕ → List ℕ → List ℕ → List ℕ → ℕ → ℕ → Result (Unit {0}) Full → Type 0
KnownAllAre b p n u parts l c q ix' ws' o m v (Ok w) = KnownAllMade b p n u parts l c q ix' ws' o m v
KnownAllAre b p n u parts l c q ix' ws' o m v (Err e) = PartsAre b p n u parts l c q ix' o m v (Err e)
