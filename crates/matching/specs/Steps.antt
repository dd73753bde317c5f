-- What a step of matching does with two sorts, by their entries. Definitions only.
use Rattle.std.specs.Prelude.{ℕ, ◌<◌, ◌≡◌, Bool, List}
use Rattle.std.proofs.Math.Option.{none}
use Rattle.record.specs.Sort.{var, size, sizes}
use Rattle.record.specs.Decode.{sort_at}
use Rattle.substitution.specs.Substitution.{Map}
use Rattle.substitution.specs.Matching.{matches, matches_all}
use Rattle.matching_tables.specs.Usable.{sorts_at, PairsAsk}
use Rattle.matching_tables.specs.Notes.{Pairs}
use Rattle.matching.specs.Met.{MatchedAt}
use Rattle.matching.specs.declared.Step.{Step}
use Rattle.matching.specs.declared.Step.TheVariants.{Holds as Stays, Fails as Stops, Meets, Parts as Parted}

-- The pattern k is matched with the target j by matching the c parts at x with those at y.
pub record StepParts (b p : List ℕ) (n k j x y c : ℕ) : Type 0 where
  pub some : 0 < c
  pub asks : PairsAsk b p n b x b y c
  pub falls : sizes (sorts_at b p n b x c) < size (sort_at b p n k)
  pub whole : (f : ℕ → Bool) (θ : Map) → matches_all f (sorts_at b p n b x c) (sorts_at b p n b y c) θ ≡ matches f (sort_at b p n k) (sort_at b p n j) θ

-- WHAT IS TO BE DONE GIVES THE WHOLE, whatever the map; a pair that holds does so where the table l of pairs is right.
abbrev pub StepIs : List ℕ → List ℕ → ℕ → List ℕ → ℕ → ℕ → Step → Type 0
StepIs b p n l k j Stays = (prm : List ℕ) (θ : Map) → Pairs (MatchedAt b p n prm θ) l → MatchedAt b p n prm θ k j
StepIs b p n l k j Stops = (f : ℕ → Bool) (θ : Map) → none ≡ matches f (sort_at b p n k) (sort_at b p n j) θ
StepIs b p n l k j (Meets v) = (v < 65536) × (sort_at b p n k ≡ var v)
StepIs b p n l k j (Parted x y) = StepParts b p n k j x.at y.at x.count × (y.count ≡ x.count)
