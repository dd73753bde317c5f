-- What is_compatible does with two sorts, by their entries. Definitions only.
use Rattle.std.specs.Prelude.{ℕ, ◌+◌, ◌<◌, ◌≡◌, true, false, List}
use Rattle.record.specs.Sort.{size, sizes}
use Rattle.record.specs.Decode.{sort_at}
use Rattle.substitution.specs.Compatible.{compatible, compatible_all}
use Rattle.matching_tables.specs.Usable.{sorts_at, PairAsks, PairsAsk}
use Rattle.matching_with.specs.declared.compatible.Compared.{Compared}
use Rattle.matching_with.specs.declared.compatible.Compared.TheVariants.{Holds, Fails, On, Parts}

-- The pair k, j is compatible if the smaller pair i, l is.
pub record FitOn (b p : List ℕ) (n k j i l : ℕ) : Type 0 where
  pub asks : PairAsks b p n i l
  pub falls : size (sort_at b p n i) + size (sort_at b p n l) < size (sort_at b p n k) + size (sort_at b p n j)
  pub whole : compatible (sort_at b p n i) (sort_at b p n l) ≡ compatible (sort_at b p n k) (sort_at b p n j)

-- It is if the c parts at x are, one by one, with those at y.
pub record FitParts (b p : List ℕ) (n k j x y c : ℕ) : Type 0 where
  pub some : 0 < c
  pub asks : PairsAsk b p n b x b y c
  pub falls : sizes (sorts_at b p n b x c) + sizes (sorts_at b p n b y c) < size (sort_at b p n k) + size (sort_at b p n j)
  pub whole : compatible_all (sorts_at b p n b x c) (sorts_at b p n b y c) ≡ compatible (sort_at b p n k) (sort_at b p n j)

-- WHAT IS TO BE DONE GIVES THE WHOLE.
abbrev pub CompatibleIs : List ℕ → List ℕ → ℕ → ℕ → ℕ → Compared → Type 0
CompatibleIs b p n k j Holds = true ≡ compatible (sort_at b p n k) (sort_at b p n j)
CompatibleIs b p n k j Fails = false ≡ compatible (sort_at b p n k) (sort_at b p n j)
CompatibleIs b p n k j (On i l) = FitOn b p n k j i l
CompatibleIs b p n k j (Parts x y) = FitParts b p n k j x.at y.at x.count × (y.count ≡ x.count)
