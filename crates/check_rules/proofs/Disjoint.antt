-- Two ranks of one operator that no list of arguments fits both: what it means, and a test that tells most such ranks apart.
-- Definitions only. The test compares the patterns of two ranks in their shortest common length (`patterns` draws a last argument
-- that repeats out to the other's length; a longer list would only repeat the last equation). It is sound; put the answer of
-- unification in the place of `differ_any`, and it is exact for ranks of patterns whose variables stand for any sort.
use Rattle.std.specs.Prelude.{◌≡◌, Bool, true, false, not, ◌&&◌, ◌||◌, eqb}
use Rattle.std.proofs.Math.Option.{some}
use Rattle.record.specs.Sort.{Sort, Sorts, var, par, node, end, ◌then◌, int, real}
use Rattle.check_rules.specs.Forms.{Form, concat, mixed, all_same, insert, tupling, transpose, join, product}
use Rattle.check_rules.specs.Rank.{Rank, rank, computed, stretched, patterns, fit}

-- NO LIST OF ARGUMENT SORTS FITS BOTH.
abbrev pub Disjoint : Rank → Rank → Type 0
Disjoint q r = (ts : Sorts) (s u : Sort) → fit q ts ≡ some s → fit r ts ≡ some u → ⊥

---------------------------------------------------------------- two ranks of patterns
-- Two patterns differ at a node, whatever their variables stand for. The variables of the two sides are apart.
unfoldable mutual
  pub differ : Sort → Sort → Bool
  differ (var v) q = false
  differ (par ns b) q = false
  differ (node k a w ps) (var v) = false
  differ (node k a w ps) (par ns b) = false
  differ (node k a w ps) (node l b x qs) = not (eqb k l && eqb a b && eqb w x) || differ_any ps qs

  pub differ_any : Sorts → Sorts → Bool
  differ_any end end = false
  differ_any end (q then qs) = true
  differ_any (p then ps) end = true
  differ_any (p then ps) (q then qs) = differ p q || differ_any ps qs

---------------------------------------------------------------- a rank of patterns and a form
-- All Int or all Real is not mixed. The other forms stand alone.
abbrev pub unlike : Sorts → Form → Bool
unlike ps concat = false
unlike ps (mixed r) = all_same int ps || all_same real ps
unlike ps insert = false
unlike ps tupling = false
unlike ps transpose = false
unlike ps join = false
unlike ps product = false

---------------------------------------------------------------- the test
unfoldable pub disjoint : Rank → Rank → Bool
unfolding stretched differ all_same
disjoint (rank b v ps p) (rank c w qs q) = differ_any (patterns b ps qs) (patterns c qs ps)
disjoint (rank b v ps p) (computed f) = unlike ps f
disjoint (computed f) (rank c w qs q) = unlike qs f
disjoint (computed f) (computed g) = false
