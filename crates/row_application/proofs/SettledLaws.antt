-- Whether every listed name left is bound: a test of every node, by the tables.
use Prim.Native.Nat.{ℕ, zero, suc}
use mathlib.Core.Path.{◌≡◌, refl, sym, ap, ◌∙◌}
use mathlib.Core.Bool.{Bool, not, and-true}
use mathlib.Core.List.{List}
use native.Mathlib.Omega.{arith}
use lib.ListN.{get_or}
use lib.Dec.{eqb}
use borrow.Author.Tests.{ne_eqb}
use Rattle.record.specs.Sort.{Sort, Sorts, end, ◌then◌}
use Rattle.substitution.specs.Substitution.{Map, is_some, bound}
use Rattle.matching_tables.specs.Tables.{Told}
use Rattle.matching_each.specs.Every.{Settled, passing}
use Rattle.matching_each.specs.EveryLaws.{Tests}
use Rattle.apply_walk.specs.Images.{image_at, Images}
use Rattle.row_rules.specs.Lists.{remaining}
use Rattle.check_rules.specs.Checked.{settled, settled_all}

-- A name is bound exactly if its entry is not 0.
some-image : (st : List Sort) (e : ℕ) → is_some (image_at st e) ≡ not (eqb e 0)
some-image st zero = refl
some-image st (suc j) = sym (ap not (ne_eqb (suc j) 0 (λ z. omega arith)))

pub bound-look : {st : List Sort} {l : List ℕ} {θ : Map} → Images st l θ → (v : ℕ) → bound θ v ≡ not (eqb (get_or l v 0) 0)
bound-look {st} {l} {θ} i v = ap is_some (i.look v) ∙ some-image st (get_or l v 0)

-- For every test of names and every map that the tables stand for.
pub settled-tests : {st : List Sort} (prm : List ℕ) {imgs : List ℕ} {f : ℕ → Bool} {θ : Map} → Told prm f → Images st imgs θ
    → Tests (passing Settled prm imgs) (settled f θ) (settled_all f θ)
unfolding settled
settled-tests {st} prm {imgs} {f} {θ} t i =
    record {
      vars = λ v. rw (t v, bound-look i v) refl;
      pars = λ us b. refl;
      nodes = λ k a w ss. refl;
      none = refl;
      more = λ s ss. refl;
    }

---------------------------------------------------------------- what remains of a list is settled as its sorts are
pub settled-remaining : (f : ℕ → Bool) (θ : Map) (ss : Sorts) → settled f θ (remaining ss) ≡ settled_all f θ ss
unfolding settled
settled-remaining f θ end = refl
settled-remaining f θ (s then end) = sym (and-true (settled f θ s))
settled-remaining f θ (s then (r then rs)) = refl
