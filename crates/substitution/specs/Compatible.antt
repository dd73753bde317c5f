-- Sort::is_compatible of src/ast/sort.rs, on all sorts. Definitions only.
use Rattle.std.specs.Prelude.{ℕ, Bool, true, false, ◌&&◌, ◌||◌, eqb}
use Rattle.record.specs.Sort.{Sort, Sorts, var, par, node, end, ◌then◌}
use Rattle.substitution.specs.MatchWith.{param_eq}

-- is_compatible where the left side p is a node of kind k, name a and number w, whose parts are compared by f: a Var on the right
-- fits, a Par on the right is opened, and two nodes fit by param_eq or field by field. Kinds without parts come to the same by their empty lists.
unfoldable pub reach : Sort → ℕ → ℕ → ℕ → (Sorts → Bool) → Sort → Bool
unfolding param_eq
reach p k a w f (var v) = true
reach p k a w f (par us b) = reach p k a w f b
reach p k a w f (node l c x ts) = param_eq p (node l c x ts) || eqb k l && eqb a c && eqb w x && f ts

-- Sort::is_compatible. A Var fits everything, on either side; a Par on the left is opened before one on the right. (A Var on
-- the right is met below every Par on the left, and fits there.)
unfoldable mutual
  unfolding param_eq reach

  pub compatible : Sort → Sort → Bool
  compatible (var v) t = true
  compatible (par us b) t = param_eq (par us b) t || compatible b t
  compatible (node k a w ps) t = reach (node k a w ps) k a w (λ ts. compatible_all ps ts) t

  -- all_compatible: lists of different lengths never fit.
  pub compatible_all : Sorts → Sorts → Bool
  compatible_all end end = true
  compatible_all end (t then ts) = false
  compatible_all (p then ps) end = false
  compatible_all (p then ps) (t then ts) = compatible p t && compatible_all ps ts
