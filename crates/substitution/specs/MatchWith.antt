-- Sort::match_with and Sort::param_eq of src/ast/sort.rs, on all sorts. Definitions only.
use Rattle.std.specs.Prelude.{ℕ, Bool, false, cond, ◌&&◌, ◌||◌, List, ◌++◌, eqb}
use Rattle.std.proofs.Math.Option.{Option, none, some}
use Rattle.record.specs.Sort.{Sort, Sorts, var, par, node, end, ◌then◌, same}
use Rattle.record.specs.Names.{member, all_members}
use Rattle.substitution.specs.Substitution.{Map, bind, find}
use Rattle.substitution.specs.Matching.{keep, and_then}

-- *self == Sort::ParamBitVec
abbrev pub is_param_bit_vec : Sort → Bool
is_param_bit_vec (var v) = false
is_param_bit_vec (par ns b) = false
is_param_bit_vec (node k a w ss) = eqb k 10

-- Sort::is_bitvec: BitVec of any width, or ParamBitVec.
abbrev pub is_bit_vec : Sort → Bool
is_bit_vec (var v) = false
is_bit_vec (par ns b) = false
is_bit_vec (node k a w ss) = eqb k 9 || eqb k 10

-- Sort::param_eq: equal, or one a ParamBitVec and the other a vector; outermost only.
unfoldable pub param_eq : Sort → Sort → Bool
unfolding same
param_eq s t = same s t || is_param_bit_vec s && is_bit_vec t || is_param_bit_vec t && is_bit_vec s

-- match map.entry(a): Vacant inserts the target, Occupied compares by param_eq and keeps the first image.
abbrev pub meet_with : Option Sort → ℕ → Sort → Map → Option Map
meet_with none v t m = some (bind v t m)
meet_with (some s) v t m = keep (param_eq s t) (some m)

-- match_with where the pattern p is a node of kind k, name a and number w, whose parts are matched by f: the test of equality
-- first, then the target's Pars are opened if all their names are parameters, then kinds and fields are compared and the
-- parts matched, and what is left is decided by param_eq. Kinds without parts come to the same by their empty lists.
unfoldable pub towards : List ℕ → Sort → ℕ → ℕ → ℕ → (Sorts → Map → Option Map) → Sort → Map → Option Map
unfolding same all_members param_eq
towards ns p k a w f (var v) m = none
towards ns p k a w f (par us b) m = keep (all_members us ns) (towards ns p k a w f b m)
towards ns p k a w f (node l c x ts) m =
    cond (same p (node l c x ts)) (some m)
    (cond (eqb k l) (keep (eqb a c && eqb w x) (f ts m)) (keep (param_eq p (node l c x ts)) (some m)))

-- Sort::match_with: parameters, pattern, target, map; `none` where the Rust gives false. Equal sorts match and bind nothing. A
-- variable takes the whole target, a Par too. A Par of the pattern is opened before one of the target, and its names are
-- parameters inside it, while what they were bound to stays in the map.
unfoldable mutual
  unfolding same find member towards param_eq

  pub match_with : List ℕ → Sort → Sort → Map → Option Map
  match_with ns (var v) t m = cond (same (var v) t) (some m) (cond (member v ns) (meet_with (find m v) v t m) none)
  match_with ns (par us b) t m = cond (same (par us b) t) (some m) (match_with (ns ++ us) b t m)
  match_with ns (node k a w ps) t m = towards ns (node k a w ps) k a w (λ ts n. match_all_with ns ps ts n) t m

  -- all_match: lists of different lengths never match.
  pub match_all_with : List ℕ → Sorts → Sorts → Map → Option Map
  match_all_with ns end end m = some m
  match_all_with ns end (t then ts) m = none
  match_all_with ns (p then ps) end m = none
  match_all_with ns (p then ps) (t then ts) m = and_then (match_with ns p t m) (λ n. match_all_with ns ps ts n)
