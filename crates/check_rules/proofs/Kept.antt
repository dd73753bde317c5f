-- What one step of the checked verdict keeps between the two routes, and the laws that follow the shape of its definition: one
-- for each `need`, one for each `cond`, one for a result.
use Rattle.std.specs.Prelude.{◌≡◌, refl, Bool, true, false, cond, ◌&&◌}
use Rattle.std.proofs.lemmas.Bool.{false≢true}
use Rattle.record.specs.Sort.{Sort, Sorts, var, par, node, end, ◌then◌}
use Rattle.record.specs.Cases.{conj, and-true}
use Rattle.substitution.specs.Substitution.{Map, apply, apply_all}
use Rattle.substitution.proofs.SubstitutionLaws.{apply_all-proper, proper-clear}
use Rattle.substitution.specs.Premises.{clear, proper, proper_all, proper_map}
use Rattle.row_rules.specs.declared.Cause.{Cause}
use Rattle.row_rules.specs.Verdict.{Verdict, sort, need}
use Rattle.row_rules.specs.Lists.{last_of}
use Rattle.row_rules.proofs.OutcomeLaws.{refused-sort, sort-inj}
use Rattle.check_rules.specs.Checked.{carried, value, values}

---------------------------------------------------------------- what a step keeps
-- The verdict on the replaced side is the replaced sort; and the sort is one that a Var may carry, its parameters untouched.
pub record StepKept (σ : Map) (s : Sort) (v : Verdict) : Type 0 where
  pub moved : v ≡ sort (apply σ s)
  pub carries : carried s ≡ true
  pub clears : clear σ s ≡ true

-- A test that holds on one route holds on the other.
pub need-kept : (σ : Map) (s : Sort) (b b' : Bool) (n : Cause) (v v' : Verdict) → (b ≡ true → b' ≡ true) → (b ≡ true → v ≡ sort s → StepKept σ s v')
    → need b n v ≡ sort s → StepKept σ s (need b' n v')
need-kept σ s true b' n v v' f g e = rw (f refl) (g refl e)
need-kept σ s false b' n v v' f g e = refused-sort e

-- A choice that does not depend on the sorts.
pub cond-kept : (σ : Map) (s : Sort) (b : Bool) (u v u' v' : Verdict) → (u ≡ sort s → StepKept σ s u') → (v ≡ sort s → StepKept σ s v')
    → cond b u v ≡ sort s → StepKept σ s (cond b u' v')
cond-kept σ s true u v u' v' f g e = f e
cond-kept σ s false u v u' v' f g e = g e

-- A proper sort is one that a Var may carry, and has no parameter to touch.
pub proper-carried : (s : Sort) → proper s ≡ true → carried s ≡ true
unfolding proper
proper-carried (var v) e = refl
proper-carried (par ns b) e = absurd (false≢true e)
proper-carried (node k a w ss) e = e

-- A step whose result is proper.
pub kept : (σ : Map) (r s : Sort) (v : Verdict) → proper r ≡ true → v ≡ sort (apply σ r) → sort r ≡ sort s → StepKept σ s v
kept σ r s v p h e =
    rw (← sort-inj e) (record { moved = h; carries = proper-carried r p; clears = proper-clear σ r p })

---------------------------------------------------------------- lists of arguments
-- Every sort of a list is one that a Var may carry; the values among them are proper.
unfoldable pub carried_all : Sorts → Bool
carried_all end = true
carried_all (s then ss) = carried s && carried_all ss

pub carried-value : (s : Sort) → carried s ≡ true → value s ≡ true → proper s ≡ true
unfolding proper
carried-value (var v) c e = refl
carried-value (par ns b) c e = absurd (false≢true e)
carried-value (node k a w ss) c e = c

pub carried-values : (ss : Sorts) → carried_all ss ≡ true → values ss ≡ true → proper_all ss ≡ true
unfolding proper carried_all values
carried-values end c e = refl
carried-values (s then ss) c e =
    and-true (proper s) (proper_all ss) (carried-value s (search conj) (search conj))
    (carried-values ss (search conj) (search conj))

pub proper-value : (s : Sort) → proper s ≡ true → value s ≡ true
unfolding proper
proper-value (var v) e = refl
proper-value (par ns b) e = e
proper-value (node k a w ss) e = refl

pub proper-values : (ss : Sorts) → proper_all ss ≡ true → values ss ≡ true
unfolding proper values
proper-values end e = refl
proper-values (s then ss) e =
    and-true (value s) (values ss) (proper-value s (search conj)) (proper-values ss (search conj))

-- Values stay values, counts stay, and the last of a list is the replaced last.
pub values_moved : (σ : Map) (ss : Sorts) → proper_map σ ≡ true → carried_all ss ≡ true → values ss ≡ true → values (apply_all σ ss) ≡ true
values_moved σ ss e c h = proper-values (apply_all σ ss) (apply_all-proper σ ss e (carried-values ss c h))

pub last_of-moved : (σ : Map) (s : Sort) (ss : Sorts) → last_of (apply σ s) (apply_all σ ss) ≡ apply σ (last_of s ss)
unfolding last_of apply
last_of-moved σ s end = refl
last_of-moved σ s (r then rs) = last_of-moved σ r rs

pub last_of-proper : (s : Sort) (ss : Sorts) → proper s ≡ true → proper_all ss ≡ true → proper (last_of s ss) ≡ true
unfolding last_of proper
last_of-proper s end p q = p
last_of-proper s (r then rs) p q = last_of-proper r rs (search conj) (search conj)
