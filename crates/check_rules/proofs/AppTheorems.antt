-- WHAT A LABORATORY MAY RELY ON OF FUNCTIONS: a parametric function is accepted exactly when some assignment makes its declared
-- argument sorts the actual ones and fixes its result; a plain function exactly when the arguments are the declared sorts; each
-- cause of refusal stands exactly where document 01 puts it.
use Rattle.std.specs.Prelude.{ℕ, zero, suc, ◌<◌, ◌≡◌, ◌↔◌, ◌⊎◌, Bool, true, false, List, [], ◌∷◌, ltb}
use Rattle.std.proofs.Math.Path.{refl, sym, ap}
use Rattle.std.proofs.Common.{◌∙◌, inl, inr, ⊎_elim, true≢false}
use Rattle.std.proofs.Math.Logic.{⊎_map}
use Rattle.std.proofs.lemmas.Bool.{false≢true}
use Rattle.std.proofs.Math.Option.{Option, none, some}
use native.Mathlib.Omega.{arith}
use borrow.Author.Tests.{eqb-true, ltb-true, ltb-false}
use Rattle.record.specs.Sort.{Sort, Sorts, var, par, node, end, ◌then◌, function, count}
use Rattle.record.specs.Cases.{and_left, and_right, conj, and-true, or-second, eqb-self, by_test, by_option, none-some, some_inj, clash}
use Rattle.substitution.specs.Substitution.{Map, empty, find, bound, apply, apply_all, occurs, occurs_any}
use Rattle.substitution.proofs.SubstitutionLaws.{proper-parless, proper_all-parless_all, parless-named, parless_all-named, apply-outside, apply_all-outside}
use Rattle.substitution.specs.Premises.{proper, proper_all, parless, parless_all}
use Rattle.substitution.specs.Matching.{matches_all, Within}
use Rattle.substitution.proofs.MatchingTheorems.{MatchingAll, matching_all}
use Rattle.row_rules.specs.declared.Cause.TheVariants.{Count, Misfit, Unassigned}
use Rattle.row_rules.specs.Verdict.{sort, refused}
use Rattle.row_rules.specs.Lists.{firsts, others}
use Rattle.row_rules.proofs.OutcomeLaws.{refused-sort, sort-inj}
use Rattle.check_rules.proofs.PartTheorems.{each_value-exactly}
use Rattle.check_rules.specs.Fits.{Assigned, rest, Fixed, Applies, Unfixed, one_of}
use Rattle.check_rules.specs.Checked.{carried, values, function_list, settled, settled_all, called, checked_app}
use Rattle.check_rules.proofs.StepsKept.{others-proper, remaining-proper}
use Rattle.check_rules.proofs.FitLaws.{apply-like, sort-refused, other-cause}

---------------------------------------------------------------- laws
pub firsts-proper : (ss ts : Sorts) → proper_all ss ≡ true → proper_all (firsts ss ts) ≡ true
unfolding firsts proper
firsts-proper ss end e = refl
firsts-proper end (t then ts) e = refl
firsts-proper (s then ss) (t then ts) e =
    and-true (proper s) (proper_all (firsts ss ts)) (and_left (proper s) (proper_all ss) e) (firsts-proper ss ts (and_right (proper s) (proper_all ss) e))

-- `settled`, in terms of the names that stand in a sort.
mutual
  unfolding settled occurs parless

  pub settled-all : (l : ℕ → Bool) (m : Map) (s : Sort) (v : ℕ) → parless s ≡ true → settled l m s ≡ true → l v ≡ true → occurs v s ≡ true → bound m v ≡ true
  settled-all l m (var u) v e h i o =
      let q = eqb-true u v o in let j : l u ≡ true = rw q i in let z : bound m u ≡ true = rw j at h in rw q at z
  settled-all l m (par ns b) v e h i o = absurd (false≢true e)
  settled-all l m (node k a w ss) v e h i o = settled_all-all l m ss v e h i o

  pub settled_all-all : (l : ℕ → Bool) (m : Map) (ss : Sorts) (v : ℕ) → parless_all ss ≡ true → settled_all l m ss ≡ true → l v ≡ true → occurs_any v ss ≡ true → bound m v ≡ true
  settled_all-all l m end v e h i o = absurd (false≢true o)
  settled_all-all l m (s then ss) v e h i o =
      by_test (occurs v s)
      (λ q. settled-all l m s v (search conj) (search conj) i q)
      (λ q. settled_all-all l m ss v (search conj) (search conj) i (rw q at o))

mutual
  unfolding settled occurs parless

  pub unsettled : (l : ℕ → Bool) (m : Map) (s : Sort) → parless s ≡ true → settled l m s ≡ false → (v : ℕ) × (l v ≡ true) × (occurs v s ≡ true) × (bound m v ≡ false)
  unsettled l m (var u) e h =
      by_test (l u)
      (λ q. (u, q, eqb-self u, rw q at h))
      (λ q. let z : true ≡ false = rw q at h in absurd (true≢false z))
  unsettled l m (par ns b) e h = absurd (false≢true e)
  unsettled l m (node k a w ss) e h = unsettled_all l m ss e h

  pub unsettled_all : (l : ℕ → Bool) (m : Map) (ss : Sorts) → parless_all ss ≡ true → settled_all l m ss ≡ false → (v : ℕ) × (l v ≡ true) × (occurs_any v ss ≡ true) × (bound m v ≡ false)
  unsettled_all l m end e h = absurd (true≢false h)
  unsettled_all l m (s then ss) e h =
      by_test (settled l m s)
      (λ q. let (v, i, o, b) = unsettled_all l m ss (search conj) (rw q at h) in (v, i, or-second (occurs v s) (occurs_any v ss) o, b))
      (λ q. let (v, i, o, b) = unsettled l m s (search conj) q in (v, i, rw o refl, b))

---------------------------------------------------------------- the verdict `called`
module _ (l : ℕ → Bool) (ss ts : Sorts) (p : proper_all ss ≡ true) where
  pub parless_rest : parless (rest ss ts) ≡ true
  parless_rest = proper-parless (rest ss ts) (remaining-proper (others ss ts) (others-proper ss ts p))

  pub matching_firsts : MatchingAll l (firsts ss ts) ts
  matching_firsts = matching_all l (firsts ss ts) ts (proper_all-parless_all (firsts ss ts) (firsts-proper ss ts p))

  -- Which outcome it is, with what holds there.
  pub by_called : {C : Type 0} → ((count ts < count ss → ⊥) → called l (some ss) ts ≡ refused Count → C)
      → (count ts < count ss → values ts ≡ false → called l (some ss) ts ≡ refused Misfit → C)
      → (count ts < count ss → values ts ≡ true → matches_all l (firsts ss ts) ts empty ≡ none → called l (some ss) ts ≡ refused Misfit → C)
      → ((m : Map) → count ts < count ss → values ts ≡ true → matches_all l (firsts ss ts) ts empty ≡ some m → settled l m (rest ss ts) ≡ false → called l (some ss) ts ≡ refused Unassigned → C)
      → ((m : Map) → count ts < count ss → values ts ≡ true → matches_all l (firsts ss ts) ts empty ≡ some m → settled l m (rest ss ts) ≡ true → called l (some ss) ts ≡ sort (apply m (rest ss ts)) → C)
      → C
  unfolding called
  by_called {C} miscounted parametric misfit unfixed good =
      by_test (ltb (count ts) (count ss))
      (λ a. let few = ltb-true (count ts) (count ss) a in
      by_test (values ts)
      (λ b. by_option (matches_all l (firsts ss ts) ts empty)
      (λ f. misfit few b f (rw (a, b, f) refl))
      (λ m f. by_test (settled l m (rest ss ts))
      (λ c. good m few b f c (rw (a, b, f, c) refl))
      (λ c. unfixed m few b f c (rw (a, b, f, c) refl))))
      (λ b. parametric few b (rw (a, b) refl)))
      (λ a. let many = ltb-false (count ts) (count ss) a in miscounted (λ few. omega arith) (rw a refl))

  -- The map found is an assignment, and every parameter of the result is fixed where it is settled.
  pub found-assigned : (m : Map) → matches_all l (firsts ss ts) ts empty ≡ some m → Assigned l ss ts
  found-assigned m f = let (w, t) = matching_firsts.success m f in record { assignment = m; within = w; turns = t }

  pub settled-fixed : (m : Map) → matches_all l (firsts ss ts) ts empty ≡ some m → settled l m (rest ss ts) ≡ true → Fixed l ss ts
  settled-fixed m f c v i o = (matching_firsts.only m f v (settled-all l m (rest ss ts) v parless_rest c i o)).1

  pub unsettled-unfixed : (m : Map) → matches_all l (firsts ss ts) ts empty ≡ some m → settled l m (rest ss ts) ≡ false
      → (v : ℕ) × (l v ≡ true) × (occurs v (rest ss ts) ≡ true) × (occurs_any v (firsts ss ts) ≡ false)
  unsettled-unfixed m f c =
      let (v, i, o, b) = unsettled l m (rest ss ts) parless_rest c in
      by_test (occurs_any v (firsts ss ts)) (λ q. clash (matching_firsts.binds m f v i q) b) (λ q. (v, i, o, q))

  -- Every assignment gives the result that the map found gives: both make the same of the variables that stand in it.
  pub one-rest : (m : Map) → matches_all l (firsts ss ts) ts empty ≡ some m → Fixed l ss ts → (A : Assigned l ss ts)
      → apply A.assignment (rest ss ts) ≡ apply m (rest ss ts)
  unfolding apply
  one-rest m f x A =
      let θ = A.assignment in
      let (n, g, h) = matching_firsts.found θ A.within A.turns in
      let q : n ≡ m = some_inj (sym g ∙ f) in
      apply-like θ m (rest ss ts) parless_rest (λ v o.
      by_test (l v)
      (λ i. let z : find m v ≡ some (apply θ (var v)) = ap (λ (k : Map). find k v) (sym q) ∙ h v i (x v i o) in rw z refl)
      (λ i. rw (A.within v i, (matching_firsts.success m f).0 v i) refl))

  ---------------------------------------------------------------- the four outcomes of `called`
  pub called-accepted : (s : Sort) → 0 < count ts → called l (some ss) ts ≡ sort s ↔ Applies l ss ts s
  unfolding found-assigned
  called-accepted s any = (
    λ h. by_called
        (λ a e. refused-sort (sym e ∙ h))
        (λ a b e. refused-sort (sym e ∙ h))
        (λ a b f e. refused-sort (sym e ∙ h))
        (λ m a b f c e. refused-sort (sym e ∙ h))
        (λ m a b f c e. record {
          any = any;
          few = a;
          given = (each_value-exactly ts).0 b;
          assigned = found-assigned m f;
          fixed = settled-fixed m f c;
          result = sort-inj (sym e ∙ h);
        }),
    λ A. by_called
        (λ a e. absurd (a A.few))
        (λ a b e. clash ((each_value-exactly ts).1 A.given) b)
        (λ a b f e. absurd (matching_firsts.refusal f A.assigned.assignment A.assigned.within A.assigned.turns))
        (λ m a b f c e. let (v, i, o, q) = unsettled-unfixed m f c in clash (A.fixed v i o) q)
        (λ m a b f c e. e ∙ ap sort (sym (one-rest m f A.fixed A.assigned) ∙ A.result)),
  )

  pub called-unassigned : 0 < count ts → called l (some ss) ts ≡ refused Unassigned ↔ Unfixed l ss ts
  called-unassigned any = (
    λ h. by_called
        (λ a e. other-cause refl (sym e ∙ h))
        (λ a b e. other-cause refl (sym e ∙ h))
        (λ a b f e. other-cause refl (sym e ∙ h))
        (λ m a b f c e. let (v, i, o, q) = unsettled-unfixed m f c in record {
          any = any;
          few = a;
          given = (each_value-exactly ts).0 b;
          assigned = found-assigned m f;
          parameter = v;
          is_listed = i;
          stands = o;
          unassigned = q;
        })
        (λ m a b f c e. sort-refused (sym e ∙ h)),
    λ U. by_called
        (λ a e. absurd (a U.few))
        (λ a b e. clash ((each_value-exactly ts).1 U.given) b)
        (λ a b f e. absurd (matching_firsts.refusal f U.assigned.assignment U.assigned.within U.assigned.turns))
        (λ m a b f c e. e)
        (λ m a b f c e. clash (settled-fixed m f c U.parameter U.is_listed U.stands) U.unassigned),
  )

  pub called-miscounted : called l (some ss) ts ≡ refused Count ↔ (count ts < count ss → ⊥)
  called-miscounted = (
    λ h. by_called
        (λ a e. a)
        (λ a b e. other-cause refl (sym e ∙ h))
        (λ a b f e. other-cause refl (sym e ∙ h))
        (λ m a b f c e. other-cause refl (sym e ∙ h))
        (λ m a b f c e. sort-refused (sym e ∙ h)),
    λ g. by_called
        (λ a e. e)
        (λ a b e. absurd (g a))
        (λ a b f e. absurd (g a))
        (λ m a b f c e. absurd (g a))
        (λ m a b f c e. absurd (g a)),
  )

  pub called-misfit : called l (some ss) ts ≡ refused Misfit ↔ (count ts < count ss) × ((values ts ≡ false) ⊎ (Assigned l ss ts → ⊥))
  called-misfit = (
    λ h. by_called
        (λ a e. other-cause refl (sym e ∙ h))
        (λ a b e. (a, inl b))
        (λ a b f e. (a, inr (λ A. matching_firsts.refusal f A.assignment A.within A.turns)))
        (λ m a b f c e. other-cause refl (sym e ∙ h))
        (λ m a b f c e. sort-refused (sym e ∙ h)),
    λ g. by_called
        (λ a e. absurd (a g.0))
        (λ a b e. e)
        (λ a b f e. e)
        (λ m a b f c e. ⊎_elim (λ v. clash b v) (λ n. absurd (n (found-assigned m f))) g.1)
        (λ m a b f c e. ⊎_elim (λ v. clash b v) (λ n. absurd (n (found-assigned m f))) g.1),
  )

---------------------------------------------------------------- App
-- "With no argument it gets 25 for any head."
pub no-argument : (h : Sort) → checked_app (h then end) ≡ refused Count
unfolding checked_app
no-argument h = refl

-- 26 for a head that is no function, with one argument or more.
pub no-function : (h t : Sort) (ts : Sorts) → function_list h ≡ none → checked_app (h then t then ts) ≡ refused Misfit
unfolding checked_app called
no-function h t ts e = rw e refl

-- A PARAMETRIC FUNCTION IS ACCEPTED with the sort s exactly when it is given at least one argument and fewer than its list has
-- entries, no argument is a Par, and some assignment of its parameters makes its declared argument sorts the actual ones and
-- fixes its result, which is s. (The declared sorts are proper, as those of every Var that a row accepts.)
pub parametric-accepted : (ns : List ℕ) (ss ts : Sorts) (s : Sort) → proper_all ss ≡ true
    → checked_app (par ns (function ss) then ts) ≡ sort s ↔ Applies (one_of ns) ss ts s
unfolding checked_app count
parametric-accepted ns ss end s p = (λ h. refused-sort h, λ A. let z = A.any in absurd (omega arith))
parametric-accepted ns ss (t then ts) s p = called-accepted (one_of ns) ss (t then ts) p s (omega arith)

-- 27 exactly when the arguments fit in the same way and a parameter of the result is not fixed by them.
pub parametric-unassigned : (ns : List ℕ) (ss ts : Sorts) → proper_all ss ≡ true
    → checked_app (par ns (function ss) then ts) ≡ refused Unassigned ↔ Unfixed (one_of ns) ss ts
unfolding checked_app count
parametric-unassigned ns ss end p = (λ h. other-cause refl h, λ U. let z = U.any in absurd (omega arith))
parametric-unassigned ns ss (t then ts) p = called-unassigned (one_of ns) ss (t then ts) p (omega arith)

-- 25 exactly when the count of arguments is not one of 1 to (length − 1).
pub parametric-miscounted : (ns : List ℕ) (ss ts : Sorts) → proper_all ss ≡ true
    → checked_app (par ns (function ss) then ts) ≡ refused Count ↔ ((0 < count ts) × (count ts < count ss) → ⊥)
unfolding checked_app count
parametric-miscounted ns ss end p = (λ h g. let z = g.0 in omega arith, λ g. refl)
parametric-miscounted ns ss (t then ts) p =
    let (f, g) = called-miscounted (one_of ns) ss (t then ts) p in (λ h k. f h k.1, λ n. g (λ few. n (omega arith, few)))

-- 26 exactly when the count is right, and an argument is a Par or no assignment makes the declared sorts the actual ones.
pub parametric-misfit : (ns : List ℕ) (ss ts : Sorts) → proper_all ss ≡ true
    → checked_app (par ns (function ss) then ts) ≡ refused Misfit
    ↔ (0 < count ts) × (count ts < count ss) × ((values ts ≡ false) ⊎ (Assigned (one_of ns) ss ts → ⊥))
unfolding checked_app count
parametric-misfit ns ss end p = (λ h. other-cause refl h, λ g. let z = g.0 in absurd (omega arith))
parametric-misfit ns ss (t then ts) p =
    let (f, g) = called-misfit (one_of ns) ss (t then ts) p in (λ h. let (few, why) = f h in (omega arith, few, why), λ k. g (k.1, k.2))

-- Without parameters an assignment changes nothing.
pub unlisted-still : (θ : Map) (s : Sort) → Within (λ v. false) θ → parless s ≡ true → apply θ s ≡ s
unlisted-still θ s w e = apply-outside θ s (parless-named s e) (λ v r q. none-some (sym (w v refl) ∙ q))

pub unlisted-still_all : (θ : Map) (ss : Sorts) → Within (λ v. false) θ → parless_all ss ≡ true → apply_all θ ss ≡ ss
unlisted-still_all θ ss w e = apply_all-outside θ ss (parless_all-named ss e) (λ v r q. none-some (sym (w v refl) ∙ q))

-- So a function without parameters takes exactly its declared sorts.
pub called-plain : (ss ts : Sorts) (s : Sort) → proper_all ss ≡ true → 0 < count ts
    → called (λ v. false) (some ss) ts ≡ sort s
    ↔ (0 < count ts) × (count ts < count ss) × (values ts ≡ true) × (firsts ss ts ≡ ts) × (rest ss ts ≡ s)
called-plain ss ts s p one =
    let (f, g) = called-accepted (λ v. false) ss ts p s one in
    let q = proper_all-parless_all (firsts ss ts) (firsts-proper ss ts p) in
    let r = parless_rest (λ v. false) ss ts p in
    let still : Within (λ v. false) empty = λ v i. unfold find in refl in (
      λ h. let A = f h in (
        A.any,
        A.few,
        (each_value-exactly ts).1 A.given,
        sym (unlisted-still_all A.assigned.assignment (firsts ss ts) A.assigned.within q) ∙ A.assigned.turns,
        sym (unlisted-still A.assigned.assignment (rest ss ts) A.assigned.within r) ∙ A.result,
      ),
      λ k. let (any, few, given, turns, result) = k in
          g (record {
            any = any;
            few = few;
            given = (each_value-exactly ts).0 given;
            assigned = record { assignment = empty; within = still; turns = unlisted-still_all empty (firsts ss ts) still q ∙ turns };
            fixed = λ v i o. absurd (false≢true i);
            result = unlisted-still empty (rest ss ts) still r ∙ result;
          }),
    )

-- A PLAIN FUNCTION IS ACCEPTED exactly when its arguments are the declared sorts, and gives what its list leaves.
pub plain-accepted : (ss ts : Sorts) (s : Sort) → proper_all ss ≡ true
    → checked_app (function ss then ts) ≡ sort s
    ↔ (0 < count ts) × (count ts < count ss) × (values ts ≡ true) × (firsts ss ts ≡ ts) × (rest ss ts ≡ s)
unfolding checked_app count
plain-accepted ss end s p = (λ h. refused-sort h, λ g. let z = g.0 in absurd (omega arith))
plain-accepted ss (t then ts) s p = called-plain ss (t then ts) s p (omega arith)

-- 25 exactly when the count of arguments is not one of 1 to (length − 1).
pub plain-miscounted : (ss ts : Sorts) → proper_all ss ≡ true
    → checked_app (function ss then ts) ≡ refused Count ↔ ((0 < count ts) × (count ts < count ss) → ⊥)
unfolding checked_app count
plain-miscounted ss end p = (λ h g. let z = g.0 in omega arith, λ g. refl)
plain-miscounted ss (t then ts) p =
    let (f, g) = called-miscounted (λ v. false) ss (t then ts) p in (λ h k. f h k.1, λ n. g (λ few. n (omega arith, few)))

-- 26 exactly when the count is right, and an argument is a Par or the arguments are not the declared sorts.
pub plain-misfit : (ss ts : Sorts) → proper_all ss ≡ true
    → checked_app (function ss then ts) ≡ refused Misfit
    ↔ (0 < count ts) × (count ts < count ss) × ((values ts ≡ false) ⊎ (firsts ss ts ≡ ts → ⊥))
unfolding checked_app count
plain-misfit ss end p = (λ h. other-cause refl h, λ g. let z = g.0 in absurd (omega arith))
plain-misfit ss (t then ts) p =
    let us = t then ts in
    let (f, g) = called-misfit (λ v. false) ss us p in
    let q = proper_all-parless_all (firsts ss us) (firsts-proper ss us p) in
    let still : Within (λ v. false) empty = λ v i. unfold find in refl in
    let there : firsts ss us ≡ us → Assigned (λ v. false) ss us = λ e. record { assignment = empty; within = still; turns = unlisted-still_all empty (firsts ss us) still q ∙ e } in
    let back : Assigned (λ v. false) ss us → firsts ss us ≡ us = λ A. sym (unlisted-still_all A.assignment (firsts ss us) A.within q) ∙ A.turns in (
      λ h. let (few, why) = f h in (omega arith, few, ⊎_map (λ v. v) (λ n e. n (there e)) why),
      λ k. g (k.1, ⊎_map (λ v. v) (λ n A. n (back A)) k.2),
    )

-- And never 27.
pub plain-fixed : (ss ts : Sorts) → proper_all ss ≡ true → checked_app (function ss then ts) ≡ refused Unassigned → ⊥
unfolding checked_app count
plain-fixed ss end p h = other-cause refl h
plain-fixed ss (t then ts) p h = false≢true ((called-unassigned (λ v. false) ss (t then ts) p (omega arith)).0 h).is_listed

-- The premise of these theorems holds of every head that a row accepts: what a Var may carry has a proper list.
pub carried-list : (ns : List ℕ) (ss : Sorts) → carried (par ns (function ss)) ≡ true → proper_all ss ≡ true
unfolding proper
carried-list [] ss c = absurd (false≢true c)
carried-list (n ∷ ns) ss c = c

---------------------------------------------------------------- "A variable in an argument's sort is never the head's parameter."
-- The entry with the number i of a list of sorts.
unfoldable pub entry : Sorts → ℕ → Option Sort
entry end i = none
entry (s then ss) zero = some s
entry (s then ss) (suc i) = entry ss i

-- Where a declared argument sort is a parameter, that parameter is assigned the sort of the argument in its place, as it stands:
-- no name in it is replaced, though it be one of the head's parameters.
pub entry-turned : (θ : Map) (ps ts : Sorts) (i : ℕ) (p t : Sort) → apply_all θ ps ≡ ts → entry ps i ≡ some p → entry ts i ≡ some t → apply θ p ≡ t
unfolding entry apply
entry-turned θ end ts i p t a e f = none-some e
entry-turned θ (q then ps) end i p t a e f = none-some f
entry-turned θ (q then ps) (u then ts) zero p t a e f = let z : apply θ q ≡ u = cc in ap (apply θ) (sym (some_inj e)) ∙ z ∙ some_inj f
entry-turned θ (q then ps) (u then ts) (suc i) p t a e f = let z : apply_all θ ps ≡ ts = cc in entry-turned θ ps ts i p t z e f

pub argument-as-it-stands : (ns : List ℕ) (ss ts : Sorts) (s : Sort) (A : Applies (one_of ns) ss ts s) (i v : ℕ) (t : Sort)
    → entry (firsts ss ts) i ≡ some (var v) → entry ts i ≡ some t → apply A.assigned.assignment (var v) ≡ t
argument-as-it-stands ns ss ts s A i v t e f = entry-turned A.assigned.assignment (firsts ss ts) ts i (var v) t A.assigned.turns e f
