-- DEMAND 3 ON TREES: checking a term and then replacing its sort variables, or replacing them throughout the term and then
-- checking, give the same sort wherever the first gives one. By induction over the term; StepsKept has each rule.
use Rattle.std.specs.Prelude.{ℕ, ◌≡◌, refl, true, not, ◌&&◌, List, [], ◌∷◌, eqb}
use Rattle.std.proofs.Common.{ap}
use Rattle.std.proofs.lemmas.Bool.{false≢true}
use Rattle.std.proofs.Math.Option.{Option, none, some}
use Rattle.record.specs.Sort.{Sort, Sorts, var, par, node, ◌then◌, int, real, string, reglan, bitvec}
use Rattle.record.specs.Cases.{and_left, and_right, conj, and-true, not-true, none-some, some_inj}
use Rattle.sheet.specs.Sheet.{Binding}
use Rattle.substitution.specs.Substitution.{Map, apply, apply_all}
use Rattle.substitution.proofs.SubstitutionLaws.{apply-proper, left-untouched}
use Rattle.substitution.specs.Premises.{clear, clear_all, proper, proper_map}
use Rattle.row_rules.specs.declared.Cause.TheVariants.{Barred}
use Rattle.row_rules.specs.Verdict.{Verdict, sort, refused}
use Rattle.row_rules.specs.Lists.{binding_sorts}
use Rattle.row_rules.specs.Term.{Site, over_parts, Term, Terms, term, stop, ◌also◌, constant_of, constants_of, besides, verdict_of, verdicts_of}
use Rattle.row_rules.proofs.OutcomeLaws.{refused-sort, sort-inj}
use Rattle.check_rules.specs.Rank.{Rank}
use Rattle.check_rules.specs.Ranks.{smt_lib}
use Rattle.check_rules.proofs.RankSound.{Sound, smt_lib-sound}
use Rattle.check_rules.specs.Checked.{carried, checked, check}
use Rattle.check_rules.specs.Routes.{replace_bindings, replace, replace_all, clear_bindings, clear_term, clear_terms}
use Rattle.check_rules.proofs.Kept.{StepKept, need-kept, cond-kept, kept, carried_all, proper-carried}
use Rattle.check_rules.proofs.StepsKept.{application-kept, operated-kept, binder-kept, letting-kept, indexing-kept, qualified-kept}

---------------------------------------------------------------- one record
-- The record on the second route: its sorts replaced, its numbers and constants as they were.
abbrev pub moved_site : Map → Site → Site
moved_site σ z = record {
  kind = z.kind;
  number = z.number;
  own = apply σ z.own;
  args = apply_all σ z.args;
  bindings = replace_bindings σ z.bindings;
  constants = z.constants;
  indices = z.indices;
}

-- What a Var may carry, it may carry replaced: a Par keeps its names, since none of them is touched.
pub carried-moved : (σ : Map) (s : Sort) → proper_map σ ≡ true → clear σ s ≡ true → carried s ≡ true → carried (apply σ s) ≡ true
unfolding apply proper clear
carried-moved σ (var v) e u c = proper-carried (apply σ (var v)) (apply-proper σ (var v) e refl)
carried-moved σ (par [] b) e u c = absurd (false≢true c)
carried-moved σ (par (n ∷ ns) (var v)) e u c = absurd (false≢true c)
carried-moved σ (par (n ∷ ns) (par ms b)) e u c = absurd (false≢true c)
carried-moved σ (par (n ∷ ns) (node k a w ss)) e u c =
    rw (left-untouched σ (n ∷ ns) (search conj))
    (and-true (eqb k 0) (proper (apply σ (node k a w ss))) (search conj) (apply-proper σ (node k a w ss) e (search conj)))
carried-moved σ (node k a w ss) e u c = apply-proper σ (node k a w ss) e c

pub own-kept : (σ : Map) (o s : Sort) → carried o ≡ true → clear σ o ≡ true → sort o ≡ sort s → StepKept σ s (sort (apply σ o))
own-kept σ o s c u h = rw (← sort-inj h) (record { moved = refl; carries = c; clears = u })

pub bindings-moved : (σ : Map) (bs : List Binding) → binding_sorts (replace_bindings σ bs) ≡ apply_all σ (binding_sorts bs)
unfolding binding_sorts replace_bindings apply
bindings-moved σ [] = refl
bindings-moved σ (b ∷ bs) = ap (apply σ b.sort then◌) (bindings-moved σ bs)

-- THE TWO ROUTES AT ONE RECORD, for every kind of term: by its kind, one law of StepsKept each.
pub checked-kept : (R : ℕ → List Rank) → ((n : ℕ) → Sound (R n)) → (σ : Map) (z : Site) (s : Sort) → proper_map σ ≡ true → clear σ z.own ≡ true
    → carried_all z.args ≡ true → clear_all σ z.args ≡ true → checked R z ≡ sort s → StepKept σ s (checked R (moved_site σ z))
unfolding checked apply
checked-kept R S σ z s e u c d =
    rw (bindings-moved σ z.bindings)
    (cond-kept σ s (eqb z.kind 0) _ _ _ _ (kept σ int s _ refl refl)
    (cond-kept σ s (eqb z.kind 1) _ _ _ _ (kept σ real s _ refl refl)
    (cond-kept σ s (eqb z.kind 2) _ _ _ _ (kept σ string s _ refl refl)
    (cond-kept σ s (eqb z.kind 3) _ _ _ _ (kept σ reglan s _ refl refl)
    (cond-kept σ s (eqb z.kind 4) _ _ _ _
    (need-kept σ s (not (eqb z.number 0)) (not (eqb z.number 0)) Barred _ _ (λ q. q)
    (λ q. kept σ (bitvec z.number) s _ (rw (not-true (eqb z.number 0) q) refl) refl))
    (cond-kept σ s (eqb z.kind 5) _ _ _ _
    (need-kept σ s (carried z.own) (carried (apply σ z.own)) Barred _ _ (carried-moved σ z.own e u)
    (λ q. own-kept σ z.own s q u))
    (cond-kept σ s (eqb z.kind 6) _ _ _ _ (application-kept σ z.args s e c d)
    (cond-kept σ s (eqb z.kind 7) _ _ _ _ (operated-kept R S σ z.number z.args s e c)
    (cond-kept σ s (eqb z.kind 8) _ _ _ _ (binder-kept σ z.number (binding_sorts z.bindings) z.args s e c)
    (cond-kept σ s (eqb z.kind 9) _ _ _ _ (letting-kept σ z.args s e c)
    (cond-kept σ s (eqb z.kind 11) _ _ _ _ (indexing-kept σ z.number z.indices z.args s c)
    (cond-kept σ s (eqb z.kind 12) _ _ _ _ (qualified-kept σ z.number z.own z.args s e)
    refused-sort))))))))))))

---------------------------------------------------------------- terms
-- Replacing changes no integer constant.
pub constant-moved : (σ : Map) (t : Term) → constant_of (replace σ t) ≡ constant_of t
unfolding replace
constant-moved σ (term k a n o ts bs ns is) = refl

pub constants-moved : (σ : Map) (ts : Terms) → constants_of (replace_all σ ts) ≡ constants_of ts
unfolding constants_of replace
constants-moved σ stop = refl
constants-moved σ (t also ts) = rw (constant-moved σ t, constants-moved σ ts) refl

pub record KeptAll (σ : Map) (ss : Sorts) (o : Option Sorts) : Type 0 where
  pub moved : o ≡ some (apply_all σ ss)
  pub carries : carried_all ss ≡ true
  pub clears : clear_all σ ss ≡ true

-- Where a record has a sort, so have all its parts.
pub parts : (J : Site → Verdict) (k n : ℕ) (o : Sort) (bs : List Binding) (cs is : List (Option ℕ)) (a b : Option Sorts) (s : Sort)
    → over_parts J k n o bs cs is a b ≡ sort s
    → (ts : Sorts) × (js : Sorts) × (a ≡ some ts) × (b ≡ some js) × (J (record { kind = k; number = n; own = o; args = ts; bindings = bs; constants = cs; indices = is }) ≡ sort s)
parts J k n o bs cs is none b s e = refused-sort e
parts J k n o bs cs is (some ts) none s e = refused-sort e
parts J k n o bs cs is (some ts) (some js) s e = (ts, js, refl, refl, e)

pub besides-parts : (v : Verdict) (o : Option Sorts) (ss : Sorts) → besides v o ≡ some ss → (r : Sort) × (rs : Sorts) × (v ≡ sort r) × (o ≡ some rs) × (r then rs ≡ ss)
besides-parts (refused n) o ss e = none-some e
besides-parts (sort r) none ss e = none-some e
besides-parts (sort r) (some rs) ss e = (r, rs, refl, refl, some_inj e)

mutual
  unfolding verdict_of replace clear_term carried_all apply clear

  pub verdict-kept : (R : ℕ → List Rank) → ((n : ℕ) → Sound (R n)) → (σ : Map) (t : Term) (s : Sort) → proper_map σ ≡ true → clear_term σ t ≡ true
      → verdict_of (checked R) t ≡ sort s → StepKept σ s (verdict_of (checked R) (replace σ t))
  verdict-kept R S σ (term k a n o ts bs ns is) s e u h =
      let (ss, js, p, q, r) = parts (checked R) k n o bs (constants_of ts) (constants_of is) (verdicts_of (checked R) ts) (verdicts_of (checked R) is) s h in
      let uo = and_left (clear σ o) (clear_bindings σ bs && (clear_terms σ ts && clear_terms σ is)) u in
      let us = and_right (clear_bindings σ bs) (clear_terms σ ts && clear_terms σ is) (search conj) in
      let K = verdicts-kept R S σ ts ss e (search conj) p in
      let J = verdicts-kept R S σ is js e (search conj) q in
      rw (constants-moved σ ts, constants-moved σ is, K.moved, J.moved)
      (checked-kept R S σ (record { kind = k; number = n; own = o; args = ss; bindings = bs; constants = constants_of ts; indices = constants_of is }) s e uo K.carries K.clears r)

  pub verdicts-kept : (R : ℕ → List Rank) → ((n : ℕ) → Sound (R n)) → (σ : Map) (ts : Terms) (ss : Sorts) → proper_map σ ≡ true → clear_terms σ ts ≡ true
      → verdicts_of (checked R) ts ≡ some ss → KeptAll σ ss (verdicts_of (checked R) (replace_all σ ts))
  verdicts-kept R S σ stop ss e u h = rw (← some_inj h) (record { moved = refl; carries = refl; clears = refl })
  verdicts-kept R S σ (t also ts) ss e u h =
      let (r, rs, p, q, z) = besides-parts (verdict_of (checked R) t) (verdicts_of (checked R) ts) ss h in
      let K = verdict-kept R S σ t r e (search conj) p in
      let L = verdicts-kept R S σ ts rs e (search conj) q in
      rw (← z, K.moved, L.moved)
      (record { moved = refl; carries = and-true (carried r) (carried_all rs) K.carries L.carries; clears = and-true (clear σ r) (clear_all σ rs) K.clears L.clears })

-- DEMAND 3, for every term, every map and all sound ranks: "if the first gives a sort, so does the second, and it is the same
-- one." `proper_map`: replacements hold no parametric, unknown-width, zero-width or Type sort. `clear_term`: replaced names, and
-- names inside replacements, are no parametric sort's parameters. Limits (22, 23) belong to sheets: trees have none.
pub routes : (R : ℕ → List Rank) → ((n : ℕ) → Sound (R n)) → (σ : Map) (t : Term) (s : Sort) → proper_map σ ≡ true → clear_term σ t ≡ true
    → check R t ≡ sort s → check R (replace σ t) ≡ sort (apply σ s)
unfolding check
routes R S σ t s e u h = (verdict-kept R S σ t s e u h).moved

-- And so for the ranks of the table.
pub routes-smt_lib : (σ : Map) (t : Term) (s : Sort) → proper_map σ ≡ true → clear_term σ t ≡ true
    → check smt_lib t ≡ sort s → check smt_lib (replace σ t) ≡ sort (apply σ s)
routes-smt_lib = routes smt_lib smt_lib-sound
