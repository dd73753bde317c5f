-- THE TEST SAYS EXACTLY WHAT THE RELATION SAYS: a term passes it exactly where it abstracts the other.
use Rattle.std.specs.Prelude.{ℕ, ◌≡◌, refl, Bool, true, false, ◌&&◌, List, [], ◌∷◌, ◌↔◌, eqb}
use Rattle.std.proofs.Common.{ap, ap₂}
use Rattle.std.proofs.Math.Path.{subst}
use Rattle.std.proofs.lemmas.Bool.{false≢true}
use Rattle.std.proofs.Math.Option.{Option, none, some}
use borrow.Author.Tests.{eqb-true}
use Rattle.record.specs.Sort.{Sort, same_names, same}
use Rattle.record.specs.SortLaws.{same_names-sound, same_names-refl, same-sound, same_refl}
use Rattle.record.specs.Cases.{and_left, and_right, and-true, or_cases, or-first, or-second, eqb-self}
use Rattle.sheet.specs.Sheet.{Binding}
use Rattle.row_rules.specs.Verdict.{Verdict, sort, refused}
use Rattle.row_rules.specs.Term.{Site, Term, Terms, term, stop, ◌also◌, constants_of, verdict_of}
use Rattle.abstraction.specs.Abstraction.{stand_in, reads_arguments, reads_indices, Abstracts, part, inside, AbstractsEach, none_left, one_more}
use Rattle.abstraction.specs.AbstractionTest.{same_bindings, same_fields, same_constant, same_constants, keeps_constants, no_terms, no_bindings, no_numbers, stands_in, abstracted, abstracted_each}

---------------------------------------------------------------- fields
pub bindings-sound : (bs cs : List Binding) → same_bindings bs cs ≡ true → bs ≡ cs
unfolding same_bindings
bindings-sound [] [] e = refl
bindings-sound [] (c ∷ cs) e = absurd (false≢true e)
bindings-sound (b ∷ bs) [] e = absurd (false≢true e)
bindings-sound (b ∷ bs) (c ∷ cs) e =
    let f = and_right (eqb b.name c.name) (same b.sort c.sort && same_bindings bs cs) e in
    let x = eqb-true b.name c.name (and_left (eqb b.name c.name) (same b.sort c.sort && same_bindings bs cs) e) in
    let y = same-sound b.sort c.sort (and_left (same b.sort c.sort) (same_bindings bs cs) f) in
    let z = bindings-sound bs cs (and_right (same b.sort c.sort) (same_bindings bs cs) f) in
    ap₂ (λ (h : Binding) (t : List Binding). h ∷ t) (ap₂ (λ (i : ℕ) (s : Sort). record { name = i; sort = s }) x y) z

pub bindings-self : (bs : List Binding) → same_bindings bs bs ≡ true
unfolding same_bindings
bindings-self [] = refl
bindings-self (b ∷ bs) = simp (eqb-self, same_refl b.sort, bindings-self bs)

pub constants-sound : (xs ys : List (Option ℕ)) → same_constants xs ys ≡ true → xs ≡ ys
unfolding same_constants
constants-sound [] [] e = refl
constants-sound [] (y ∷ ys) e = absurd (false≢true e)
constants-sound (x ∷ xs) [] e = absurd (false≢true e)
constants-sound (x ∷ xs) (y ∷ ys) e =
    ap₂ (λ (h : Option ℕ) (t : List (Option ℕ)). h ∷ t) (one x y (and_left (same_constant x y) (same_constants xs ys) e))
    (constants-sound xs ys (and_right (same_constant x y) (same_constants xs ys) e))
  where
    one : (x y : Option ℕ) → same_constant x y ≡ true → x ≡ y
    one none none e = refl
    one none (some j) e = absurd (false≢true e)
    one (some i) none e = absurd (false≢true e)
    one (some i) (some j) e = ap some (eqb-true i j e)

pub constants-self : (xs : List (Option ℕ)) → same_constants xs xs ≡ true
unfolding same_constants
constants-self [] = refl
constants-self (x ∷ xs) = and-true (same_constant x x) (same_constants xs xs) (one x) (constants-self xs)
  where
    one : (x : Option ℕ) → same_constant x x ≡ true
    one none = refl
    one (some i) = eqb-self i

-- The test of constants holds exactly where they are the same if they are looked at.
pub keeps-exactly : (reads : Bool) (xs ys : List (Option ℕ)) → (keeps_constants reads xs ys ≡ true) ↔ (reads ≡ true → xs ≡ ys)
unfolding keeps_constants
keeps-exactly true xs ys = (λ e q. constants-sound xs ys e, λ h. subst (λ (zs : List (Option ℕ)). same_constants xs zs ≡ true) (h refl) (constants-self xs))
keeps-exactly false xs ys = (λ e q. absurd (false≢true q), λ h. refl)

-- What two records with the same fields have in common.
pub record SameFields (k a n : ℕ) (o : Sort) (bs : List Binding) (ns : List ℕ) (l b m : ℕ) (p : Sort) (cs : List Binding) (ms : List ℕ) : Type 0 where
  pub kinds : k ≡ l
  pub called : a ≡ b
  pub numbers : n ≡ m
  pub owns : o ≡ p
  pub bound : bs ≡ cs
  pub named : ns ≡ ms

pub fields-sound : (k a n : ℕ) (o : Sort) (bs : List Binding) (ns : List ℕ) (l b m : ℕ) (p : Sort) (cs : List Binding) (ms : List ℕ)
    → same_fields k a n o bs ns l b m p cs ms ≡ true → SameFields k a n o bs ns l b m p cs ms
unfolding same_fields
fields-sound k a n o bs ns l b m p cs ms e =
    let e1 = and_right (eqb k l) (eqb a b && (eqb n m && (same o p && (same_bindings bs cs && same_names ns ms)))) e in
    let e2 = and_right (eqb a b) (eqb n m && (same o p && (same_bindings bs cs && same_names ns ms))) e1 in
    let e3 = and_right (eqb n m) (same o p && (same_bindings bs cs && same_names ns ms)) e2 in
    let e4 = and_right (same o p) (same_bindings bs cs && same_names ns ms) e3 in
    record {
      kinds = eqb-true k l (and_left (eqb k l) _ e);
      called = eqb-true a b (and_left (eqb a b) _ e1);
      numbers = eqb-true n m (and_left (eqb n m) _ e2);
      owns = same-sound o p (and_left (same o p) _ e3);
      bound = bindings-sound bs cs (and_left (same_bindings bs cs) (same_names ns ms) e4);
      named = same_names-sound ns ms (and_right (same_bindings bs cs) (same_names ns ms) e4);
    }

pub fields-self : (k a n : ℕ) (o : Sort) (bs : List Binding) (ns : List ℕ) → same_fields k a n o bs ns k a n o bs ns ≡ true
unfolding same_fields
fields-self k a n o bs ns = simp (eqb-self, same_refl o, bindings-self bs, same_names-refl ns)

---------------------------------------------------------------- a Var that stands for a part
no-terms : (ts : Terms) → no_terms ts ≡ true → stop ≡ ts
no-terms stop e = refl
no-terms (t also ts) e = absurd (false≢true e)

pub no-bindings : (bs : List Binding) → no_bindings bs ≡ true → [] ≡ bs
no-bindings [] e = refl
no-bindings (b ∷ bs) e = absurd (false≢true e)

pub no-numbers : (ns : List ℕ) → no_numbers ns ≡ true → [] ≡ ns
no-numbers [] e = refl
no-numbers (n ∷ ns) e = absurd (false≢true e)

module _ (J : Site → Verdict) (column : ℕ) where
  stands-sound : (t u : Term) (v : Verdict) → verdict_of J t ≡ v → stands_in v u ≡ true → Abstracts J column t u
  unfolding stands_in
  stands-sound t u (refused c) h e = absurd (false≢true e)
  stands-sound t (term k a n o ts bs ns is) (sort s) h e =
      let e1 = and_right (eqb k 5) (eqb n 0 && (same o s && (no_terms ts && (no_bindings bs && (no_numbers ns && no_terms is))))) e in
      let e2 = and_right (eqb n 0) (same o s && (no_terms ts && (no_bindings bs && (no_numbers ns && no_terms is)))) e1 in
      let e3 = and_right (same o s) (no_terms ts && (no_bindings bs && (no_numbers ns && no_terms is))) e2 in
      let e4 = and_right (no_terms ts) (no_bindings bs && (no_numbers ns && no_terms is)) e3 in
      let e5 = and_right (no_bindings bs) (no_numbers ns && no_terms is) e4 in
      let xk = eqb-true k 5 (and_left (eqb k 5) _ e) in
      let xn = eqb-true n 0 (and_left (eqb n 0) _ e1) in
      let xo = same-sound o s (and_left (same o s) _ e2) in
      let xt = no-terms ts (and_left (no_terms ts) _ e3) in
      let xb = no-bindings bs (and_left (no_bindings bs) _ e4) in
      let xs = no-numbers ns (and_left (no_numbers ns) (no_terms is) e5) in
      let xi = no-terms is (and_right (no_numbers ns) (no_terms is) e5) in
      let same-term : stand_in a s ≡ term k a n o ts bs ns is = cc in
      subst (λ (u : Term). Abstracts J column t u) same-term (part a s (record { has = h }))

  mutual
    unfolding abstracted

    pub abstracted-sound : (t u : Term) → abstracted J column t u ≡ true → Abstracts J column t u
    abstracted-sound (term k a n o ts bs ns is) (term l b m p us cs ms js) e =
        or_cases (stands_in (verdict_of J (term k a n o ts bs ns is)) (term l b m p us cs ms js)) _ e
        (λ q. stands-sound (term k a n o ts bs ns is) (term l b m p us cs ms js) (verdict_of J (term k a n o ts bs ns is)) refl q)
        (λ q.
        let x = keeps_constants (reads_arguments column k n) (constants_of ts) (constants_of us) in
        let y = keeps_constants (reads_indices k) (constants_of is) (constants_of js) in
        let q1 = and_right (same_fields k a n o bs ns l b m p cs ms) (abstracted_each J column ts us && (abstracted_each J column is js && (x && y))) q in
        let q2 = and_right (abstracted_each J column ts us) (abstracted_each J column is js && (x && y)) q1 in
        let q3 = and_right (abstracted_each J column is js) (x && y) q2 in
        let F = fields-sound k a n o bs ns l b m p cs ms (and_left (same_fields k a n o bs ns l b m p cs ms) _ q) in
        let fk = F.kinds in
        let fa = F.called in
        let fn = F.numbers in
        let fo = F.owns in
        let fb = F.bound in
        let fm = F.named in
        let same-term : term k a n o us bs ns js ≡ term l b m p us cs ms js = cc in
        subst (λ (u : Term). Abstracts J column (term k a n o ts bs ns is) u) same-term
        (inside (each-sound ts us (and_left (abstracted_each J column ts us) _ q1)) (each-sound is js (and_left (abstracted_each J column is js) _ q2))
        ((keeps-exactly (reads_arguments column k n) (constants_of ts) (constants_of us)).0 (and_left x y q3))
        ((keeps-exactly (reads_indices k) (constants_of is) (constants_of js)).0 (and_right x y q3))))

    pub each-sound : (ts us : Terms) → abstracted_each J column ts us ≡ true → AbstractsEach J column ts us
    each-sound stop stop e = none_left
    each-sound stop (u also us) e = absurd (false≢true e)
    each-sound (t also ts) stop e = absurd (false≢true e)
    each-sound (t also ts) (u also us) e =
        one_more (abstracted-sound t u (and_left (abstracted J column t u) (abstracted_each J column ts us) e))
        (each-sound ts us (and_right (abstracted J column t u) (abstracted_each J column ts us) e))

  stands-complete : (t : Term) (a : ℕ) (s : Sort) → verdict_of J t ≡ sort s → abstracted J column t (stand_in a s) ≡ true
  unfolding abstracted stands_in
  stands-complete (term k b n o ts bs ns is) a s h = or-first (stands_in (verdict_of J (term k b n o ts bs ns is)) (stand_in a s)) _ (rw h (rw (same_refl s) refl))

  mutual
    unfolding abstracted

    pub abstracted-complete : {t u : Term} → Abstracts J column t u → abstracted J column t u ≡ true
    abstracted-complete {t} (part a s h) = stands-complete t a s h.has
    abstracted-complete (inside {k = k} {a = a} {n = n} {o = o} {ts = ts} {us = us} {is = is} {js = js} {bs = bs} {ns = ns} f g h i) =
        or-second (stands_in (verdict_of J (term k a n o ts bs ns is)) (term k a n o us bs ns js)) _
        (and-true (same_fields k a n o bs ns k a n o bs ns) _ (fields-self k a n o bs ns)
        (and-true (abstracted_each J column ts us) _ (each-complete f)
        (and-true (abstracted_each J column is js) _ (each-complete g)
        (and-true (keeps_constants (reads_arguments column k n) (constants_of ts) (constants_of us)) _
        ((keeps-exactly (reads_arguments column k n) (constants_of ts) (constants_of us)).1 h)
        ((keeps-exactly (reads_indices k) (constants_of is) (constants_of js)).1 i)))))

    pub each-complete : {ts us : Terms} → AbstractsEach J column ts us → abstracted_each J column ts us ≡ true
    each-complete none_left = refl
    each-complete (one_more {t} {u} {ts} {us} f g) = and-true (abstracted J column t u) (abstracted_each J column ts us) (abstracted-complete f) (each-complete g)

-- THE TEST IS THE RELATION.
pub abstracted-exactly : (J : Site → Verdict) (column : ℕ) (t u : Term) → (abstracted J column t u ≡ true) ↔ Abstracts J column t u
abstracted-exactly J column t u = (abstracted-sound J column t u, abstracted-complete J column)
