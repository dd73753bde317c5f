-- Laws of matching, by its induction: what a match means, that a pattern without Par finds each assignment that turns it into the target,
-- what is bound, and that a match stays one under substitution.
use Rattle.std.specs.Prelude.{ℕ, ◌≡◌, refl, Bool, true, false, ◌&&◌, eqb}
use Rattle.std.proofs.Common.{sym, ap, ◌∙◌, true≢false, eqb-true}
use Rattle.std.proofs.lemmas.Bool.{false≢true}
use Rattle.std.proofs.Math.Option.{Option, none, some}
use Rattle.record.specs.Sort.{Sort, Sorts, var, par, node, end, ◌then◌, same}
use Rattle.record.specs.SortLaws.{same-sound, same_refl, same-complete}
use Rattle.record.specs.Cases.{conj, and-true, or_left, or_right, or-second, three, eqb-self, by_test, by_option, none-some, some_inj, clash}
use Rattle.substitution.specs.Substitution.{Map, bind, find, or_else, bound, apply, apply_all, through, occurs, occurs_any}
use Rattle.substitution.specs.Premises.{touches, proper, proper_all, proper_map, parless, parless_all}
use Rattle.substitution.proofs.SubstitutionLaws.{proper-parless, find-untouched, image-untouched, image-proper, find-through, find-through-none}
use Rattle.substitution.specs.Matching.{keep, and_then, meet, matches, matches_all, Within, Keeps}

---------------------------------------------------------------- taking a success apart
pub keep-test : (b : Bool) (o : Option Map) (m : Map) → keep b o ≡ some m → b ≡ true
keep-test true o m e = refl
keep-test false o m e = none-some e

pub keep-rest : (b : Bool) (o : Option Map) (m : Map) → keep b o ≡ some m → o ≡ some m
keep-rest true o m e = e
keep-rest false o m e = none-some e

-- No map comes of none, nor where each map gives none.
pub keep-none : (c : Bool) → keep c none ≡ none
keep-none true = refl
keep-none false = refl

pub and_none : (o : Option Map) (f : Map → Option Map) → ((m : Map) → f m ≡ none) → and_then o f ≡ none
and_none none f h = refl
and_none (some m) f h = h m

-- The middle map of a sequence.
pub and_then-middle : (o : Option Map) (f : Map → Option Map) (m : Map) → and_then o f ≡ some m
    → (n : Map) × (o ≡ some n) × (f n ≡ some m)
and_then-middle none f m e = none-some e
and_then-middle (some n) f m e = (n, refl, e)

---------------------------------------------------------------- what a match means
-- θ gives each name that m binds the sort that m gives it.
abbrev pub Agrees : Map → Map → Type 0
Agrees m θ = (v : ℕ) (s : Sort) → find m v ≡ some s → apply θ (var v) ≡ s

-- The map found holds what was held before.
pub meet-extends : (o : Option Sort) (v : ℕ) (t : Sort) (m m' : Map) → find m v ≡ o → meet o v t m ≡ some m'
    → Keeps m m'
unfolding find
meet-extends none v t m m' q e u s f =
    rw (← some_inj e) (by_test (eqb v u)
    (λ p. let z = eqb-true v u p in let y : none ≡ some s = sym q ∙ rw (← z) at f in none-some y)
    (λ p. rw p f))
meet-extends (some r) v t m m' q e u s f =
    rw (← some_inj (keep-rest (same r t) (some m) m' e)) f

mutual
  unfolding matches

  pub match-extends : (ns : ℕ → Bool) (p t : Sort) (m m' : Map) → matches ns p t m ≡ some m'
      → Keeps m m'
  match-extends ns (var v) t m m' e u s f =
      by_test (ns v)
      (λ q. meet-extends (find m v) v t m m' refl (rw q at e) u s f)
      (λ q. rw (← some_inj (keep-rest (same (var v) t) (some m) m' (rw q at e))) f)
  match-extends ns (par us b) t m m' e u s f = none-some e
  match-extends ns (node k a w ps) (var v) m m' e u s f = none-some e
  match-extends ns (node k a w ps) (par us b) m m' e u s f = none-some e
  match-extends ns (node k a w ps) (node l c x ts) m m' e u s f =
      match_all-extends ns ps ts m m' (keep-rest (eqb k l && eqb a c && eqb w x) (matches_all ns ps ts m) m' e) u s f

  pub match_all-extends : (ns : ℕ → Bool) (ps ts : Sorts) (m m' : Map) → matches_all ns ps ts m ≡ some m'
      → Keeps m m'
  match_all-extends ns end end m m' e u s f = rw (← some_inj e) f
  match_all-extends ns end (t then ts) m m' e u s f = none-some e
  match_all-extends ns (p then ps) end m m' e u s f = none-some e
  match_all-extends ns (p then ps) (t then ts) m m' e u s f =
      let (n, g, h) = and_then-middle (matches ns p t m) (λ n. matches_all ns ps ts n) m' e in
      match_all-extends ns ps ts n m' h u s (match-extends ns p t m n g u s f)

-- Soundness: every assignment that agrees with the map found turns pattern into target. By induction; a part matched earlier stays right,
-- since the map only grows.
pub meet-sound : (o : Option Sort) (v : ℕ) (t : Sort) (m m' θ : Map) → find m v ≡ o → meet o v t m ≡ some m'
    → Agrees m' θ → apply θ (var v) ≡ t
unfolding find
meet-sound none v t m m' θ q e g = g v t (rw (← some_inj e) (rw (eqb-self v) refl))
meet-sound (some r) v t m m' θ q e g =
    g v r (rw (← some_inj (keep-rest (same r t) (some m) m' e)) q) ∙ same-sound r t (keep-test (same r t) (some m) m' e)

mutual
  unfolding matches apply

  pub match-sound : (ns : ℕ → Bool) (p t : Sort) (m m' θ : Map) → matches ns p t m ≡ some m'
      → Within ns θ → Agrees m' θ → apply θ p ≡ t
  match-sound ns (var v) t m m' θ e n g =
      by_test (ns v)
      (λ q. meet-sound (find m v) v t m m' θ refl (rw q at e) g)
      (λ q. rw (n v q) (same-sound (var v) t (keep-test (same (var v) t) (some m) m' (rw q at e))))
  match-sound ns (par us b) t m m' θ e n g = none-some e
  match-sound ns (node k a w ps) (var v) m m' θ e n g = none-some e
  match-sound ns (node k a w ps) (par us b) m m' θ e n g = none-some e
  match-sound ns (node k a w ps) (node l c x ts) m m' θ e n g =
      let (hk, ha, hw) = three (eqb k l) (eqb a c) (eqb w x) (keep-test (eqb k l && eqb a c && eqb w x) (matches_all ns ps ts m) m' e) in
      let zk = eqb-true k l hk in let za = eqb-true a c ha in let zw = eqb-true w x hw in
      let z = match_all-sound ns ps ts m m' θ (keep-rest (eqb k l && eqb a c && eqb w x) (matches_all ns ps ts m) m' e) n g in cc

  pub match_all-sound : (ns : ℕ → Bool) (ps ts : Sorts) (m m' θ : Map) → matches_all ns ps ts m ≡ some m'
      → Within ns θ → Agrees m' θ → apply_all θ ps ≡ ts
  match_all-sound ns end end m m' θ e n g = refl
  match_all-sound ns end (t then ts) m m' θ e n g = none-some e
  match_all-sound ns (p then ps) end m m' θ e n g = none-some e
  match_all-sound ns (p then ps) (t then ts) m m' θ e n g =
      let (k, f, h) = and_then-middle (matches ns p t m) (λ k. matches_all ns ps ts k) m' e in
      let z = match-sound ns p t m k θ f n (λ v s q. g v s (match_all-extends ns ps ts k m' h v s q)) in
      let y = match_all-sound ns ps ts k m' θ h n g in cc

-- Completeness: an assignment that turns pattern into target is found, from every map that it agrees with.
pub agrees-bind : (v : ℕ) (m θ : Map) → Agrees m θ → Agrees (bind v (apply θ (var v)) m) θ
unfolding find
agrees-bind v m θ g u s f =
    by_test (eqb v u)
    (λ q. let y : some (apply θ (var v)) ≡ some s = rw q at f in let z = eqb-true v u q in rw (← z) (some_inj y))
    (λ q. g u s (rw q at f))

mutual
  unfolding matches apply parless

  pub match-complete : (ns : ℕ → Bool) (p : Sort) (m θ : Map) → parless p ≡ true → Within ns θ → Agrees m θ
      → (m' : Map) × (matches ns p (apply θ p) m ≡ some m') × Agrees m' θ
  match-complete ns (var v) m θ e n g =
      by_test (ns v)
      (λ q. by_option (find m v)
      (λ f. (bind v (apply θ (var v)) m, rw (q, f) refl, agrees-bind v m θ g))
      (λ s f. (m, rw (q, f, same-complete s (or_else (find θ v) (var v)) (sym (g v s f))) refl, g)))
      (λ q. (m, rw (q, n v q, same_refl (var v)) refl, g))
  match-complete ns (par us b) m θ e n g = absurd (false≢true e)
  match-complete ns (node k a w ps) m θ e n g =
      let (m', f, h) = match_all-complete ns ps m θ e n g in
      (m', rw (eqb-self k, eqb-self a, eqb-self w) f, h)

  pub match_all-complete : (ns : ℕ → Bool) (ps : Sorts) (m θ : Map) → parless_all ps ≡ true → Within ns θ → Agrees m θ
      → (m' : Map) × (matches_all ns ps (apply_all θ ps) m ≡ some m') × Agrees m' θ
  match_all-complete ns end m θ e n g = (m, refl, g)
  match_all-complete ns (p then ps) m θ e n g =
      let (k, f, h) = match-complete ns p m θ (search conj) n g in
      let (m', f', h') = match_all-complete ns ps k θ (search conj) n h in
      (m', rw f f', h')

-- Only listed names are bound.
mutual
  unfolding matches

  pub match-within : (ns : ℕ → Bool) (p t : Sort) (m m' : Map) → matches ns p t m ≡ some m' → Within ns m → Within ns m'
  match-within ns (var v) t m m' e n =
      by_test (ns v)
      (λ q. by_option (find m v)
      (λ f u h. rw (← some_inj (rw (q, f) at e)) (by_test (eqb v u)
      (λ r. let z : true ≡ false = sym q ∙ rw (← eqb-true v u r) at h in absurd (true≢false z))
      (λ r. rw r (n u h))))
      (λ s f. rw (← some_inj (keep-rest (same s t) (some m) m' (rw (q, f) at e))) n))
      (λ q. rw (← some_inj (keep-rest (same (var v) t) (some m) m' (rw q at e))) n)
  match-within ns (par us b) t m m' e n = none-some e
  match-within ns (node k a w ps) (var v) m m' e n = none-some e
  match-within ns (node k a w ps) (par us b) m m' e n = none-some e
  match-within ns (node k a w ps) (node l c x ts) m m' e n =
      match_all-within ns ps ts m m' (keep-rest (eqb k l && eqb a c && eqb w x) (matches_all ns ps ts m) m' e) n

  pub match_all-within : (ns : ℕ → Bool) (ps ts : Sorts) (m m' : Map) → matches_all ns ps ts m ≡ some m' → Within ns m → Within ns m'
  match_all-within ns end end m m' e n = rw (← some_inj e) n
  match_all-within ns end (t then ts) m m' e n = none-some e
  match_all-within ns (p then ps) end m m' e n = none-some e
  match_all-within ns (p then ps) (t then ts) m m' e n =
      let (k, g, h) = and_then-middle (matches ns p t m) (λ k. matches_all ns ps ts k) m' e in
      match_all-within ns ps ts k m' h (match-within ns p t m k g n)

-- A map agrees with itself.
pub agrees-self : (m : Map) → Agrees m m
unfolding apply
agrees-self m v s f = rw f refl

-- Each listed variable of the pattern is bound.
pub bound-kept : (m m' : Map) (v : ℕ) → Keeps m m' → bound m v ≡ true → bound m' v ≡ true
bound-kept m m' v k b =
    by_option (find m v) (λ q. let z : false ≡ true = rw q at b in absurd (false≢true z)) (λ s q. rw (k v s q) refl)

mutual
  unfolding matches occurs

  pub match-binds : (ns : ℕ → Bool) (p t : Sort) (m m' : Map) (v : ℕ) → matches ns p t m ≡ some m' → ns v ≡ true → occurs v p ≡ true → bound m' v ≡ true
  match-binds ns (var u) t m m' v e h o =
      let z = eqb-true u v o in let hu : ns u ≡ true = rw z h in
      by_option (find m u)
      (λ f. rw (← some_inj (rw (hu, f) at e), ← z) (rw (eqb-self u) refl))
      (λ s f. rw (← some_inj (keep-rest (same s t) (some m) m' (rw (hu, f) at e)), ← z, f) refl)
  match-binds ns (par us b) t m m' v e h o = none-some e
  match-binds ns (node k a w ps) (var u) m m' v e h o = none-some e
  match-binds ns (node k a w ps) (par us b) m m' v e h o = none-some e
  match-binds ns (node k a w ps) (node l c x ts) m m' v e h o =
      match_all-binds ns ps ts m m' v (keep-rest (eqb k l && eqb a c && eqb w x) (matches_all ns ps ts m) m' e) h o

  pub match_all-binds : (ns : ℕ → Bool) (ps ts : Sorts) (m m' : Map) (v : ℕ) → matches_all ns ps ts m ≡ some m' → ns v ≡ true → occurs_any v ps ≡ true → bound m' v ≡ true
  match_all-binds ns end end m m' v e h o = absurd (false≢true o)
  match_all-binds ns end (t then ts) m m' v e h o = none-some e
  match_all-binds ns (p then ps) end m m' v e h o = none-some e
  match_all-binds ns (p then ps) (t then ts) m m' v e h o =
      let (k, g, r) = and_then-middle (matches ns p t m) (λ k. matches_all ns ps ts k) m' e in
      by_test (occurs v p)
      (λ q. bound-kept k m' v (match_all-extends ns ps ts k m' r) (match-binds ns p t m k v g h q))
      (λ q. match_all-binds ns ps ts k m' v r h (rw q at o))

-- A sort without listed variables matches itself, and nothing is bound.
mutual
  unfolding matches occurs parless

  pub match-self : (ns : ℕ → Bool) (s : Sort) (m : Map) → parless s ≡ true
      → ((v : ℕ) → ns v ≡ true → occurs v s ≡ false) → matches ns s s m ≡ some m
  match-self ns (var v) m e h =
      by_test (ns v)
      (λ q. let z : true ≡ false = sym (eqb-self v) ∙ h v q in absurd (true≢false z))
      (λ q. rw (q, same_refl (var v)) refl)
  match-self ns (par us b) m e h = absurd (false≢true e)
  match-self ns (node k a w ss) m e h = rw (eqb-self k, eqb-self a, eqb-self w) (match_all-self ns ss m e h)

  pub match_all-self : (ns : ℕ → Bool) (ss : Sorts) (m : Map) → parless_all ss ≡ true
      → ((v : ℕ) → ns v ≡ true → occurs_any v ss ≡ false) → matches_all ns ss ss m ≡ some m
  match_all-self ns end m e h = refl
  match_all-self ns (s then ss) m e h =
      rw (match-self ns s m (search conj) (λ v q. or_left (occurs v s) (occurs_any v ss) (h v q)))
      (match_all-self ns ss m (search conj) (λ v q. or_right (occurs v s) (occurs_any v ss) (h v q)))

---------------------------------------------------------------- matching under substitution
-- A match stays a match when both sides are put through σ, if σ touches no listed name. By induction; where σ replaces a variable of the
-- pattern that is not listed, the same image stands on both sides and matches itself.
mutual
  unfolding matches apply through

  pub match-moved : (σ : Map) (ns : ℕ → Bool) (p t : Sort) (m m' : Map) → proper_map σ ≡ true
      → ((v : ℕ) → ns v ≡ true → touches σ v ≡ false) → matches ns p t m ≡ some m'
      → matches ns (apply σ p) (apply σ t) (through σ m) ≡ some (through σ m')
  match-moved σ ns (var v) t m m' e d h =
      by_test (ns v)
      (λ q. by_option (find m v)
      (λ f. rw (find-untouched σ v (d v q), q, find-through-none σ m v f, ← some_inj (rw (q, f) at h)) refl)
      (λ s f. let k : keep (same s t) (some m) ≡ some m' = rw (q, f) at h in
      rw (find-untouched σ v (d v q), q, find-through σ m v s f, ← same-sound s t (keep-test (same s t) (some m) m' k), same_refl (apply σ s), some_inj (keep-rest (same s t) (some m) m' k)) refl))
      (λ q. let k : keep (same (var v) t) (some m) ≡ some m' = rw q at h in
      rw (← same-sound (var v) t (keep-test (same (var v) t) (some m) m' k), ← some_inj (keep-rest (same (var v) t) (some m) m' k))
      (by_option (find σ v)
      (λ f. rw (f, q, same_refl (var v)) refl)
      (λ i f. rw f (match-self ns i (through σ m) (proper-parless i (image-proper σ v i e f)) (λ u r. image-untouched σ u v i (d u r) f)))))
  match-moved σ ns (par us b) t m m' e d h = none-some h
  match-moved σ ns (node k a w ps) (var v) m m' e d h = none-some h
  match-moved σ ns (node k a w ps) (par us b) m m' e d h = none-some h
  match-moved σ ns (node k a w ps) (node l c x ts) m m' e d h =
      rw (keep-test (eqb k l && eqb a c && eqb w x) (matches_all ns ps ts m) m' h)
      (match_all-moved σ ns ps ts m m' e d (keep-rest (eqb k l && eqb a c && eqb w x) (matches_all ns ps ts m) m' h))

  pub match_all-moved : (σ : Map) (ns : ℕ → Bool) (ps ts : Sorts) (m m' : Map) → proper_map σ ≡ true
      → ((v : ℕ) → ns v ≡ true → touches σ v ≡ false) → matches_all ns ps ts m ≡ some m'
      → matches_all ns (apply_all σ ps) (apply_all σ ts) (through σ m) ≡ some (through σ m')
  match_all-moved σ ns end end m m' e d h = ap some (ap (through σ) (some_inj h))
  match_all-moved σ ns end (t then ts) m m' e d h = none-some h
  match_all-moved σ ns (p then ps) end m m' e d h = none-some h
  match_all-moved σ ns (p then ps) (t then ts) m m' e d h =
      let (k, g, r) = and_then-middle (matches ns p t m) (λ k. matches_all ns ps ts k) m' h in
      rw (match-moved σ ns p t m k e d g) (match_all-moved σ ns ps ts k m' e d r)

-- A match stays one when only the target is put through σ, any map, if every variable of the pattern is listed.
mutual
  unfolding matches apply through occurs

  pub match-target-moved : (σ : Map) (ns : ℕ → Bool) (p t : Sort) (m m' : Map) → ((v : ℕ) → occurs v p ≡ true → ns v ≡ true)
      → matches ns p t m ≡ some m' → matches ns p (apply σ t) (through σ m) ≡ some (through σ m')
  match-target-moved σ ns (var v) t m m' d h =
      let q = d v (eqb-self v) in
      by_option (find m v)
      (λ f. rw (q, find-through-none σ m v f, ← some_inj (rw (q, f) at h)) refl)
      (λ s f. let k : keep (same s t) (some m) ≡ some m' = rw (q, f) at h in
      rw (q, find-through σ m v s f, ← same-sound s t (keep-test (same s t) (some m) m' k), same_refl (apply σ s), some_inj (keep-rest (same s t) (some m) m' k)) refl)
  match-target-moved σ ns (par us b) t m m' d h = none-some h
  match-target-moved σ ns (node k a w ps) (var v) m m' d h = none-some h
  match-target-moved σ ns (node k a w ps) (par us b) m m' d h = none-some h
  match-target-moved σ ns (node k a w ps) (node l c x ts) m m' d h =
      rw (keep-test (eqb k l && eqb a c && eqb w x) (matches_all ns ps ts m) m' h)
      (match_all-target-moved σ ns ps ts m m' d (keep-rest (eqb k l && eqb a c && eqb w x) (matches_all ns ps ts m) m' h))

  pub match_all-target-moved : (σ : Map) (ns : ℕ → Bool) (ps ts : Sorts) (m m' : Map) → ((v : ℕ) → occurs_any v ps ≡ true → ns v ≡ true)
      → matches_all ns ps ts m ≡ some m' → matches_all ns ps (apply_all σ ts) (through σ m) ≡ some (through σ m')
  match_all-target-moved σ ns end end m m' d h = ap some (ap (through σ) (some_inj h))
  match_all-target-moved σ ns end (t then ts) m m' d h = none-some h
  match_all-target-moved σ ns (p then ps) end m m' d h = none-some h
  match_all-target-moved σ ns (p then ps) (t then ts) m m' d h =
      let (k, g, r) = and_then-middle (matches ns p t m) (λ k. matches_all ns ps ts k) m' h in
      rw (match-target-moved σ ns p t m k (λ v o. d v (rw o refl)) g)
      (match_all-target-moved σ ns ps ts k m' (λ v o. d v (or-second (occurs v p) (occurs_any v ps) o)) r)

-- The map of a match with proper targets is proper.
mutual
  unfolding matches proper proper_map

  pub match-proper : (l : ℕ → Bool) (p t : Sort) (m m' : Map) → proper t ≡ true → proper_map m ≡ true → matches l p t m ≡ some m' → proper_map m' ≡ true
  match-proper l (var v) t m m' e d h =
      by_test (l v)
      (λ q. by_option (find m v)
      (λ f. rw (← some_inj (rw (q, f) at h)) (and-true (proper t) (proper_map m) e d))
      (λ s f. rw (← some_inj (keep-rest (same s t) (some m) m' (rw (q, f) at h))) d))
      (λ q. rw (← some_inj (keep-rest (same (var v) t) (some m) m' (rw q at h))) d)
  match-proper l (par us b) t m m' e d h = none-some h
  match-proper l (node k a w ps) (var v) m m' e d h = none-some h
  match-proper l (node k a w ps) (par us b) m m' e d h = none-some h
  match-proper l (node k a w ps) (node j c x ts) m m' e d h =
      match_all-proper l ps ts m m' (search conj) d (keep-rest (eqb k j && eqb a c && eqb w x) (matches_all l ps ts m) m' h)

  pub match_all-proper : (l : ℕ → Bool) (ps ts : Sorts) (m m' : Map) → proper_all ts ≡ true → proper_map m ≡ true → matches_all l ps ts m ≡ some m' → proper_map m' ≡ true
  match_all-proper l end end m m' e d h = rw (← some_inj h) d
  match_all-proper l end (t then ts) m m' e d h = none-some h
  match_all-proper l (p then ps) end m m' e d h = none-some h
  match_all-proper l (p then ps) (t then ts) m m' e d h =
      let (k, g, r) = and_then-middle (matches l p t m) (λ k. matches_all l ps ts k) m' h in
      match_all-proper l ps ts k m' (search conj) (match-proper l p t m k (search conj) d g) r

-- What a match binds newly is a listed variable of the pattern.
mutual
  unfolding matches occurs

  pub match-only : (ns : ℕ → Bool) (p t : Sort) (m m' : Map) (v : ℕ) → matches ns p t m ≡ some m' → bound m v ≡ false → bound m' v ≡ true
      → (ns v ≡ true) × (occurs v p ≡ true)
  match-only ns (var u) t m m' v e f b =
      by_test (ns u)
      (λ q. by_option (find m u)
      (λ g. let y : some (bind u t m) ≡ some m' = rw (q, g) at e in let z : bound (bind u t m) v ≡ true = ap (λ (n : Map). bound n v) (some_inj y) ∙ b in
      by_test (eqb u v)
      (λ r. (rw (eqb-true u v r) at q, r))
      (λ r. let x : bound m v ≡ true = rw r at z in clash x f))
      (λ s g. let z : bound m v ≡ true = rw (some_inj (keep-rest (same s t) (some m) m' (rw (q, g) at e))) b in clash z f))
      (λ q. let z : bound m v ≡ true = rw (some_inj (keep-rest (same (var u) t) (some m) m' (rw q at e))) b in clash z f)
  match-only ns (par us b) t m m' v e f h = none-some e
  match-only ns (node k a w ps) (var u) m m' v e f b = none-some e
  match-only ns (node k a w ps) (par us c) m m' v e f b = none-some e
  match-only ns (node k a w ps) (node l c x ts) m m' v e f b =
      match_all-only ns ps ts m m' v (keep-rest (eqb k l && eqb a c && eqb w x) (matches_all ns ps ts m) m' e) f b

  pub match_all-only : (ns : ℕ → Bool) (ps ts : Sorts) (m m' : Map) (v : ℕ) → matches_all ns ps ts m ≡ some m' → bound m v ≡ false → bound m' v ≡ true
      → (ns v ≡ true) × (occurs_any v ps ≡ true)
  match_all-only ns end end m m' v e f b = let z : bound m v ≡ true = rw (some_inj e) b in clash z f
  match_all-only ns end (t then ts) m m' v e f b = none-some e
  match_all-only ns (p then ps) end m m' v e f b = none-some e
  match_all-only ns (p then ps) (t then ts) m m' v e f b =
      let (k, g, h) = and_then-middle (matches ns p t m) (λ k. matches_all ns ps ts k) m' e in
      by_test (bound k v)
      (λ q. let (l, o) = match-only ns p t m k v g f q in (l, rw o refl))
      (λ q. let (l, o) = match_all-only ns ps ts k m' v h q b in (l, or-second (occurs v p) (occurs_any v ps) o))
