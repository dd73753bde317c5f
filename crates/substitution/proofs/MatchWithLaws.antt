-- Under matching's premise match_with is matching by the definition, so what is proved of that holds of match_with.
use Rattle.std.specs.Prelude.{ℕ, ◌≡◌, refl, Bool, true, false, not, cond, ◌&&◌, ◌||◌, List, ◌++◌, eqb}
use Rattle.std.proofs.Common.{sym, subst, ◌∙◌, true≢false}
use Rattle.std.proofs.lemmas.Bool.{false≢true}
use Rattle.std.proofs.Math.Option.{Option, none, some}
use Rattle.record.specs.Sort.{Sort, Sorts, var, par, node, end, ◌then◌, kind_of, same}
use Rattle.record.specs.SortLaws.{same-sound, same_refl}
use Rattle.record.specs.Cases.{and_left, and_right, and-true, or_left, or_right, not-true, three, eqb-self, by_test, by_option, none-some, some_inj}
use Rattle.record.specs.Names.{member, all_members}
use Rattle.substitution.specs.Substitution.{Map, empty, bind, find, occurs, occurs_any}
use Rattle.substitution.specs.Matching.{keep, meet, matches, matches_all, Within, listed_in, known, known_all, unlisted, unlisted_all, premise}
use Rattle.substitution.proofs.MatchingLaws.{keep-rest, and_then-middle, match-self}
use Rattle.substitution.proofs.PremiseLaws.{known-parless, known_all-parless, unlisted-free, unlisted_all-free}
use Rattle.substitution.proofs.MatchingTheorems.{MatchingFrom, MatchingAllFrom, matching_all-from, matching-premise-from, Matching, MatchingAll, matching-premise, matching_all}
use Rattle.substitution.specs.MatchWith.{is_param_bit_vec, is_bit_vec, param_eq, meet_with, match_with, match_all_with}

---------------------------------------------------------------- param_eq
-- Its two tests look at the kind.
pub param-kind : (s : Sort) → is_param_bit_vec s ≡ eqb (kind_of s) 10
param-kind (var v) = refl
param-kind (par ns b) = refl
param-kind (node k a w ss) = refl

pub vector-kind : (s : Sort) → is_bit_vec s ≡ (eqb (kind_of s) 9 || eqb (kind_of s) 10)
vector-kind (var v) = refl
vector-kind (par ns b) = refl
vector-kind (node k a w ss) = refl

-- Without ParamBitVec it is equality.
pub known-width : (s : Sort) → known s ≡ true → is_param_bit_vec s ≡ false
unfolding known
known-width (var v) e = refl
known-width (par ns b) e = refl
known-width (node k a w ss) e = not-true (eqb k 10) (and_left (not (eqb k 10)) (known_all ss) e)

pub known-param_eq : (s t : Sort) → known s ≡ true → known t ≡ true → param_eq s t ≡ same s t
unfolding param_eq
known-param_eq s t p q =
    rw (known-width s p, known-width t q) (by_test (same s t) (λ r. rw r refl) (λ r. rw r refl))

-- Every image of a map is without Par and ParamBitVec, as those bound to parts of the target are.
unfoldable pub known_map : Map → Bool
unfolding known
known_map empty = true
known_map (bind v s m) = known s && known_map m

pub known-found : (m : Map) (v : ℕ) (s : Sort) → known_map m ≡ true → find m v ≡ some s → known s ≡ true
unfolding find known_map
known-found empty v s e f = none-some f
known-found (bind u r m) v s e f =
    by_test (eqb u v)
    (λ q. let g : some r ≡ some s = rw q at f in rw (← some_inj g) (and_left (known r) (known_map m) e))
    (λ q. known-found m v s (and_right (known r) (known_map m) e) (rw q at f))

pub meet-known : (o : Option Sort) (v : ℕ) (t : Sort) (m m' : Map) → known t ≡ true → known_map m ≡ true → meet o v t m ≡ some m' → known_map m' ≡ true
unfolding known_map
meet-known none v t m m' p e h = rw (← some_inj h) (and-true (known t) (known_map m) p e)
meet-known (some s) v t m m' p e h = rw (← some_inj (keep-rest (same s t) (some m) m' h)) e

mutual
  unfolding matches known

  pub match-known : (l : ℕ → Bool) (p t : Sort) (m m' : Map) → known t ≡ true → known_map m ≡ true → matches l p t m ≡ some m' → known_map m' ≡ true
  match-known l (var v) t m m' q e h =
      by_test (l v)
      (λ r. meet-known (find m v) v t m m' q e (rw r at h))
      (λ r. rw (← some_inj (keep-rest (same (var v) t) (some m) m' (rw r at h))) e)
  match-known l (par us b) t m m' q e h = none-some h
  match-known l (node k a w ps) (var v) m m' q e h = none-some h
  match-known l (node k a w ps) (par us b) m m' q e h = none-some h
  match-known l (node k a w ps) (node j c x ts) m m' q e h =
      match_all-known l ps ts m m' (and_right (not (eqb j 10)) (known_all ts) q) e (keep-rest (eqb k j && eqb a c && eqb w x) (matches_all l ps ts m) m' h)

  pub match_all-known : (l : ℕ → Bool) (ps ts : Sorts) (m m' : Map) → known_all ts ≡ true → known_map m ≡ true → matches_all l ps ts m ≡ some m' → known_map m' ≡ true
  match_all-known l end end m m' q e h = rw (← some_inj h) e
  match_all-known l end (t then ts) m m' q e h = none-some h
  match_all-known l (p then ps) end m m' q e h = none-some h
  match_all-known l (p then ps) (t then ts) m m' q e h =
      let (k, g, r) = and_then-middle (matches l p t m) (λ k. matches_all l ps ts k) m' h in
      match_all-known l ps ts k m' (and_right (known t) (known_all ts) q) (match-known l p t m k (and_left (known t) (known_all ts) q) e g) r

---------------------------------------------------------------- match_with line by line
-- What match_with does with two sorts that are not equal, arm by arm as the Rust tests and matches on the pair.
abbrev pub match_arms : List ℕ → Sort → Sort → Map → Option Map
match_arms ns (var v) t m = cond (member v ns) (meet_with (find m v) v t m) none
match_arms ns (par us b) t m = match_with (ns ++ us) b t m
match_arms ns (node k a w ps) (var v) m = keep (param_eq (node k a w ps) (var v)) (some m)
match_arms ns (node k a w ps) (par us b) m = keep (all_members us ns) (match_with ns (node k a w ps) b m)
match_arms ns (node k a w ps) (node l c x ts) m =
    cond (eqb k l) (keep (eqb a c && eqb w x) (match_all_with ns ps ts m)) (keep (param_eq (node k a w ps) (node l c x ts)) (some m))

-- Equality first, then the arms: the definition says the same, in an order that goes down one side at a time.
pub match_with-is : (ns : List ℕ) (p t : Sort) (m : Map) → match_with ns p t m ≡ cond (same p t) (some m) (match_arms ns p t m)
unfolding match_with
match_with-is ns (var v) t m = refl
match_with-is ns (par us b) t m = refl
match_with-is ns (node k a w ps) (var v) m = by_test (eqb k 10) (λ q. rw q refl) (λ q. rw q refl)
match_with-is ns (node k a w ps) (par us b) m = refl
match_with-is ns (node k a w ps) (node l c x ts) m = refl

---------------------------------------------------------------- match_with and the definition
-- Equal sorts match, and nothing is bound: the first test of match_with, on all sorts.
pub match_with-equal : (ns : List ℕ) (s : Sort) (m : Map) → match_with ns s s m ≡ some m
unfolding match_with
match_with-equal ns (var v) m = rw (same_refl (var v)) refl
match_with-equal ns (par us b) m = rw (same_refl (par us b)) refl
match_with-equal ns (node k a w ss) m = rw (same_refl (node k a w ss)) refl

-- Under the premise match_with is matching by the definition. Both go down together; where match_with stops at two equal
-- sorts, matching goes on and binds nothing (`match-self`), since no listed name stands in the target.
mutual
  unfolding match_with matches known occurs

  pub with-is : (ns : List ℕ) (p t : Sort) (m : Map) → known p ≡ true → known t ≡ true → known_map m ≡ true
      → ((v : ℕ) → member v ns ≡ true → occurs v t ≡ false) → match_with ns p t m ≡ matches (listed_in ns) p t m
  with-is ns (var v) t m e q d f =
      by_test (same (var v) t)
      (λ r. let z = same-sound (var v) t r in
      by_test (member v ns)
      (λ i. let y : true ≡ false = sym (eqb-self v) ∙ rw (← z) at (f v i) in absurd (true≢false y))
      (λ i. rw (r, i) refl))
      (λ r. by_test (member v ns)
      (λ i. by_option (find m v)
      (λ g. rw (r, i, g) refl)
      (λ s g. rw (r, i, g, known-param_eq s t (known-found m v s d g) q) refl))
      (λ i. rw (r, i) refl))
  with-is ns (par us b) t m e q d f = absurd (false≢true e)
  with-is ns (node k a w ps) (var v) m e q d f = refl
  with-is ns (node k a w ps) (par us b) m e q d f = absurd (false≢true q)
  with-is ns (node k a w ps) (node l c x ts) m e q d f =
      by_test (same (node k a w ps) (node l c x ts))
      (λ r. let z = same-sound (node k a w ps) (node l c x ts) r in
      rw r (sym (subst (λ (u : Sort). matches (listed_in ns) u (node l c x ts) m ≡ some m) (sym z)
      (match-self (listed_in ns) (node l c x ts) m (known-parless (node l c x ts) q) f))))
      (λ r. by_test (eqb k l)
      (λ i. rw (r, i, with_all-is ns ps ts m (and_right (not (eqb k 10)) (known_all ps) e) (and_right (not (eqb l 10)) (known_all ts) q) d f) refl)
      (λ i. rw (r, i, known-width (node k a w ps) e, known-width (node l c x ts) q) refl))

  pub with_all-is : (ns : List ℕ) (ps ts : Sorts) (m : Map) → known_all ps ≡ true → known_all ts ≡ true → known_map m ≡ true
      → ((v : ℕ) → member v ns ≡ true → occurs_any v ts ≡ false) → match_all_with ns ps ts m ≡ matches_all (listed_in ns) ps ts m
  with_all-is ns end end m e q d f = refl
  with_all-is ns end (t then ts) m e q d f = refl
  with_all-is ns (p then ps) end m e q d f = refl
  with_all-is ns (p then ps) (t then ts) m e q d f =
      rw (with-is ns p t m (and_left (known p) (known_all ps) e) (and_left (known t) (known_all ts) q) d (λ v i. or_left (occurs v t) (occurs_any v ts) (f v i)))
      (by_option (matches (listed_in ns) p t m)
      (λ g. rw g refl)
      (λ n g. rw g (with_all-is ns ps ts n (and_right (known p) (known_all ps) e) (and_right (known t) (known_all ts) q)
      (match-known (listed_in ns) p t m n (and_left (known t) (known_all ts) q) d g) (λ v i. or_right (occurs v t) (occurs_any v ts) (f v i)))))

-- From a map of listed names whose images are without Par and ParamBitVec, match_with is matching from that map.
pub match_with-from : (ns : List ℕ) (m : Map) (p t : Sort) → premise ns p t ≡ true → known_map m ≡ true → Within (listed_in ns) m
    → (match_with ns p t m ≡ matches (listed_in ns) p t m) × MatchingFrom (listed_in ns) m p t
unfolding premise
match_with-from ns m p t h d w =
    let (e, q, u) = three (known p) (known t) (unlisted ns t) h in
    (with-is ns p t m e q d (λ v i. unlisted-free ns t v u i), matching-premise-from ns m p t h w)

-- And so it is of lists.
pub match_all_with-from : (ns : List ℕ) (m : Map) (ps ts : Sorts) → known_all ps ≡ true → known_all ts ≡ true → unlisted_all ns ts ≡ true
    → known_map m ≡ true → Within (listed_in ns) m
    → (match_all_with ns ps ts m ≡ matches_all (listed_in ns) ps ts m) × MatchingAllFrom (listed_in ns) m ps ts
match_all_with-from ns m ps ts e q u d w =
    (with_all-is ns ps ts m e q d (λ v i. unlisted_all-free ns ts v u i), matching_all-from (listed_in ns) m ps ts (known_all-parless ps e) w)

-- Document 01's definition of matching, of match_with itself: from the empty map, for every pattern and target of the premise.
pub match_with-spec : (ns : List ℕ) (p t : Sort) → premise ns p t ≡ true
    → (match_with ns p t empty ≡ matches (listed_in ns) p t empty) × Matching (listed_in ns) p t
unfolding known_map find
match_with-spec ns p t h = ((match_with-from ns empty p t h refl (λ v q. refl)).0, matching-premise ns p t h)

pub match_all_with-spec : (ns : List ℕ) (ps ts : Sorts) → known_all ps ≡ true → known_all ts ≡ true → unlisted_all ns ts ≡ true
    → (match_all_with ns ps ts empty ≡ matches_all (listed_in ns) ps ts empty) × MatchingAll (listed_in ns) ps ts
unfolding known_map find
match_all_with-spec ns ps ts e q u =
    ((match_all_with-from ns empty ps ts e q u refl (λ v q. refl)).0, matching_all (listed_in ns) ps ts (known_all-parless ps e))
