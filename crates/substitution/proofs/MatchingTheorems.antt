-- WHAT MATCHING FINDS: from a map, an assignment that keeps it exactly where there is one, the only one; and from the empty map, as an
-- instance.
use Rattle.std.specs.Prelude.{ℕ, ◌≡◌, refl, ◌⊎◌, Bool, true, false, List}
use Rattle.std.proofs.Common.{sym, ap, ◌∙◌, inl, inr, ⊎_elim}
use Rattle.std.proofs.lemmas.Bool.{false≢true}
use Rattle.std.proofs.Math.Option.{none, some}
use Rattle.record.specs.Sort.{Sort, Sorts, var, tuple}
use Rattle.record.specs.Cases.{three, by_test, by_option, none-some, some_inj, clash}
use Rattle.record.specs.Names.{member}
use Rattle.substitution.specs.Substitution.{Map, empty, find, is_some, bound, apply, apply_all, occurs, occurs_any}
use Rattle.substitution.specs.Premises.{parless, parless_all}
use Rattle.substitution.specs.Matching.{matches, matches_all, Within, Keeps, listed_in, known, unlisted, premise}
use Rattle.substitution.proofs.SubstitutionLaws.{apply-keeps}
use Rattle.substitution.proofs.MatchingLaws.{Agrees, agrees-self, match-extends, match-sound, match-complete, match-within, match-binds, match-only}
use Rattle.substitution.proofs.PremiseLaws.{known-parless, unlisted-free}

---------------------------------------------------------------- the statement, from a map
-- "It succeeds exactly when an assignment that keeps the given pairs turns pattern into target": the given pairs are the map m that
-- matching starts from. An assignment is a map that binds listed names only (`Within`).
pub record MatchingFrom (ns : ℕ → Bool) (m : Map) (p t : Sort) : Type 0 where
  -- A success is an assignment that keeps m and turns pattern into target.
  pub success : (n : Map) → matches ns p t m ≡ some n → Within ns n × Keeps m n × (apply n p ≡ t)
  -- It binds the listed variables of the pattern, each of them, and beyond m nothing else.
  pub binds : (n : Map) → matches ns p t m ≡ some n → (v : ℕ) → ns v ≡ true → occurs v p ≡ true → bound n v ≡ true
  pub only : (n : Map) → matches ns p t m ≡ some n → (v : ℕ) → bound n v ≡ true → (bound m v ≡ true) ⊎ ((ns v ≡ true) × (occurs v p ≡ true))
  -- Where an assignment that keeps m turns pattern into target, there is a success, and it is that assignment on the listed variables
  -- of the pattern.
  pub found : (θ : Map) → Within ns θ → Keeps m θ → apply θ p ≡ t
      → (n : Map) × (matches ns p t m ≡ some n) × ((v : ℕ) → ns v ≡ true → occurs v p ≡ true → find n v ≡ some (apply θ (var v)))
  -- So any two such assignments agree there.
  pub unique : (θ η : Map) → Within ns θ → Within ns η → Keeps m θ → Keeps m η → apply θ p ≡ t → apply η p ≡ t
      → (v : ℕ) → ns v ≡ true → occurs v p ≡ true → apply θ (var v) ≡ apply η (var v)
  -- There is no success exactly when there is no such assignment.
  pub refusal : matches ns p t m ≡ none → (θ : Map) → Within ns θ → Keeps m θ → apply θ p ≡ t → ⊥
  pub refused : ((θ : Map) → Within ns θ → Keeps m θ → apply θ p ≡ t → ⊥) → matches ns p t m ≡ none

-- The same for lists of patterns and targets, with one assignment for all.
pub record MatchingAllFrom (ns : ℕ → Bool) (m : Map) (ps ts : Sorts) : Type 0 where
  pub success : (n : Map) → matches_all ns ps ts m ≡ some n → Within ns n × Keeps m n × (apply_all n ps ≡ ts)
  pub binds : (n : Map) → matches_all ns ps ts m ≡ some n → (v : ℕ) → ns v ≡ true → occurs_any v ps ≡ true → bound n v ≡ true
  pub only : (n : Map) → matches_all ns ps ts m ≡ some n → (v : ℕ) → bound n v ≡ true → (bound m v ≡ true) ⊎ ((ns v ≡ true) × (occurs_any v ps ≡ true))
  pub found : (θ : Map) → Within ns θ → Keeps m θ → apply_all θ ps ≡ ts
      → (n : Map) × (matches_all ns ps ts m ≡ some n) × ((v : ℕ) → ns v ≡ true → occurs_any v ps ≡ true → find n v ≡ some (apply θ (var v)))
  pub unique : (θ η : Map) → Within ns θ → Within ns η → Keeps m θ → Keeps m η → apply_all θ ps ≡ ts → apply_all η ps ≡ ts
      → (v : ℕ) → ns v ≡ true → occurs_any v ps ≡ true → apply θ (var v) ≡ apply η (var v)
  pub refusal : matches_all ns ps ts m ≡ none → (θ : Map) → Within ns θ → Keeps m θ → apply_all θ ps ≡ ts → ⊥
  pub refused : ((θ : Map) → Within ns θ → Keeps m θ → apply_all θ ps ≡ ts → ⊥) → matches_all ns ps ts m ≡ none

-- A map that keeps another gives the names bound there the same sorts, and every map keeps the empty one.
keeps-agrees : (m θ : Map) → Keeps m θ → Agrees m θ
unfolding apply
keeps-agrees m θ k v s f = rw (k v s f) refl

pub keeps-empty : (θ : Map) → Keeps empty θ
unfolding find
keeps-empty θ v s f = none-some f

-- A bound name has an image, another has none.
bound-image : (m : Map) (v : ℕ) → bound m v ≡ true → (s : Sort) × (find m v ≡ some s)
bound-image m v b = by_option (find m v) (λ q. clash b (ap is_some q)) (λ s q. (s, q))

pub not-bound : (m : Map) (v : ℕ) → bound m v ≡ false → find m v ≡ none
not-bound m v b = by_option (find m v) (λ q. q) (λ s q. clash (ap is_some q) b)

-- A success is an assignment that keeps m: the map only grows, and it agrees with itself.
success-from : (ns : ℕ → Bool) (m : Map) (p t : Sort) (n : Map) → Within ns m → matches ns p t m ≡ some n
    → Within ns n × Keeps m n × (apply n p ≡ t)
success-from ns m p t n a h =
    let w : Within ns n = match-within ns p t m n h a in
    (w, match-extends ns p t m n h, match-sound ns p t m n n h w (agrees-self n))

-- An assignment that keeps m is found, since the search agrees with it all the way.
found-from : (ns : ℕ → Bool) (m : Map) (p t : Sort) → parless p ≡ true → (θ : Map) → Within ns θ → Keeps m θ → apply θ p ≡ t
    → (n : Map) × (matches ns p t m ≡ some n) × ((v : ℕ) → ns v ≡ true → occurs v p ≡ true → find n v ≡ some (apply θ (var v)))
found-from ns m p t e θ w k h =
    let (n, f, g) = match-complete ns p m θ e w (keeps-agrees m θ k) in (
      n,
      rw h at f,
      λ v l o. let (s, q) = bound-image n v (match-binds ns p (apply θ p) m n v f l o) in q ∙ ap some (sym (g v s q)),
    )

-- MATCHING FROM A MAP OF LISTED NAMES. It is asked for a pattern and target without Par and ParamBitVec, target and given sorts without
-- listed names; it holds for every pattern without Par.
pub matching-from : (ns : ℕ → Bool) (m : Map) (p t : Sort) → parless p ≡ true → Within ns m → MatchingFrom ns m p t
matching-from ns m p t e a = record {
  success = λ n h. success-from ns m p t n a h;
  binds = λ n h v l o. match-binds ns p t m n v h l o;
  only = λ n h v b. by_test (bound m v) (λ q. inl q) (λ q. inr (match-only ns p t m n v h q b));
  found = λ θ w k h. found-from ns m p t e θ w k h;
  unique = λ θ η w x k l h i v j o.
      let (n, f, g) = found-from ns m p t e θ w k h in
      let (r, c, d) = found-from ns m p t e η x l i in
      let q : n ≡ r = some_inj (sym f ∙ c) in
      some_inj (sym (g v j o) ∙ ap (λ (z : Map). find z v) q ∙ d v j o);
  refusal = λ h θ w k i. let (n, f, g) = found-from ns m p t e θ w k i in none-some (sym h ∙ f);
  refused = λ h. by_option (matches ns p t m) (λ q. q) (λ n q. let (w, k, s) = success-from ns m p t n a q in absurd (h n w k s));
}

-- A list of patterns is matched as one Tuple of them.
pub matching_all-from : (ns : ℕ → Bool) (m : Map) (ps ts : Sorts) → parless_all ps ≡ true → Within ns m → MatchingAllFrom ns m ps ts
unfolding matches apply occurs parless
matching_all-from ns m ps ts e a =
    let all = matching-from ns m (tuple ps) (tuple ts) e a in record {
      success = λ n h. let (w, k, s) = all.success n h in (w, k, cc);
      binds = λ n h v l o. all.binds n h v l o;
      only = λ n h v b. all.only n h v b;
      found = λ θ w k h. all.found θ w k (ap tuple h);
      unique = λ θ η w x k l h i v j o. all.unique θ η w x k l (ap tuple h) (ap tuple i) v j o;
      refusal = λ h θ w k i. all.refusal h θ w k (ap tuple i);
      refused = λ h. all.refused (λ θ w k i. h θ w k (cc));
    }

-- The map found, name by name: a name that does not stand in the pattern has the image that m gives it.
pub match-outside : (ns : ℕ → Bool) (m : Map) (p t : Sort) (n : Map) → matches ns p t m ≡ some n → (v : ℕ) → occurs v p ≡ false → find n v ≡ find m v
match-outside ns m p t n h v o =
    by_option (find m v)
    (λ q. by_test (bound n v)
    (λ b. let (l, i) = match-only ns p t m n v h (ap is_some q) b in clash i o)
    (λ b. not-bound n v b ∙ sym q))
    (λ s q. match-extends ns p t m n h v s q ∙ sym q)

---------------------------------------------------------------- the statement of document 01
-- "Success exactly when some assignment turns pattern into target; other variables stand for themselves", from an empty map.
-- An assignment is a map that binds listed names only (`Within`).
pub record Matching (ns : ℕ → Bool) (p t : Sort) : Type 0 where
  -- A success is an assignment that turns pattern into target.
  pub success : (m : Map) → matches ns p t empty ≡ some m → Within ns m × (apply m p ≡ t)
  -- It binds the listed variables of the pattern, each of them and nothing else.
  pub binds : (m : Map) → matches ns p t empty ≡ some m → (v : ℕ) → ns v ≡ true → occurs v p ≡ true → bound m v ≡ true
  pub only : (m : Map) → matches ns p t empty ≡ some m → (v : ℕ) → bound m v ≡ true → (ns v ≡ true) × (occurs v p ≡ true)
  -- Where an assignment turns pattern into target, there is a success, and it is that assignment on the listed variables of the pattern.
  pub found : (θ : Map) → Within ns θ → apply θ p ≡ t
      → (m : Map) × (matches ns p t empty ≡ some m) × ((v : ℕ) → ns v ≡ true → occurs v p ≡ true → find m v ≡ some (apply θ (var v)))
  -- So any two such assignments agree there.
  pub unique : (θ η : Map) → Within ns θ → Within ns η → apply θ p ≡ t → apply η p ≡ t
      → (v : ℕ) → ns v ≡ true → occurs v p ≡ true → apply θ (var v) ≡ apply η (var v)
  -- There is no success exactly when there is no such assignment.
  pub refusal : matches ns p t empty ≡ none → (θ : Map) → Within ns θ → apply θ p ≡ t → ⊥
  pub refused : ((θ : Map) → Within ns θ → apply θ p ≡ t → ⊥) → matches ns p t empty ≡ none

-- The same for lists of patterns and targets, with one assignment for all.
pub record MatchingAll (ns : ℕ → Bool) (ps ts : Sorts) : Type 0 where
  pub success : (m : Map) → matches_all ns ps ts empty ≡ some m → Within ns m × (apply_all m ps ≡ ts)
  pub binds : (m : Map) → matches_all ns ps ts empty ≡ some m → (v : ℕ) → ns v ≡ true → occurs_any v ps ≡ true → bound m v ≡ true
  pub only : (m : Map) → matches_all ns ps ts empty ≡ some m → (v : ℕ) → bound m v ≡ true → (ns v ≡ true) × (occurs_any v ps ≡ true)
  pub found : (θ : Map) → Within ns θ → apply_all θ ps ≡ ts
      → (m : Map) × (matches_all ns ps ts empty ≡ some m) × ((v : ℕ) → ns v ≡ true → occurs_any v ps ≡ true → find m v ≡ some (apply θ (var v)))
  pub unique : (θ η : Map) → Within ns θ → Within ns η → apply_all θ ps ≡ ts → apply_all η ps ≡ ts
      → (v : ℕ) → ns v ≡ true → occurs_any v ps ≡ true → apply θ (var v) ≡ apply η (var v)
  pub refusal : matches_all ns ps ts empty ≡ none → (θ : Map) → Within ns θ → apply_all θ ps ≡ ts → ⊥
  pub refused : ((θ : Map) → Within ns θ → apply_all θ ps ≡ ts → ⊥) → matches_all ns ps ts empty ≡ none

-- Document 01 asks it for a pattern and target without Par and ParamBitVec, the target without listed names; it holds for every pattern
-- without Par. It is matching from the empty map, which every assignment keeps.
pub matching : (ns : ℕ → Bool) (p t : Sort) → parless p ≡ true → Matching ns p t
unfolding find
matching ns p t e =
    let all = matching-from ns empty p t e (λ v q. refl) in
    let k = keeps-empty in record {
      success = λ m h. let (w, k, s) = all.success m h in (w, s);
      binds = λ m h v l o. all.binds m h v l o;
      only = λ m h v b. ⊎_elim (λ q. absurd (false≢true q)) (λ x. x) (all.only m h v b);
      found = λ θ w h. all.found θ w (k θ) h;
      unique = λ θ η w x h i v l o. all.unique θ η w x (k θ) (k η) h i v l o;
      refusal = λ h θ w i. all.refusal h θ w (k θ) i;
      refused = λ h. all.refused (λ θ w k i. h θ w i);
    }

-- And so it is of lists.
pub matching_all : (ns : ℕ → Bool) (ps ts : Sorts) → parless_all ps ≡ true → MatchingAll ns ps ts
unfolding find
matching_all ns ps ts e =
    let all = matching_all-from ns empty ps ts e (λ v q. refl) in
    let k = keeps-empty in record {
      success = λ m h. let (w, k, s) = all.success m h in (w, s);
      binds = λ m h v l o. all.binds m h v l o;
      only = λ m h v b. ⊎_elim (λ q. absurd (false≢true q)) (λ x. x) (all.only m h v b);
      found = λ θ w h. all.found θ w (k θ) h;
      unique = λ θ η w x h i v l o. all.unique θ η w x (k θ) (k η) h i v l o;
      refusal = λ h θ w i. all.refusal h θ w (k θ) i;
      refused = λ h. all.refused (λ θ w k i. h θ w i);
    }

---------------------------------------------------------------- on the premise
-- Matching on the premise, from a map of listed names and from the empty one.
pub matching-premise-from : (ns : List ℕ) (m : Map) (p t : Sort) → premise ns p t ≡ true → Within (listed_in ns) m → MatchingFrom (listed_in ns) m p t
unfolding premise
matching-premise-from ns m p t h a =
    let (e, q, u) = three (known p) (known t) (unlisted ns t) h in matching-from (listed_in ns) m p t (known-parless p e) a

pub matching-premise : (ns : List ℕ) (p t : Sort) → premise ns p t ≡ true → Matching (listed_in ns) p t
unfolding premise
matching-premise ns p t h =
    let (e, q, u) = three (known p) (known t) (unlisted ns t) h in matching (listed_in ns) p t (known-parless p e)

-- There the map found is every assignment that keeps m and turns pattern into target, on the listed variables of the pattern: such an
-- assignment binds them all, since one that it left would stand in the target.
pub exact-from : (ns : List ℕ) (m : Map) (p t : Sort) (n θ : Map) → premise ns p t ≡ true → matches (listed_in ns) p t m ≡ some n
    → Within (listed_in ns) θ → Keeps m θ → apply θ p ≡ t → (v : ℕ) → member v ns ≡ true → occurs v p ≡ true → find n v ≡ find θ v
unfolding premise apply
exact-from ns m p t n θ h f w c k v l o =
    let (e, q, u) = three (known p) (known t) (unlisted ns t) h in
    let (r, g, j) = found-from (listed_in ns) m p t (known-parless p e) θ w c k in
    let y : n ≡ r = some_inj (sym f ∙ g) in
    let x : find n v ≡ some (apply θ (var v)) = ap (λ (z : Map). find z v) y ∙ j v l o in
    by_option (find θ v)
    (λ i. let z : occurs v t ≡ true = ap (occurs v) (sym k) ∙ apply-keeps θ v p i o in clash z (unlisted-free ns t v u l))
    (λ r i. x ∙ rw i refl)

-- From the empty map it is every assignment that turns pattern into target.
pub match-exact : (ns : List ℕ) (p t : Sort) (m θ : Map) → premise ns p t ≡ true → matches (listed_in ns) p t empty ≡ some m
    → Within (listed_in ns) θ → apply θ p ≡ t → (v : ℕ) → member v ns ≡ true → occurs v p ≡ true → find m v ≡ find θ v
match-exact ns p t m θ h f w k v l o = exact-from ns empty p t m θ h f w (keeps-empty θ) k v l o

-- So each of them keeps the map found, which is the least of them.
pub found-kept : (ns : List ℕ) (m : Map) (p t : Sort) (n θ : Map) → premise ns p t ≡ true → matches (listed_in ns) p t m ≡ some n
    → Within (listed_in ns) θ → Keeps m θ → apply θ p ≡ t → Keeps n θ
found-kept ns m p t n θ h f w c k v s g =
    by_option (find m v)
    (λ q. let (l, o) = match-only (listed_in ns) p t m n v f (ap is_some q) (ap is_some g) in
    sym (exact-from ns m p t n θ h f w c k v l o) ∙ g)
    (λ r q. let z : find n v ≡ some r = match-extends (listed_in ns) p t m n f v r q in c v r q ∙ sym z ∙ g)

-- And it is the only one of them that binds nothing beyond m but variables of the pattern.
pub only-one : (ns : List ℕ) (m : Map) (p t : Sort) (n θ : Map) → premise ns p t ≡ true → matches (listed_in ns) p t m ≡ some n
    → Within (listed_in ns) θ → Keeps m θ → apply θ p ≡ t → ((v : ℕ) → bound m v ≡ false → occurs v p ≡ false → bound θ v ≡ false)
    → (v : ℕ) → find n v ≡ find θ v
only-one ns m p t n θ h f w c k d v =
    by_option (find n v)
    (λ q. by_option (find θ v)
    (λ i. q ∙ sym i)
    (λ s i. by_test (occurs v p)
    (λ o. by_test (member v ns) (λ l. exact-from ns m p t n θ h f w c k v l o) (λ l. none-some (sym (w v l) ∙ i)))
    (λ o. by_option (find m v)
    (λ j. clash (ap is_some i) (d v (ap is_some j) o))
    (λ r j. none-some (sym q ∙ match-extends (listed_in ns) p t m n f v r j)))))
    (λ s q. q ∙ sym (found-kept ns m p t n θ h f w c k v s q))
