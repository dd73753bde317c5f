-- MATCHING IN EVERY ORDER: pairs of pattern and target, matched one after the other from any map, give maps that agree name by name, or
-- none, whatever their order. It holds for all sorts and maps: no premise is needed. The maps are lists of bindings in the order of their
-- making, so they need not be equal.
use Rattle.std.specs.Prelude.{ℕ, ◌≡◌, refl, Bool, true, ◌&&◌, List, [], ◌∷◌, eqb, All, IsPermutation}
use Rattle.std.proofs.Common.{sym, ap, subst, ◌∙◌, arith, eqb-true}
use Rattle.std.proofs.lemmas.List.Elements.{All-nil, All-cons, All-head, All-tail}
use Rattle.std.proofs.lemmas.List.Sorted.{IsPermutation-sym, All-permutation}
use Rattle.std.proofs.Math.Option.{Option, none, some}
use Rattle.record.specs.Sort.{Sort, Sorts, var, par, node, end, ◌then◌, same, count}
use Rattle.record.specs.SortLaws.{same-sound, same-complete}
use Rattle.record.specs.Cases.{eqb-self, by_test, by_option, none-some, some_inj}
use Rattle.substitution.specs.Substitution.{Map, bind, find}
use Rattle.substitution.specs.Matching.{keep, meet, matches, matches_all, Keeps, Alike}
use Rattle.substitution.specs.Orders.{Pair, pairs_of, matches_pairs}
use Rattle.substitution.proofs.MatchingLaws.{keep-test, keep-rest, and_then-middle, match-extends, match_all-extends}

---------------------------------------------------------------- matching from a smaller map
-- What a listed variable met is kept: a map that keeps the map after the meeting gives the variable its target.
met-kept : (o : Option Sort) (v : ℕ) (t : Sort) (a b c : Map) → find a v ≡ o → meet o v t a ≡ some b → Keeps b c → find c v ≡ some t
unfolding find
met-kept none v t a b c f h k = k v t (rw (← some_inj h) (rw (eqb-self v) refl))
met-kept (some s) v t a b c f h k =
    let g : find c v ≡ some s = k v s (rw (← some_inj (keep-rest (same s t) (some a) b h)) f) in
    g ∙ ap some (same-sound s t (keep-test (same s t) (some a) b h))

-- A pair bound in the larger map may be added to the smaller one.
keeps-bind : (v : ℕ) (t : Sort) (n c : Map) → Keeps n c → find c v ≡ some t → Keeps (bind v t n) c
unfolding find
keeps-bind v t n c k f u s g =
    by_test (eqb v u)
    (λ q. let y : some t ≡ some s = rw q at g in let z = eqb-true v u q in rw (← z) (f ∙ y))
    (λ q. k u s (rw q at g))

-- Where the test passes, it goes on.
keep-on : (b : Bool) (o : Option Map) → b ≡ true → keep b o ≡ o
keep-on b o e = rw e refl

-- A PAIR THAT WAS MATCHED INTO A MAP THAT c KEEPS IS MATCHED FROM EVERY MAP THAT c KEEPS, and c keeps what is then found. By the induction of
-- matching itself.
mutual
  unfolding matches

  pub match-kept : (ns : ℕ → Bool) (p t : Sort) (a b c n : Map) → matches ns p t a ≡ some b → Keeps b c → Keeps n c
      → (o : Map) × (matches ns p t n ≡ some o) × Keeps o c
  match-kept ns (var v) t a b c n h k l =
      by_test (ns v)
      (λ q. let g : find c v ≡ some t = met-kept (find a v) v t a b c refl (rw q at h) k in
      by_option (find n v)
      (λ f. (bind v t n, rw (q, f) refl, keeps-bind v t n c l g))
      (λ r f. let z : r ≡ t = some_inj (sym (l v r f) ∙ g) in (n, rw (q, f, same-complete r t z) refl, l)))
      (λ q. (n, rw (q, keep-test (same (var v) t) (some a) b (rw q at h)) refl, l))
  match-kept ns (par us x) t a b c n h k l = none-some h
  match-kept ns (node i e w ps) (var v) a b c n h k l = none-some h
  match-kept ns (node i e w ps) (par us x) a b c n h k l = none-some h
  match-kept ns (node i e w ps) (node j f x ts) a b c n h k l =
      let (o, g, r) = match_all-kept ns ps ts a b c n (keep-rest (eqb i j && eqb e f && eqb w x) (matches_all ns ps ts a) b h) k l in
      (o, keep-on (eqb i j && eqb e f && eqb w x) (matches_all ns ps ts n) (keep-test (eqb i j && eqb e f && eqb w x) (matches_all ns ps ts a) b h) ∙ g, r)

  pub match_all-kept : (ns : ℕ → Bool) (ps ts : Sorts) (a b c n : Map) → matches_all ns ps ts a ≡ some b → Keeps b c → Keeps n c
      → (o : Map) × (matches_all ns ps ts n ≡ some o) × Keeps o c
  match_all-kept ns end end a b c n h k l = (n, refl, l)
  match_all-kept ns end (t then ts) a b c n h k l = none-some h
  match_all-kept ns (p then ps) end a b c n h k l = none-some h
  match_all-kept ns (p then ps) (t then ts) a b c n h k l =
      let (d, g, r) = and_then-middle (matches ns p t a) (λ d. matches_all ns ps ts d) b h in
      let (o, f, x) = match-kept ns p t a d c n g (λ v s q. k v s (match_all-extends ns ps ts d b r v s q)) l in
      let (o', f', x') = match_all-kept ns ps ts d b c o r k x in
      (o', rw f f', x')

---------------------------------------------------------------- pairs
-- A pair was matched, from some map, into a map that c keeps.
record Met (ns : ℕ → Bool) (c : Map) (x : Pair) : Type 0 where
  before : Map
  after : Map
  matched : matches ns x.pattern x.target before ≡ some after
  kept : Keeps after c

-- The map only grows.
pairs-extend : (ns : ℕ → Bool) (xs : List Pair) (m n : Map) → matches_pairs ns xs m ≡ some n → Keeps m n
unfolding matches_pairs
pairs-extend ns [] m n h v s f = rw (← some_inj h) f
pairs-extend ns (x ∷ xs) m n h v s f =
    let (k, g, r) = and_then-middle (matches ns x.pattern x.target m) (λ k. matches_pairs ns xs k) n h in
    pairs-extend ns xs k n r v s (match-extends ns x.pattern x.target m k g v s f)

-- Pairs that match were each met; pairs that were each met match.
pairs-met : (ns : ℕ → Bool) (xs : List Pair) (m n : Map) → matches_pairs ns xs m ≡ some n → All (Met ns n) xs
unfolding matches_pairs
pairs-met ns [] m n h = All-nil (Met ns n)
pairs-met ns (x ∷ xs) m n h =
    let (k, g, r) = and_then-middle (matches ns x.pattern x.target m) (λ k. matches_pairs ns xs k) n h in
    All-cons (Met ns n) x xs (record { before = m; after = k; matched = g; kept = pairs-extend ns xs k n r }) (pairs-met ns xs k n r)

met-pairs : (ns : ℕ → Bool) (xs : List Pair) (c m : Map) → All (Met ns c) xs → Keeps m c
    → (o : Map) × (matches_pairs ns xs m ≡ some o) × Keeps o c
unfolding matches_pairs
met-pairs ns [] c m a k = (m, refl, k)
met-pairs ns (x ∷ xs) c m a k =
    let y = All-head (Met ns c) x xs a in
    let (o, f, l) = match-kept ns x.pattern x.target y.before y.after c m y.matched y.kept k in
    let (o', f', l') = met-pairs ns xs c o (All-tail (Met ns c) x xs a) l in
    (o', rw f f', l')

-- Being each met does not mind the order. So pairs that match in one order match in every order, from every map that the map found
-- keeps, and it keeps what is then found.
order-found : (ns : ℕ → Bool) (xs ys : List Pair) (m k n : Map) → IsPermutation xs ys → matches_pairs ns xs m ≡ some n → Keeps k n
    → (o : Map) × (matches_pairs ns ys k ≡ some o) × Keeps o n
order-found ns xs ys m k n d h l = met-pairs ns ys n k (All-permutation (Met ns n) xs ys d (pairs-met ns xs m n h)) l

-- Maps that keep each other agree name by name; a map that agrees with a kept one is kept.
keeps-both : (m n : Map) → Keeps m n → Keeps n m → (v : ℕ) → find m v ≡ find n v
keeps-both m n k l v =
    by_option (find m v)
    (λ q. by_option (find n v) (λ r. q ∙ sym r) (λ s r. none-some (sym q ∙ l v s r)))
    (λ s q. q ∙ sym (k v s q))

keeps-alike : (m k n : Map) → ((v : ℕ) → find m v ≡ find k v) → Keeps m n → Keeps k n
keeps-alike m k n a h v s f = h v s (a v ∙ f)

---------------------------------------------------------------- the theorems
-- "MATCHED IN EVERY ORDER, GIVE THE SAME ASSIGNMENT, OR NONE IN EVERY ORDER", from two maps that agree name by name: what is found in
-- either order keeps what is found in the other.
pub every-order-from : (ns : ℕ → Bool) (xs ys : List Pair) (m k : Map) → ((v : ℕ) → find m v ≡ find k v) → IsPermutation xs ys
    → Alike (matches_pairs ns xs m) (matches_pairs ns ys k)
every-order-from ns xs ys m k a d =
    by_option (matches_pairs ns xs m)
    (λ f. by_option (matches_pairs ns ys k)
    (λ g. rw (f, g) tt)
    (λ o g. let (n, h, l) = back o g in none-some (sym f ∙ h)))
    (λ n f.
    let (o, g, i) = order-found ns xs ys m k n d f (keeps-alike m k n a (pairs-extend ns xs m n f)) in
    let (r, h, l) = back o g in
    let q : r ≡ n = some_inj (sym h ∙ f) in
    rw (f, g) (keeps-both n o (subst (λ (z : Map). Keeps z o) q l) i))
  where
    back : (o : Map) → matches_pairs ns ys k ≡ some o → (n : Map) × (matches_pairs ns xs m ≡ some n) × Keeps n o
    back o g = order-found ns ys xs k m o (IsPermutation-sym xs ys d) g (keeps-alike k m o (λ v. sym (a v)) (pairs-extend ns ys k o g))

-- From any map.
pub every-order : (ns : ℕ → Bool) (xs ys : List Pair) (m : Map) → IsPermutation xs ys → Alike (matches_pairs ns xs m) (matches_pairs ns ys m)
every-order ns xs ys m d = every-order-from ns xs ys m m (λ v. refl) d

-- Lists of patterns and targets of one length are matched as their pairs, so in every order of these.
pub pairs-are : (ns : ℕ → Bool) (ps ts : Sorts) (m : Map) → count ps ≡ count ts → matches_all ns ps ts m ≡ matches_pairs ns (pairs_of ps ts) m
unfolding matches matches_pairs pairs_of count
pairs-are ns end end m e = refl
pairs-are ns end (t then ts) m e = absurd (omega (arith, e))
pairs-are ns (p then ps) end m e = absurd (omega (arith, e))
pairs-are ns (p then ps) (t then ts) m e =
    by_option (matches ns p t m) (λ f. rw f refl) (λ n f. rw f (pairs-are ns ps ts n (omega (arith, e))))

pub lists-order : (ns : ℕ → Bool) (ps ts : Sorts) (ys : List Pair) (m : Map) → count ps ≡ count ts → IsPermutation (pairs_of ps ts) ys
    → Alike (matches_all ns ps ts m) (matches_pairs ns ys m)
lists-order ns ps ts ys m e d = rw (pairs-are ns ps ts m e) (every-order ns (pairs_of ps ts) ys m d)
