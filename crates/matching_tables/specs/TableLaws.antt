-- Laws of the tables: listing names and taking them off, one look for membership, what a name is bound to, one more name
-- bound, and that there is always room for it, since each bound name but 64 has a Var of its own in the store.
use Rattle.std.specs.Prelude.{ℕ, zero, suc, ◌+◌, ◌-◌, ◌≤◌, ◌<◌, ◌≡◌, Bool, true, false, not, cond, List, [], ◌∷◌, ◌++◌, length, set, replicate, eqb}
use Rattle.std.proofs.Math.Path.{refl}
use Rattle.std.proofs.Common.{sym, ap, subst, ◌∙◌, arith, not-suc-le-zero, length-set, ext_get_or, get_or-set_same, eqb-true, eq-eqb, ne_eqb}
use Rattle.std.proofs.Math.Option.{none, some}
use Rattle.std.proofs.Math.Decide.{ℕ_discrete}
use Rattle.std.proofs.Math.ListN.{get_or}
use Rattle.std.proofs.Math.Seq.{get_or-set_other}
use Rattle.std.proofs.lemmas.Bool.{eqb-false}
use Rattle.record.specs.Cases.{by_test, and_left, and_right, not-true, clash, eqb-self}
use Rattle.record.specs.Names.{member, distinct}
use Rattle.record.specs.Number.{numbers_at}
use Rattle.record.specs.Sort.{Sort, var}
use Rattle.record.specs.Record.{leaf}
use Rattle.record.specs.Store.{index_of}
use Rattle.record.specs.SortLists.{below_suc, index-found}
use Rattle.record.specs.StoreLaws.{store_of-length}
use Rattle.record.specs.Decode.{store_of, sort_at, Zeros}
use Rattle.store.specs.Good.{zeros-same}
use Rattle.substitution.specs.Substitution.{empty, bind, find}
use Rattle.substitution.specs.Matching.{listed_in}
use Rattle.matching_tables.specs.Tables.{times, Lists, Roomy, listed, Told, Added, image_of, table_map, Tabled, VarIn, Mapped, Cleared}

---------------------------------------------------------------- how often a name stands in a list
pub times-first : (v n : ℕ) (ns : List ℕ) → (n ≡ v) → times v (n ∷ ns) ≡ suc (times v ns)
unfolding times
times-first v n ns e = rw (eq-eqb n v e) (omega arith)

pub times-other : (v n : ℕ) (ns : List ℕ) → (n ≡ v → ⊥) → times v (n ∷ ns) ≡ times v ns
unfolding times
times-other v n ns d = rw (ne_eqb n v d) (omega arith)

-- A name is one of a list exactly if it stands there at all.
pub member-times : (v : ℕ) (ns : List ℕ) → member v ns ≡ not (eqb (times v ns) 0)
unfolding member times
member-times v [] = refl
member-times v (n ∷ ns) =
    by_test (eqb n v)
    (λ e. rw (e, ne_eqb (1 + times v ns) 0 (λ z. omega arith)) refl)
    (λ e. let z : times v ns ≡ 0 + times v ns = omega arith in rw (e, member-times v ns) (ap (λ (i : ℕ). not (eqb i 0)) z))

pub times-append : (v : ℕ) (ms ns : List ℕ) → times v (ms ++ ns) ≡ times v ms + times v ns
unfolding times
times-append v [] ns = omega arith
times-append v (m ∷ ms) ns = omega (arith, times-append v ms ns)

pub times-few : (v : ℕ) (ns : List ℕ) → times v ns ≤ length ns
unfolding times
times-few v [] = omega arith
times-few v (n ∷ ns) = by_test (eqb n v) (λ q. rw q (omega (arith, times-few v ns))) (λ q. rw q (omega (arith, times-few v ns)))

member-none : (v : ℕ) (ns : List ℕ) → member v ns ≡ false → times v ns ≡ 0
member-none v ns e =
    by_test (eqb (times v ns) 0)
    (λ q. eqb-true (times v ns) 0 q)
    (λ q. clash (member-times v ns ∙ rw q refl) e)

-- In a list of distinct names once at most.
pub times-once : (v : ℕ) (ns : List ℕ) → distinct ns ≡ true → times v ns ≤ 1
unfolding times distinct
times-once v [] e = omega arith
times-once v (n ∷ ns) e =
    by_test (eqb n v)
    (λ q. let z = eqb-true n v q in
    let f : member v ns ≡ false = rw z at (not-true (member n ns) (and_left (not (member n ns)) (distinct ns) e)) in
    rw q (omega (arith, member-none v ns f)))
    (λ q. rw q (omega (arith, times-once v ns (and_right (not (member n ns)) (distinct ns) e))))

---------------------------------------------------------------- the table of parameters
-- ONE LOOK: the names of the list are those whose entry is not 0.
pub listed-is : (prm ns : List ℕ) → Lists prm ns → Told prm (listed_in ns)
listed-is prm ns l v = member-times v ns ∙ ap (λ (i : ℕ). not (eqb i 0)) (sym (l.each v))

pub listed-some : (prm : List ℕ) (v : ℕ) → (get_or prm v 0 ≡ 0 → ⊥) → listed prm v ≡ true
listed-some prm v h = rw (ne_eqb (get_or prm v 0) 0 h) refl

pub listed-none : (prm : List ℕ) (v : ℕ) → get_or prm v 0 ≡ 0 → listed prm v ≡ false
listed-none prm v h = rw (eq-eqb (get_or prm v 0) 0 h) refl

-- The same by the answer of a look.
pub look-some : (prm : List ℕ) (v : ℕ) {r : Bool} → r ≡ listed prm v → r ≡ true → get_or prm v 0 ≡ 0 → ⊥
look-some prm v e q z = clash (sym e ∙ q) (listed-none prm v z)

pub look-none : (prm : List ℕ) (v : ℕ) {r : Bool} → r ≡ listed prm v → r ≡ false → get_or prm v 0 ≡ 0
look-none prm v e q =
    by_test (eqb (get_or prm v 0) 0)
    (λ z. eqb-true (get_or prm v 0) 0 z)
    (λ z. clash (listed-some prm v (eqb-false (get_or prm v 0) 0 z)) (sym e ∙ q))

-- EVERY TABLE LISTS SOME NAMES: each as often as its entry says.
unfoldable names_in : ℕ → List ℕ → List ℕ
names_in v [] = []
names_in v (c ∷ cs) = replicate c v ++ names_in (suc v) cs

times-same : (c v : ℕ) → times v (replicate c v) ≡ c
unfolding times
times-same zero v = refl
times-same (suc c) v = times-first v v (replicate c v) refl ∙ ap suc (times-same c v)

times_none : (c u v : ℕ) → (v ≡ u → ⊥) → times u (replicate c v) ≡ 0
unfolding times
times_none zero u v d = refl
times_none (suc c) u v d = times-other u v (replicate c v) d ∙ times_none c u v d

names-below : (l : List ℕ) (x u : ℕ) → u < x → times u (names_in x l) ≡ 0
unfolding names_in times
names-below [] x u h = refl
names-below (c ∷ cs) x u h =
    omega (arith, times-append u (replicate c x) (names_in (suc x) cs), times_none c u x (λ e. omega arith), names-below cs (suc x) u (omega arith))

names-from : (l : List ℕ) (x i u : ℕ) → u ≡ x + i → times u (names_in x l) ≡ get_or l i 0
unfolding names_in times
names-from [] x i u e = refl
names-from (c ∷ cs) x zero u e =
    let z : u ≡ x = omega arith in
    rw z (omega (arith, times-append x (replicate c x) (names_in (suc x) cs), times-same c x, names-below cs (suc x) x (omega arith)))
names-from (c ∷ cs) x (suc i) u e =
    omega (arith, times-append u (replicate c x) (names_in (suc x) cs), times_none c u x (λ z. omega arith), names-from cs (suc x) i u (omega arith))

pub lists-some : (prm : List ℕ) → length prm ≡ 65536 → (ns : List ℕ) × Lists prm ns
lists-some prm h = (names_in 0 prm, record { table = h; each = λ v. sym (names-from prm 0 v v (omega arith)) })

-- A table of zeros lists no name.
pub lists-none : (prm : List ℕ) → length prm ≡ 65536 → Zeros prm 0 → Lists prm []
unfolding times
lists-none prm l z = record { table = l; each = λ v. z v (omega arith) }

pub lists-added : (prm ns us prm' : List ℕ) → Lists prm ns → Added prm us prm' → Lists prm' (ns ++ us)
lists-added prm ns us prm' l a =
    record { table = a.long ∙ l.table; each = λ v. a.each v ∙ ap (λ (i : ℕ). i + times v us) (l.each v) ∙ sym (times-append v ns us) }

-- A short list leaves room: for a pattern of size w, w more of each name.
pub lists-roomy : (prm ns : List ℕ) (w : ℕ) → Lists prm ns → length ns + w ≤ 65535 → Roomy prm w
lists-roomy prm ns w l h v = omega (arith, l.each v, times-few v ns)

-- What was listed and taken off again is as it was.
pub added-back : (prm us mid prm' : List ℕ) → Added prm us mid → Added prm' us mid → prm' ≡ prm
added-back prm us mid prm' a c =
    ext_get_or 0 prm' prm (sym c.long ∙ a.long) (λ v h. omega (arith, a.each v, c.each v))

-- Two pairs of tables of zeros are one.
pub cleared-images : (l m l' m' : List ℕ) → Cleared l m → Cleared l' m' → l' ≡ l
cleared-images l m l' m' a c = zeros-same l' l 0 (c.names ∙ sym a.names) (λ k h. absurd (not-suc-le-zero h)) c.images a.images

pub cleared-bound : (l m l' m' : List ℕ) → Cleared l m → Cleared l' m' → m' ≡ m
cleared-bound l m l' m' a c = zeros-same m' m 0 (c.order ∙ sym a.order) (λ k h. absurd (not-suc-le-zero h)) c.bound a.bound

---------------------------------------------------------------- what a name is bound to
pub numbers-none : (s : List ℕ) (x m : ℕ) → m ≡ 0 → numbers_at s x m ≡ []
unfolding numbers_at
numbers-none s x m e = rw e

find-here : (st : List Sort) (imgs bnd : List ℕ) (v m i : ℕ) → i < m → get_or bnd i 0 ≡ v
    → find (table_map st imgs bnd m) v ≡ some (get_or st (get_or imgs v 0 - 1) leaf)
unfolding find table_map
find-here st imgs bnd v zero i h e = absurd (not-suc-le-zero h)
find-here st imgs bnd v (suc m) i h e =
    by_test (eqb (get_or bnd m 0) v)
    (λ q. rw (q, eqb-true (get_or bnd m 0) v q) refl)
    (λ q. rw q (below_suc (λ (i : ℕ). get_or bnd i 0 ≡ v → find (table_map st imgs bnd m) v ≡ some (get_or st (get_or imgs v 0 - 1) leaf)) m
    (λ i l. find-here st imgs bnd v m i l)
    (λ z. absurd (eqb-false (get_or bnd m 0) v q z))
    i h e))

find-nowhere : (st : List Sort) (imgs bnd : List ℕ) (v m : ℕ) → ((i : ℕ) → i < m → get_or bnd i 0 ≡ v → ⊥) → find (table_map st imgs bnd m) v ≡ none
unfolding find table_map
find-nowhere st imgs bnd v zero h = refl
find-nowhere st imgs bnd v (suc m) h =
    rw (ne_eqb (get_or bnd m 0) v (h m (omega arith))) (find-nowhere st imgs bnd v m (λ i l. h i (omega arith)))

find-by : (st : List Sort) (imgs bnd : List ℕ) (m v : ℕ) → Tabled imgs bnd m → (k : ℕ) → get_or imgs v 0 ≡ k → find (table_map st imgs bnd m) v ≡ image_of st k
find-by st imgs bnd m v t zero e =
    find-nowhere st imgs bnd v m (λ i l q. omega (arith, t.known i l, ap (λ (u : ℕ). get_or imgs u 0) q))
find-by st imgs bnd m v t (suc k) e =
    let o = t.only v (omega arith) in
    let d : get_or imgs v 0 - 1 ≡ k = omega arith in
    find-here st imgs bnd v m o.0 o.1 o.2 ∙ ap (λ (i : ℕ). some (get_or st i leaf)) d

-- THE IMAGE OF A NAME is the sort of its entry.
pub find-is : (st : List Sort) (imgs bnd : List ℕ) (m v : ℕ) → Tabled imgs bnd m → find (table_map st imgs bnd m) v ≡ image_of st (get_or imgs v 0)
find-is st imgs bnd m v t = find-by st imgs bnd m v t (get_or imgs v 0) refl

-- The map of tables that agree on its names.
pub map_same : (st : List Sort) (imgs bnd imgs' bnd' : List ℕ) (m : ℕ) → ((i : ℕ) → i < m → get_or bnd' i 0 ≡ get_or bnd i 0)
    → ((i : ℕ) → i < m → get_or imgs' (get_or bnd i 0) 0 ≡ get_or imgs (get_or bnd i 0) 0) → table_map st imgs' bnd' m ≡ table_map st imgs bnd m
unfolding table_map
map_same st imgs bnd imgs' bnd' zero h q = refl
map_same st imgs bnd imgs' bnd' (suc m) h q =
    rw (h m (omega arith), q m (omega arith), map_same st imgs bnd imgs' bnd' m (λ i l. h i (omega arith)) (λ i l. q i (omega arith))) refl

---------------------------------------------------------------- room for one more name
-- THE PIGEONHOLE: m different numbers below n are at most n.
swapped : (ℕ → ℕ) → ℕ → ℕ → ℕ → ℕ
swapped f n m i = cond (eqb (f i) n) (f m) (f i)

swapped-is : (f : ℕ → ℕ) (n m i : ℕ) → f i ≡ n → swapped f n m i ≡ f m
unfolding swapped
swapped-is f n m i e = rw (eq-eqb (f i) n e) refl

swapped-not : (f : ℕ → ℕ) (n m i : ℕ) → (f i ≡ n → ⊥) → swapped f n m i ≡ f i
unfolding swapped
swapped-not f n m i d = rw (ne_eqb (f i) n d) refl

pub pigeonhole : (n m : ℕ) (f : ℕ → ℕ) → ((i : ℕ) → i < m → f i < n) → ((i j : ℕ) → i < m → j < m → f i ≡ f j → i ≡ j) → m ≤ n
pigeonhole n zero f below one = omega arith
pigeonhole zero (suc m) f below one = absurd (not-suc-le-zero (below 0 (omega arith)))
pigeonhole (suc n) (suc m) f below one =
    let h = pigeonhole n m (swapped f n m)
    (λ i l. by_test (eqb (f i) n)
    (λ q. let e = eqb-true (f i) n q in
    rw (swapped-is f n m i e) (by_test (eqb (f m) n)
    (λ r. absurd (omega (arith, one i m (omega arith) (omega arith) (e ∙ sym (eqb-true (f m) n r)))))
    (λ r. let d = eqb-false (f m) n r in let u = below m (omega arith) in omega arith)))
    (λ q. let d = eqb-false (f i) n q in let u = below i (omega arith) in rw (swapped-not f n m i d) (omega arith)))
    (λ i j l k e. by_test (eqb (f i) n)
    (λ q. let ei = eqb-true (f i) n q in
    by_test (eqb (f j) n)
    (λ r. one i j (omega arith) (omega arith) (ei ∙ sym (eqb-true (f j) n r)))
    (λ r. let z : m ≡ j = one m j (omega arith) (omega arith) (sym (swapped-is f n m i ei) ∙ e ∙ swapped-not f n m j (eqb-false (f j) n r)) in
    absurd (omega arith)))
    (λ q. let di = eqb-false (f i) n q in
    by_test (eqb (f j) n)
    (λ r. let z : i ≡ m = one i m (omega arith) (omega arith) (sym (swapped-not f n m i di) ∙ e ∙ swapped-is f n m j (eqb-true (f j) n r)) in
    absurd (omega arith))
    (λ r. one i j (omega arith) (omega arith) (sym (swapped-not f n m i di) ∙ e ∙ swapped-not f n m j (eqb-false (f j) n r)))))
    in omega arith

var-one : (u v : ℕ) → var u ≡ var v → u ≡ v
var-one u v e = cc

-- Different names of Vars of a store are at most as many as its sorts.
pub names-few : (b p : List ℕ) (n m : ℕ) (f : ℕ → ℕ) → ((i : ℕ) → i < m → VarIn b p n (f i))
    → ((i j : ℕ) → i < m → j < m → f i ≡ f j → i ≡ j) → m ≤ n
names-few b p n m f vars once =
    pigeonhole n m (λ i. index_of (var (f i)) (store_of b p n))
    (λ i l. omega (arith, (index-found (store_of b p n) (var (f i)) (vars i l)).0, store_of-length b p n))
    (λ i j l k e. once i j l k (var-one (f i) (f j)
    (sym (index-found (store_of b p n) (var (f i)) (vars i l)).1
    ∙ ap (λ (u : ℕ). get_or (store_of b p n) u leaf) e
    ∙ (index-found (store_of b p n) (var (f j)) (vars j k)).1)))

---------------------------------------------------------------- one more name
-- The names of bnd with v behind the first m.
pub behind : List ℕ → ℕ → ℕ → ℕ → ℕ
behind bnd m v i = cond (eqb i m) v (get_or bnd i 0)

behind-old : (bnd : List ℕ) (m v i : ℕ) → i < m → behind bnd m v i ≡ get_or bnd i 0
unfolding behind
behind-old bnd m v i l = rw (ne_eqb i m (λ e. omega arith)) refl

behind-new : (bnd : List ℕ) (m v : ℕ) → behind bnd m v m ≡ v
unfolding behind
behind-new bnd m v = rw (eqb-self m) refl

behind-set : (bnd : List ℕ) (m v i : ℕ) → m < length bnd → i < suc m → get_or (set bnd m v) i 0 ≡ behind bnd m v i
behind-set bnd m v i r =
    below_suc (λ (i : ℕ). get_or (set bnd m v) i 0 ≡ behind bnd m v i) m
    (λ i l. get_or-set_other bnd m i v 0 (λ e. omega arith) ∙ sym (behind-old bnd m v i l))
    (get_or-set_same bnd m v 0 r ∙ sym (behind-new bnd m v))
    i

module _ (b p : List ℕ) (n : ℕ) (imgs bnd : List ℕ) (m : ℕ) (h : Mapped b p n imgs bnd m) (v : ℕ) (free : get_or imgs v 0 ≡ 0) (own : 64 ≤ m → VarIn b p n v)
  where
    -- An unbound name differs from those bound before.
    more-apart : (i : ℕ) → i < m → get_or bnd i 0 ≡ v → ⊥
    more-apart i l e = omega (arith, h.tabled.known i l, ap (λ (u : ℕ). get_or imgs u 0) e)

    more-once : (i j : ℕ) → i < suc m → j < suc m → behind bnd m v i ≡ behind bnd m v j → i ≡ j
    more-once i j li lj e =
        below_suc (λ (i : ℕ). (j : ℕ) → j < suc m → behind bnd m v i ≡ behind bnd m v j → i ≡ j) m
        (λ i hi. below_suc (λ (j : ℕ). behind bnd m v i ≡ behind bnd m v j → i ≡ j) m
        (λ j hj q. h.tabled.once i j hi hj (sym (behind-old bnd m v i hi) ∙ q ∙ behind-old bnd m v j hj))
        (λ q. absurd (more-apart i hi (sym (behind-old bnd m v i hi) ∙ q ∙ behind-new bnd m v))))
        (below_suc (λ (j : ℕ). behind bnd m v m ≡ behind bnd m v j → m ≡ j) m
        (λ j hj q. absurd (more-apart j hj (sym (behind-old bnd m v j hj) ∙ sym q ∙ behind-new bnd m v)))
        (λ q. refl))
        i li j lj e

    more-vars : (i : ℕ) → i < suc m → 64 ≤ i → VarIn b p n (behind bnd m v i)
    more-vars =
        below_suc (λ (i : ℕ). 64 ≤ i → VarIn b p n (behind bnd m v i)) m
        (λ i l w. subst (λ (u : ℕ). VarIn b p n u) (sym (behind-old bnd m v i l)) (h.vars i l w))
        (λ w. subst (λ (u : ℕ). VarIn b p n u) (sym (behind-new bnd m v)) (own w))

    -- THERE IS ROOM: an unbound name and the bound ones have as many Vars in the store, but for the first 64.
    pub bind-room : n ≤ 4096 → m < 4160
    bind-room few =
        let z = names-few b p n (suc m - 64) (λ i. behind bnd m v (64 + i))
        (λ i l. more-vars (64 + i) (omega arith) (omega arith))
        (λ i k li lk e. let w = more-once (64 + i) (64 + k) (omega arith) (omega arith) e in omega arith)
        in omega arith

    module _ (few : n ≤ 4096) (j : ℕ) (below : j < n) (small : v < 65536) where
      more_room : m < length bnd
      more_room = omega (arith, bind-room few, h.tabled.order)

      more-images : (u : ℕ) → (u ≡ v → ⊥) → get_or (set imgs v (j + 1)) u 0 ≡ get_or imgs u 0
      more-images u d = get_or-set_other imgs v u (j + 1) 0 d

      more-image : get_or (set imgs v (j + 1)) v 0 ≡ j + 1
      more-image = get_or-set_same imgs v (j + 1) 0 (omega (arith, h.tabled.names))

      more-old : (i : ℕ) → i < m → get_or (set imgs v (j + 1)) (get_or bnd i 0) 0 ≡ get_or imgs (get_or bnd i 0) 0
      more-old i l = more-images (get_or bnd i 0) (more-apart i l)

      more-known : (i : ℕ) → i < suc m → 0 < get_or (set imgs v (j + 1)) (behind bnd m v i) 0
      more-known =
          below_suc (λ (i : ℕ). 0 < get_or (set imgs v (j + 1)) (behind bnd m v i) 0) m
          (λ i l. subst (λ (u : ℕ). 0 < get_or (set imgs v (j + 1)) u 0) (sym (behind-old bnd m v i l))
          (omega (arith, more-old i l, h.tabled.known i l)))
          (subst (λ (u : ℕ). 0 < get_or (set imgs v (j + 1)) u 0) (sym (behind-new bnd m v)) (omega (arith, more-image)))

      more-only : (u : ℕ) → 0 < get_or (set imgs v (j + 1)) u 0 → (i : ℕ) × (i < suc m) × (get_or (set bnd m v) i 0 ≡ u)
      more-only u q = go (ℕ_discrete u v)
        where
          go : Dec (u ≡ v) → (i : ℕ) × (i < suc m) × (get_or (set bnd m v) i 0 ≡ u)
          go (yes e) = (m, omega arith, behind-set bnd m v m more_room (omega arith) ∙ behind-new bnd m v ∙ sym e)
          go (no d) =
              let o = h.tabled.only u (omega (arith, more-images u d)) in
              (o.0, omega (arith, o.1), behind-set bnd m v o.0 more_room (omega (arith, o.1)) ∙ behind-old bnd m v o.0 o.1 ∙ o.2)

      more-below : (u : ℕ) → get_or (set imgs v (j + 1)) u 0 ≤ n
      more-below u = go (ℕ_discrete u v)
        where
          go : Dec (u ≡ v) → get_or (set imgs v (j + 1)) u 0 ≤ n
          go (yes e) = omega (arith, ap (λ (i : ℕ). get_or (set imgs v (j + 1)) i 0) e, more-image)
          go (no d) = omega (arith, more-images u d, h.below u)

      -- THE TABLES WITH ONE MORE NAME are well formed, and their map binds it.
      pub bind-mapped : Mapped b p n (set imgs v (j + 1)) (set bnd m v) (suc m)
      bind-mapped =
          record {
            tabled =
                record {
                  names = length-set imgs v (j + 1) ∙ h.tabled.names;
                  order = length-set bnd m v ∙ h.tabled.order;
                  few = omega (arith, bind-room few);
                  once = λ i k li lk e. more-once i k li lk (sym (behind-set bnd m v i more_room li) ∙ e ∙ behind-set bnd m v k more_room lk);
                  known = λ i l.
                      subst (λ (u : ℕ). 0 < get_or (set imgs v (j + 1)) u 0) (sym (behind-set bnd m v i more_room l)) (more-known i l);
                  only = more-only;
                  rest = λ i l. get_or-set_other bnd m i v 0 (λ e. omega arith) ∙ h.tabled.rest i (omega arith);
                };
            below = more-below;
            vars = λ i l w. subst (λ (u : ℕ). VarIn b p n u) (sym (behind-set bnd m v i more_room l)) (more-vars i l w);
          }

      pub bind-map : table_map (store_of b p n) (set imgs v (j + 1)) (set bnd m v) (suc m) ≡ bind v (sort_at b p n j) (table_map (store_of b p n) imgs bnd m)
      unfolding table_map sort_at
      bind-map =
          let e : get_or (set imgs v (j + 1)) v 0 - 1 ≡ j = omega (arith, more-image) in
          rw (
            behind-set bnd m v m more_room (omega arith),
            behind-new bnd m v,
            e,
            map_same (store_of b p n) imgs bnd (set imgs v (j + 1)) (set bnd m v) m (λ i l. get_or-set_other bnd m i v 0 (λ e. omega arith)) more-old,
          )
          refl

-- No name is bound in tables of zeros.
pub cleared-mapped : (b p : List ℕ) (n : ℕ) (imgs bnd : List ℕ) → Cleared imgs bnd → Mapped b p n imgs bnd 0
cleared-mapped b p n imgs bnd c =
    record {
      tabled =
          record {
            names = c.names;
            order = c.order;
            few = omega arith;
            once = λ i j l k e. absurd (not-suc-le-zero l);
            known = λ i l. absurd (not-suc-le-zero l);
            only = λ v q. absurd (omega (arith, c.images v (omega arith)));
            rest = c.bound;
          };
      below = λ v. omega (arith, c.images v (omega arith));
      vars = λ i l w. absurd (not-suc-le-zero l);
    }

pub cleared-map : (st : List Sort) (imgs bnd : List ℕ) → table_map st imgs bnd 0 ≡ empty
unfolding table_map
cleared-map st imgs bnd = refl
