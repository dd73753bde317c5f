-- A store as a list of sorts: adding and interning keep its sorts distinct and parts before wholes, only append,
-- and change nothing where the sort is there; `index_of` finds the only equal entry.
use Rattle.std.specs.Prelude.{ℕ, zero, suc, ◌+◌, ◌≤◌, ◌<◌, ◌≡◌, refl, Bool, true, false, cond, ◌&&◌, ◌||◌, List, [], ◌∷◌, ◌++◌, length, get_or, take, drop, leb}
use Rattle.std.proofs.Common.{sym, ap, ap₂, subst, ◌∙◌, true≢false, append_assoc, ⊎_elim, arith, not-suc-le-zero, eq-or-lt_of_le, le_of_suc-le-suc, length-append, take-append-drop, take_at, le-leb, leb-true}
use Rattle.std.proofs.lemmas.Bool.{false≢true}
use Rattle.std.proofs.Math.ListN.{get_or-append}
use Rattle.std.proofs.lemmas.List.{get_or_at, take-append-le}
use Rattle.record.specs.Sort.{Sort, Sorts, var, par, node, end, ◌then◌, same}
use Rattle.record.specs.Record.{leaf}
use Rattle.record.specs.Store.{memb, add_once, intern, intern_all, index_of, record_size, bytes_of, room}
use Rattle.record.specs.Cases.{and_left, and_right, not-true-false, or-second}
use Rattle.record.specs.SortLaws.{same-sound, same_refl, same-other}

-- What holds of each index below n, and of n, holds of each below suc n.
pub below_suc : (P : ℕ → Type 0) (n : ℕ) → ((k : ℕ) → k < n → P k) → P n → (k : ℕ) → k < suc n → P k
below_suc P n all here k l =
    ⊎_elim (λ (e : k ≡ n). subst P (sym e) here) (λ h. all k h) (eq-or-lt_of_le (le_of_suc-le-suc l))

or-neither : (a b : Bool) → a ≡ false → b ≡ false → a || b ≡ false
or-neither true b e f = e
or-neither false b e f = f

-- An entry is among the sorts.
pub memb-at : (st : List Sort) (d : Sort) (k : ℕ) → k < length st → memb (get_or st k d) st ≡ true
unfolding memb
memb-at [] d k h = absurd (not-suc-le-zero h)
memb-at (t ∷ ts) d zero h = ap (λ (x : Bool). x || memb t ts) (same_refl t)
memb-at (t ∷ ts) d (suc k) h =
    or-second (same t (get_or ts k d)) (memb (get_or ts k d) ts) (memb-at ts d k (omega arith))

pub memb-none : (st : List Sort) (d s : Sort) → ((k : ℕ) → k < length st → get_or st k d ≡ s → ⊥) → memb s st ≡ false
unfolding memb
memb-none [] d s h = refl
memb-none (t ∷ ts) d s h =
    or-neither (same t s) (memb s ts) (same-other t s (λ e. h 0 (omega arith) e))
    (memb-none ts d s (λ k l. h (suc k) (omega arith)))

-- A sort that is not among them is no entry.
pub memb-absent : (st : List Sort) (s : Sort) → memb s st ≡ false → (k : ℕ) → k < length st → get_or st k leaf ≡ s → ⊥
memb-absent st s e k l q = true≢false (sym (subst (λ (t : Sort). memb t st ≡ true) q (memb-at st leaf k l)) ∙ e)

-- `index_of` is the place of an entry that is equal.
index-by : (t s : Sort) (ts : List Sort) (c : Bool) → same t s ≡ c → (memb s ts ≡ true → (index_of s ts < length ts) × (get_or ts (index_of s ts) leaf ≡ s))
    → c || memb s ts ≡ true → (cond c 0 (suc (index_of s ts)) < suc (length ts)) × (get_or (t ∷ ts) (cond c 0 (suc (index_of s ts))) leaf ≡ s)
index-by t s ts true e h m = (omega arith, same-sound t s e)
index-by t s ts false e h m = (omega (arith, (h m).0), (h m).1)

pub index-found : (st : List Sort) (s : Sort) → memb s st ≡ true → (index_of s st < length st) × (get_or st (index_of s st) leaf ≡ s)
unfolding memb index_of
index-found [] s m = absurd (false≢true m)
index-found (t ∷ ts) s m = index-by t s ts (same t s) refl (index-found ts s) m

-- No sort stands twice.
unfoldable pub Once : List Sort → Type 0
Once st = (i j : ℕ) → i < length st → j < length st → get_or st i leaf ≡ get_or st j leaf → i ≡ j

once-tail : (t : Sort) (ts : List Sort) → Once (t ∷ ts) → Once ts
unfolding Once
once-tail t ts h i j li lj e = let z : suc i ≡ suc j = h (suc i) (suc j) (omega arith) (omega arith) e in omega arith

once-head : (t : Sort) (ts : List Sort) (k : ℕ) → Once (t ∷ ts) → k < length ts → t ≡ get_or ts k leaf → ⊥
unfolding Once
once-head t ts k o l e = let z : zero ≡ suc k = o 0 (suc k) (omega arith) (omega arith) e in omega arith

-- THE ONLY EQUAL ENTRY: the number of an entry of distinct sorts is its place.
pub index_at : (st : List Sort) → Once st → (k : ℕ) → k < length st → index_of (get_or st k leaf) st ≡ k
unfolding index_of
index_at [] o k l = absurd (not-suc-le-zero l)
index_at (t ∷ ts) o zero l = rw (same_refl t)
index_at (t ∷ ts) o (suc k) l =
    rw (same-other t (get_or ts k leaf) (once-head t ts k o (omega arith))) (ap suc (index_at ts (once-tail t ts o) k (omega arith)))

pub add-known : (st : List Sort) (s : Sort) → memb s st ≡ true → add_once st s ≡ st
unfolding add_once
add-known st s e = simp e

pub add-new : (st : List Sort) (s : Sort) → memb s st ≡ false → add_once st s ≡ st ++ (s ∷ [])
unfolding add_once
add-new st s e = simp e

-- ADDING KEEPS SORTS DISTINCT.
once-new : (st : List Sort) (s : Sort) → Once st → memb s st ≡ false → Once (st ++ (s ∷ []))
unfolding Once
once-new st s o m i j li lj e =
    below_suc (λ (i : ℕ). (j : ℕ) → j < suc (length st) → at i ≡ at j → i ≡ j) (length st)
    (λ i hi. below_suc (λ (j : ℕ). at i ≡ at j → i ≡ j) (length st)
    (λ j hj q. o i j hi hj (sym (old i hi) ∙ q ∙ old j hj))
    (λ q. absurd (memb-absent st s m i hi (sym (old i hi) ∙ q ∙ new))))
    (below_suc (λ (j : ℕ). at (length st) ≡ at j → length st ≡ j) (length st)
    (λ j hj q. absurd (memb-absent st s m j hj (sym (old j hj) ∙ sym q ∙ new)))
    (λ q. refl))
    i (omega (arith, length-append st (s ∷ []))) j (omega (arith, length-append st (s ∷ []))) e
  where
    at : ℕ → Sort
    at k = get_or (st ++ (s ∷ [])) k leaf

    old : (k : ℕ) → k < length st → get_or (st ++ (s ∷ [])) k leaf ≡ get_or st k leaf
    old k l = get_or-append st (s ∷ []) leaf k l

    new : get_or (st ++ (s ∷ [])) (length st) leaf ≡ s
    new = get_or_at st s [] leaf (length st) refl

once_by : (c : Bool) (st : List Sort) (s : Sort) → memb s st ≡ c → Once st → Once (cond c st (st ++ (s ∷ [])))
once_by true st s e o = o
once_by false st s e o = once-new st s o e

pub once-add : (st : List Sort) (s : Sort) → Once st → Once (add_once st s)
unfolding add_once
once-add st s o = once_by (memb s st) st s refl o

mutual
  unfolding intern

  pub once-intern : (s : Sort) (st : List Sort) → Once st → Once (intern s st)
  once-intern (var v) st o = once-add st (var v) o
  once-intern (par ns b) st o = once-add (intern b st) (par ns b) (once-intern b st o)
  once-intern (node k a w ss) st o = once-add (intern_all ss st) (node k a w ss) (once-intern-all ss st o)

  pub once-intern-all : (ss : Sorts) (st : List Sort) → Once st → Once (intern_all ss st)
  once-intern-all end st o = o
  once-intern-all (s then ss) st o = once-intern-all ss (intern s st) (once-intern s st o)

-- INTERNING ONLY APPENDS: the sorts st are the beginning of st'.
abbrev pub Starts : List Sort → List Sort → Type 0
Starts st st' = (ts : List Sort) × (st' ≡ st ++ ts)

append-nil : (st : List Sort) → st ≡ st ++ []
append-nil [] = refl
append-nil (s ∷ st) = ap (λ (l : List Sort). s ∷ l) (append-nil st)

pub starts-self : (st : List Sort) → Starts st st
starts-self st = ([], append-nil st)

pub starts-trans : (a b c : List Sort) → Starts a b → Starts b c → Starts a c
starts-trans a b c h k = (h.0 ++ k.0, k.1 ∙ ap (λ (l : List Sort). l ++ k.0) h.1 ∙ append_assoc a h.0 k.0)

starts_by : (t : Bool) (st : List Sort) (s : Sort) → Starts st (cond t st (st ++ (s ∷ [])))
starts_by true st s = starts-self st
starts_by false st s = (s ∷ [], refl)

pub starts-add : (st : List Sort) (s : Sort) → Starts st (add_once st s)
unfolding add_once
starts-add st s = starts_by (memb s st) st s

mutual
  unfolding intern

  pub starts-intern : (s : Sort) (st : List Sort) → Starts st (intern s st)
  starts-intern (var v) st = starts-add st (var v)
  starts-intern (par ns b) st =
      starts-trans st (intern b st) (add_once (intern b st) (par ns b)) (starts-intern b st) (starts-add (intern b st) (par ns b))
  starts-intern (node k a w ss) st =
      starts-trans st (intern_all ss st) (add_once (intern_all ss st) (node k a w ss)) (starts-intern-all ss st)
      (starts-add (intern_all ss st) (node k a w ss))

  pub starts-intern-all : (ss : Sorts) (st : List Sort) → Starts st (intern_all ss st)
  starts-intern-all end st = starts-self st
  starts-intern-all (s then ss) st =
      starts-trans st (intern s st) (intern_all ss (intern s st)) (starts-intern s st) (starts-intern-all ss (intern s st))

-- What was there keeps its number.
pub starts-at : (st st' : List Sort) → Starts st st' → (k : ℕ) → k < length st → get_or st' k leaf ≡ get_or st k leaf
starts-at st st' h k l = ap (λ (x : List Sort). get_or x k leaf) h.1 ∙ get_or-append st h.0 leaf k l

pub starts-count : (st st' : List Sort) → Starts st st' → length st ≤ length st'
starts-count st st' h = omega (arith, ap length h.1, length-append st h.0)

bytes-append-all : (st ts : List Sort) → bytes_of (st ++ ts) ≡ bytes_of st + bytes_of ts
unfolding bytes_of
bytes-append-all [] ts = omega arith
bytes-append-all (s ∷ st) ts = omega (arith, bytes-append-all st ts)

pub bytes-append : (st : List Sort) (s : Sort) → bytes_of (st ++ (s ∷ [])) ≡ bytes_of st + record_size s
unfolding bytes_of
bytes-append st s = bytes-append-all st (s ∷ []) ∙ omega arith

pub starts-bytes : (st st' : List Sort) → Starts st st' → bytes_of st ≤ bytes_of st'
starts-bytes st st' h = omega (arith, ap bytes_of h.1, bytes-append-all st h.0)

pub memb-starts : (st st' : List Sort) (s : Sort) → Starts st st' → memb s st ≡ true → memb s st' ≡ true
memb-starts st st' s h m =
    let f = index-found st s m in
    subst (λ (t : Sort). memb t st' ≡ true) (starts-at st st' h (index_of s st) f.0 ∙ f.1)
    (memb-at st' leaf (index_of s st) (omega (arith, f.0, starts-count st st' h)))

pub index-starts : (st st' : List Sort) (s : Sort) → Once st' → Starts st st' → memb s st ≡ true → index_of s st' ≡ index_of s st
index-starts st st' s o h m =
    let f = index-found st s m in
    subst (λ (t : Sort). index_of t st' ≡ index_of s st) (starts-at st st' h (index_of s st) f.0 ∙ f.1)
    (index_at st' o (index_of s st) (omega (arith, f.0, starts-count st st' h)))

-- What is added is there.
memb-by : (c : Bool) (st : List Sort) (s : Sort) → memb s st ≡ c → memb s (cond c st (st ++ (s ∷ []))) ≡ true
memb-by true st s e = e
memb-by false st s e =
    subst (λ (t : Sort). memb t (st ++ (s ∷ [])) ≡ true) (get_or_at st s [] leaf (length st) refl)
    (memb-at (st ++ (s ∷ [])) leaf (length st) (omega (arith, length-append st (s ∷ []))))

pub memb-add : (st : List Sort) (s : Sort) → memb s (add_once st s) ≡ true
unfolding add_once
memb-add st s = memb-by (memb s st) st s refl

pub memb-intern : (s : Sort) (st : List Sort) → memb s (intern s st) ≡ true
unfolding intern
memb-intern (var v) st = memb-add st (var v)
memb-intern (par ns b) st = memb-add (intern b st) (par ns b)
memb-intern (node k a w ss) st = memb-add (intern_all ss st) (node k a w ss)

-- Whether the parts of a sort are among the sorts of a store.
unfoldable pub memb_all : Sorts → List Sort → Bool
unfolding memb
memb_all end st = true
memb_all (s then ss) st = memb s st && memb_all ss st

unfoldable pub parts_in : Sort → List Sort → Bool
unfolding memb_all
parts_in (var v) st = true
parts_in (par ns b) st = memb b st
parts_in (node k a w ss) st = memb_all ss st

all-starts : (st st' : List Sort) (ss : Sorts) → Starts st st' → memb_all ss st ≡ true → memb_all ss st' ≡ true
unfolding memb_all
all-starts st st' end h m = refl
all-starts st st' (s then ss) h m =
    ap₂ ◌&&◌ (memb-starts st st' s h (and_left (memb s st) (memb_all ss st) m))
    (all-starts st st' ss h (and_right (memb s st) (memb_all ss st) m))

pub parts-starts : (st st' : List Sort) (s : Sort) → Starts st st' → parts_in s st ≡ true → parts_in s st' ≡ true
unfolding parts_in
parts-starts st st' (var v) h m = refl
parts-starts st st' (par ns b) h m = memb-starts st st' b h m
parts-starts st st' (node k a w ss) h m = all-starts st st' ss h m

pub memb-intern-all : (ss : Sorts) (st : List Sort) → memb_all ss (intern_all ss st) ≡ true
unfolding memb_all intern_all
memb-intern-all end st = refl
memb-intern-all (s then ss) st =
    ap₂ ◌&&◌ (memb-starts (intern s st) (intern_all ss (intern s st)) s (starts-intern-all ss (intern s st)) (memb-intern s st))
    (memb-intern-all ss (intern s st))

-- PARTS BEFORE WHOLES: the parts of each entry are among the entries before it.
unfoldable pub Ordered : List Sort → Type 0
Ordered st = (k : ℕ) → k < length st → parts_in (get_or st k leaf) (take k st) ≡ true

ordered-new : (st : List Sort) (s : Sort) → Ordered st → parts_in s st ≡ true → Ordered (st ++ (s ∷ []))
unfolding Ordered
ordered-new st s o m k l =
    below_suc (λ (k : ℕ). parts_in (get_or (st ++ (s ∷ [])) k leaf) (take k (st ++ (s ∷ []))) ≡ true) (length st)
    (λ k h.
    ap₂ parts_in (get_or-append st (s ∷ []) leaf k h) (take-append-le k st (s ∷ []) (omega arith)) ∙ o k h)
    (ap₂ parts_in (get_or_at st s [] leaf (length st) refl) (take_at st (s ∷ []) (length st) refl) ∙ m)
    k (omega (arith, length-append st (s ∷ [])))

ordered-by : (c : Bool) (st : List Sort) (s : Sort) → Ordered st → parts_in s st ≡ true → Ordered (cond c st (st ++ (s ∷ [])))
ordered-by true st s o m = o
ordered-by false st s o m = ordered-new st s o m

pub ordered-add : (st : List Sort) (s : Sort) → Ordered st → parts_in s st ≡ true → Ordered (add_once st s)
unfolding add_once
ordered-add st s o m = ordered-by (memb s st) st s o m

mutual
  unfolding intern parts_in

  pub ordered-intern : (s : Sort) (st : List Sort) → Ordered st → Ordered (intern s st)
  ordered-intern (var v) st o = ordered-add st (var v) o refl
  ordered-intern (par ns b) st o = ordered-add (intern b st) (par ns b) (ordered-intern b st o) (memb-intern b st)
  ordered-intern (node k a w ss) st o =
      ordered-add (intern_all ss st) (node k a w ss) (ordered-intern-all ss st o) (memb-intern-all ss st)

  pub ordered-intern-all : (ss : Sorts) (st : List Sort) → Ordered st → Ordered (intern_all ss st)
  ordered-intern-all end st o = o
  ordered-intern-all (s then ss) st o = ordered-intern-all ss (intern s st) (ordered-intern s st o)

-- The parts of a sort that is there are there.
pub parts-known : (st : List Sort) (s : Sort) → Ordered st → memb s st ≡ true → parts_in s st ≡ true
unfolding Ordered
parts-known st s o m =
    let f = index-found st s m in
    let k = index_of s st in
    parts-starts (take k st) st s (drop k st, sym (take-append-drop k st))
    (subst (λ (t : Sort). parts_in t (take k st) ≡ true) f.1 (o k f.0))

mutual
  unfolding intern parts_in

  -- INTERNING A SORT THAT IS THERE CHANGES NOTHING.
  pub intern-known : (s : Sort) (st : List Sort) → Ordered st → memb s st ≡ true → intern s st ≡ st
  intern-known (var v) st o m = add-known st (var v) m
  intern-known (par ns b) st o m =
      ap (λ (l : List Sort). add_once l (par ns b)) (intern-known b st o (parts-known st (par ns b) o m)) ∙ add-known st (par ns b) m
  intern-known (node k a w ss) st o m =
      ap (λ (l : List Sort). add_once l (node k a w ss)) (intern-all-known ss st o (parts-known st (node k a w ss) o m))
      ∙ add-known st (node k a w ss) m

  pub intern-all-known : (ss : Sorts) (st : List Sort) → Ordered st → memb_all ss st ≡ true → intern_all ss st ≡ st
  intern-all-known end st o m = refl
  intern-all-known (s then ss) st o m =
      ap (intern_all ss) (intern-known s st o (and_left (memb s st) (memb_all ss st) m))
      ∙ intern-all-known ss st o (and_right (memb s st) (memb_all ss st) m)

-- INTERNING A SORT WHOSE PARTS ARE THERE adds at most itself.
pub intern-parts : (s : Sort) (st : List Sort) → Ordered st → parts_in s st ≡ true → intern s st ≡ add_once st s
unfolding intern parts_in
intern-parts (var v) st o m = refl
intern-parts (par ns b) st o m = ap (λ (l : List Sort). add_once l (par ns b)) (intern-known b st o m)
intern-parts (node k a w ss) st o m = ap (λ (l : List Sort). add_once l (node k a w ss)) (intern-all-known ss st o m)

-- A store with no room leaves none for what is appended to it.
and-off : (x y x' y' : Bool) → (x' ≡ true → x ≡ true) → (y' ≡ true → y ≡ true) → x && y ≡ false → x' && y' ≡ false
and-off true y true y' h k e = not-true-false y' (λ q. true≢false (sym (k q) ∙ e))
and-off true y false y' h k e = refl
and-off false y true y' h k e = absurd (false≢true (h refl))
and-off false y false y' h k e = refl

leb-down : (a a' n : ℕ) → a ≤ a' → leb a' n ≡ true → leb a n ≡ true
leb-down a a' n h e = le-leb a n (omega (arith, leb-true a' n e))

pub room-starts : (records places : ℕ) (st st' : List Sort) → Starts st st' → room records places st ≡ false → room records places st' ≡ false
unfolding room
room-starts records places st st' h e =
    let b = starts-bytes st st' h in
    let c = starts-count st st' h in
    and-off (leb (bytes_of st) records) (leb (length st) places && leb (length st) 4096) (leb (bytes_of st') records)
    (leb (length st') places && leb (length st') 4096) (leb-down (bytes_of st) (bytes_of st') records b)
    (λ q.
    ap₂ ◌&&◌ (leb-down (length st) (length st') places c (and_left (leb (length st') places) (leb (length st') 4096) q))
    (leb-down (length st) (length st') 4096 c (and_right (leb (length st') places) (leb (length st') 4096) q)))
    e
