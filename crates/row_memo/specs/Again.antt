-- AN OUTCOME THAT ADDED NOTHING IS THE SAME OVER EVERY STORE THAT HAS GROWN FROM THERE: an answer that is there has its number
-- still, a refusal stands, and what had no room has none, since interning it needs no less than before.
use Rattle.std.specs.Prelude.{ℕ, suc, ◌+◌, ◌≤◌, ◌≡◌, Bool, cond, ◌&&◌, length, leb}
use Rattle.std.proofs.Math.Path.{refl, ap, ap₂, subst}
use Rattle.std.proofs.Common.{sym, ◌∙◌, true≢false, arith, le-leb, leb-true}
use Rattle.std.proofs.Math.Bool.{true, false}
use Rattle.std.proofs.lemmas.Bool.{false≢true}
use mathlib.Core.List.{List, [], ◌∷◌}
use Rattle.record.specs.Sort.{Sort, same}
use Rattle.record.specs.Store.{memb, intern, index_of, record_size, bytes_of, room}
use Rattle.record.specs.Cases.{or-first, or-second, or_cases, or-other, by_test, three-right, not-true-false}
use Rattle.record.specs.SortLaws.{same-sound, same_refl}
use Rattle.record.specs.SortLists.{Once, Ordered, Starts, starts-at, starts-count, memb-intern, memb-starts, once-intern, ordered-intern, index-found, index-starts, intern-known}
use Rattle.record.specs.StoreTheorems.{inside, intern-holds}
use Rattle.sheet.specs.Sheet.{Lengths}
use Rattle.row_rules.specs.Verdict.{Verdict, sort, refused}
use Rattle.row_rules.specs.Outcome.{within, CodedStore, outcome}
use Rattle.row_rules.specs.Outcomes.{answered}

---------------------------------------------------------------- distinct sorts among others
-- The others without the first that is equal.
without : Sort → List Sort → List Sort
unfolding same
without s [] = []
without s (t ∷ ts) = cond (same t s) ts (t ∷ without s ts)

without-less : (s : Sort) (ts : List Sort) → memb s ts ≡ true
    → (bytes_of ts ≡ record_size s + bytes_of (without s ts)) × (length ts ≡ suc (length (without s ts)))
unfolding memb bytes_of without
without-less s [] m = absurd (false≢true m)
without-less s (t ∷ ts) m =
    by_test (same t s) (λ q. rw q (ap (λ (x : Sort). record_size x + bytes_of ts) (same-sound t s q), refl))
    (λ q.
    let h = without-less s ts (or-other (same t s) (memb s ts) q m) in
    rw q (omega (arith, h.0), omega (arith, h.1)))

without-keeps : (s t : Sort) (ts : List Sort) → same s t ≡ false → memb t ts ≡ true → memb t (without s ts) ≡ true
unfolding memb without
without-keeps s t [] d m = m
without-keeps s t (r ∷ ts) d m =
    by_test (same r s)
    (λ q.
    let e : same r t ≡ false = subst (λ (x : Sort). same x t ≡ false) (sym (same-sound r s q)) d in
    rw q (or-other (same r t) (memb t ts) e m))
    (λ q.
    rw q
    (or_cases (same r t) (memb t ts) m (λ y. or-first (same r t) (memb t (without s ts)) y)
    (λ y. or-second (same r t) (memb t (without s ts)) (without-keeps s t ts d y))))

-- DISTINCT SORTS THAT ARE ALL AMONG OTHERS take no more room than those.
among : (ss ts : List Sort) → Once ss → ((t : Sort) → memb t ss ≡ true → memb t ts ≡ true) → (bytes_of ss ≤ bytes_of ts) × (length ss ≤ length ts)
unfolding Once bytes_of memb
among [] ts o h = (omega arith, omega arith)
among (s ∷ ss) ts o h =
    let less = without-less s ts (h s (or-first (same s s) (memb s ss) (same_refl s))) in
    let rest : (t : Sort) → memb t ss ≡ true → memb t (without s ts) ≡ true =
    λ t m.
    without-keeps s t ts
    (not-true-false (same s t) (λ q.
    let f = index-found ss t m in
    let z : 0 ≡ suc (index_of t ss) = o 0 (suc (index_of t ss)) (omega arith) (omega (arith, f.0)) (same-sound s t q ∙ sym f.1) in
    omega arith))
    (h t (or-second (same s t) (memb t ss) m)) in
    let more = among ss (without s ts) (λ i j hi hj e. let z : suc i ≡ suc j = o (suc i) (suc j) (omega arith) (omega arith) e in omega arith) rest in
    (omega (arith, less.0, more.0), omega (arith, less.1, more.1))

-- The beginning of distinct sorts is distinct.
once-starts : (st st' : List Sort) → Starts st st' → Once st' → Once st
unfolding Once
once-starts st st' g o i j hi hj e =
    let more = starts-count st st' g in
    o i j (omega arith) (omega arith) (starts-at st st' g i hi ∙ e ∙ sym (starts-at st st' g j hj))

-- So a sort that has no room has none in a store that has grown.
room-among : (records places : ℕ) (ss ts : List Sort) → bytes_of ss ≤ bytes_of ts → length ss ≤ length ts → room records places ts ≡ true → room records places ss ≡ true
unfolding room
room-among records places ss ts b c e =
    let h = three-right (leb (bytes_of ts) records) (leb (length ts) places) (leb (length ts) 4096) e in
    ap₂ ◌&&◌ (le-leb (bytes_of ss) records (omega (arith, leb-true (bytes_of ts) records h.0)))
    (ap₂ ◌&&◌ (le-leb (length ss) places (omega (arith, leb-true (length ts) places h.1)))
    (le-leb (length ss) 4096 (omega (arith, leb-true (length ts) 4096 h.2))))

pub no-more-room : (records places : ℕ) (s : Sort) (st st' : List Sort) → Once st → Starts st st'
    → room records places (intern s st) ≡ false → room records places (intern s st') ≡ false
no-more-room records places s st st' o g e =
    let a =
    among (intern s st) (intern s st') (once-intern s st o) (λ t m.
    intern-holds t s st'
    ∙ or_cases (memb t st) (inside t s) (sym (intern-holds t s st) ∙ m)
    (λ y. or-first (memb t st') (inside t s) (memb-starts st st' t g y))
    (λ y. or-second (memb t st') (inside t s) y)) in
    not-true-false (room records places (intern s st')) (λ q. true≢false (sym (room-among records places (intern s st) (intern s st') a.0 a.1 q) ∙ e))

---------------------------------------------------------------- the outcome again
-- An answer that is there, of a store with room: nothing is added.
answer-there : (l : Lengths) (st : List Sort) (s : Sort) → within s ≡ true → Ordered st → room l.records l.places st ≡ true → memb s st ≡ true
    → outcome l st (sort s) ≡ record { store = st; code = index_of s st }
unfolding outcome
answer-there l st s w o r m =
    let e = intern-known s st o m in
    ap₂ (λ (x : Bool) (y : List Sort). answered l st s x (room l.records l.places y)) w e
    ∙ ap (λ (x : Bool). answered l st s true x) r
    ∙ ap (λ (y : List Sort). record { store = y; code = index_of s y }) e

-- An outcome by its two tests: over the store after it nothing is added, and the code is the same.
module _ (l : Lengths) (st : List Sort) (s : Sort) (o : Ordered st) where
  settled-by : (w r : Bool) → within s ≡ w → room l.records l.places (intern s st) ≡ r → (x : CodedStore) → answered l st s w r ≡ x
      → outcome l x.store (sort s) ≡ x
  unfolding outcome
  settled-by true true ew er x e =
      subst (λ (y : CodedStore). outcome l y.store (sort s) ≡ y) e
      (answer-there l (intern s st) s ew (ordered-intern s st o) er (memb-intern s st))
  settled-by true false ew er x e =
      subst (λ (y : CodedStore). outcome l y.store (sort s) ≡ y) e
      (ap₂ (λ (w r : Bool). answered l st s w r) ew er)
  settled-by false r ew er x e =
      subst (λ (y : CodedStore). outcome l y.store (sort s) ≡ y) e
      (ap (λ (w : Bool). answered l st s w (room l.records l.places (intern s st))) ew)

pub outcome-settled : (l : Lengths) (st : List Sort) (v : Verdict) → Ordered st → (x : CodedStore) → outcome l st v ≡ x → outcome l x.store v ≡ x
unfolding outcome
outcome-settled l st (sort s) o x e = settled-by l st s o (within s) (room l.records l.places (intern s st)) refl refl x e
outcome-settled l st (refused c) o x e = subst (λ (y : CodedStore). outcome l y.store (refused c) ≡ y) e refl

-- THE SAME OVER A STORE THAT HAS GROWN.
module _ (l : Lengths) (st st' : List Sort) (g : Starts st st') (once : Once st') (o : Ordered st') (fits : room l.records l.places st' ≡ true) (code : ℕ) where
  stays_by : (s : Sort) (w r : Bool) → within s ≡ w → room l.records l.places (intern s st) ≡ r → answered l st s w r ≡ record { store = st; code = code }
      → outcome l st' (sort s) ≡ record { store = st'; code = code }
  unfolding outcome
  stays_by s true true ew er e =
      let here : memb s st ≡ true = subst (λ (y : List Sort). memb s y ≡ true) (ap (λ (x : CodedStore). x.store) e) (memb-intern s st) in
      answer-there l st' s ew o fits (memb-starts st st' s g here)
      ∙ ap (λ (i : ℕ). record { store = st'; code = i })
      (index-starts st st' s once g here ∙ ap (index_of s) (sym (ap (λ (x : CodedStore). x.store) e)) ∙ ap (λ (x : CodedStore). x.code) e)
  stays_by s true false ew er e =
      ap₂ (λ (w r : Bool). answered l st' s w r) ew (no-more-room l.records l.places s st st' (once-starts st st' g once) g er)
      ∙ ap (λ (i : ℕ). record { store = st'; code = i }) (ap (λ (x : CodedStore). x.code) e)
  stays_by s false r ew er e =
      ap (λ (w : Bool). answered l st' s w (room l.records l.places (intern s st'))) ew
      ∙ ap (λ (i : ℕ). record { store = st'; code = i }) (ap (λ (x : CodedStore). x.code) e)

  pub outcome-stays : (v : Verdict) → outcome l st v ≡ record { store = st; code = code } → outcome l st' v ≡ record { store = st'; code = code }
  unfolding outcome
  outcome-stays (sort s) e = stays_by s (within s) (room l.records l.places (intern s st)) refl refl e
  outcome-stays (refused c) e = ap (λ (i : ℕ). record { store = st'; code = i }) (ap (λ (x : CodedStore). x.code) e)
