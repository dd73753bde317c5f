-- Laws of what one substitution knows already: a table of zeros says nothing, an entry that is read or written says the
-- truth, and stays true while the store grows.
use Rattle.std.specs.Prelude.{ℕ, zero, suc, ◌+◌, ◌-◌, ◌≤◌, ◌<◌, ◌≡◌, refl, List, [], ◌∷◌, get_or, set, replicate, Result, Ok, Err, IsErr}
use Rattle.std.proofs.Common.{sym, ap, ap₂, subst, ◌∙◌, arith}
use Rattle.record.specs.Sort.{Sort}
use Rattle.record.specs.Decode.{store_of, sort_at}
use Rattle.record.specs.SortLists.{Starts, starts-at, starts-count}
use Rattle.record.specs.StoreLaws.{store_of-length}
use Rattle.record.specs.Store.{intern, intern_all}
use Rattle.store.specs.Good.{Good}
use Rattle.substitution.specs.Substitution.{apply}
use Rattle.apply_walk.specs.Images.{images_of, ImageTable, table-starts, images-same}
use Rattle.apply_walk.specs.Made.{Made, made-starts, made_more, made-known, made-here, made-known-sort}
use Rattle.store.specs.declared.Full.{Full}
use Rattle.apply_walk.specs.Halted.{Halted}
use Rattle.apply_walk.specs.Contract.{answer_at, answers_at, SizeIs, ReplacedIs, PartsAre}
use Rattle.apply_walk.specs.Known.{EntrySays, Known, Weighs, Weighed, KnownIs, KnownAllAre}
use Rattle.apply_walk.specs.HeldLaws.{zeros-held}

-- In a store that has grown, an old sort and its answer are as they were.
module _ (b p c q : List ℕ) (n m : ℕ) (l : List ℕ) (starts : Starts (store_of b p n) (store_of c q m)) (t : ImageTable l n) where
  pub image-map-same : images_of (store_of c q m) l ≡ images_of (store_of b p n) l
  image-map-same = images-same (store_of b p n) (store_of c q m) l starts (subst (ImageTable l) (sym (store_of-length b p n)) t)

  pub sort-same : (k : ℕ) → k < n → sort_at c q m k ≡ sort_at b p n k
  unfolding sort_at
  sort-same k h = starts-at (store_of b p n) (store_of c q m) starts k (omega (arith, store_of-length b p n))

  pub answer-same : (k : ℕ) → k < n → answer_at c q m l k ≡ answer_at b p n l k
  answer-same k h = ap₂ apply image-map-same (sort-same k h)

  more : n ≤ m
  more = omega (arith, starts-count (store_of b p n) (store_of c q m) starts, store_of-length b p n, store_of-length c q m)

  pub table_same : ImageTable l m
  table_same = table-starts l n m more t

  -- WHILE THE STORE GROWS the table of answers stays true.
  pub known_grown : (ws : List ℕ) → Known b p n l ws → Known c q m l ws
  known_grown ws h =
      record {
        each = λ k i e.
            let w = h.each k i e in
            (omega (arith, w.0, more), omega (arith, w.1, more), sort-same i w.1 ∙ w.2 ∙ sym (answer-same k w.0));
      }

-- A rule for every entry of a table holds after one is written by the rule.
pub table-set : (Q : ℕ → ℕ → Type 0) (ws : List ℕ) (k v : ℕ) → ((j : ℕ) → Q j (get_or ws j 0)) → Q k v → (j : ℕ) → Q j (get_or (set ws k v) j 0)
table-set Q [] k v all one j = all j
table-set Q (a ∷ ws) zero v all one zero = one
table-set Q (a ∷ ws) zero v all one (suc j) = all (suc j)
table-set Q (a ∷ ws) (suc k) v all one zero = all zero
table-set Q (a ∷ ws) (suc k) v all one (suc j) = table-set (λ (i x : ℕ). Q (suc i) x) ws k v (λ i. all (suc i)) one j

-- THE ANSWERS.
pub known-none : (b p : List ℕ) (n : ℕ) (l : List ℕ) (m : ℕ) → Known b p n l (replicate m 0)
known-none b p n l m = record { each = λ k i e. absurd (omega (arith, e, zeros-held m k)) }

pub known-set : (b p : List ℕ) (n : ℕ) (l ws : List ℕ) (k i : ℕ) → Known b p n l ws → k < n → i < n → sort_at b p n i ≡ answer_at b p n l k
    → Known b p n l (set ws k (i + 1))
known-set b p n l ws k i h a c e =
    record { each = table-set (EntrySays b p n l) ws k (i + 1) h.each (λ j q. (a, omega arith, ap (sort_at b p n) (number j q) ∙ e)) }
  where
    number : (j : ℕ) → i + 1 ≡ suc j → j ≡ i
    number j q = omega arith

-- The answer for the sort k is made, and the table has it.
pub known-added : {c q : List ℕ} {n u k : ℕ} {l d t ix : List ℕ} {i m v : ℕ} → Made c q n u (answer_at c q n l k) d t ix i m v → ImageTable l n → k < n
    → {ws : List ℕ} → Known c q n l ws → Known d t m l (set ws k (i + 1))
known-added {c} {q} {n} {u} {k} {l} {d} {t} {ix} {i} {m} {v} w tab h {ws} old =
    let s = answer_at c q n l k in
    let grows = made-starts c q n u s d t ix i m v w in
    known-set d t m l ws k i (known_grown c q d t n m l grows tab ws old)
    (omega (arith, made_more c q n u s d t ix i m v w)) (made-known c q n u s d t ix i m v w)
    (made-here c q n u s d t ix i m v w ∙ sym (answer-same c q d t n m l grows tab k h))

-- What the table has is made.
pub known-made : {b p ix : List ℕ} {n u : ℕ} → Good b p ix n u → (k : ℕ) {l ws : List ℕ} → Known b p n l ws
    → {v : ℕ} → v ≡ get_or ws k 0 → (v ≡ 0 → ⊥) → Made b p n u (answer_at b p n l k) b p ix (v - 1) n u
known-made g k h {v = zero} e d = absurd (d refl)
known-made {b} {p} {ix} {n} {u} g k {l} {ws} h {v = suc i} e d =
    let w = h.each k i (sym e) in
    let o : suc i - 1 ≡ i = omega arith in
    subst (λ (j : ℕ). Made b p n u (answer_at b p n l k) b p ix j n u) (sym o)
    (subst (λ (s : Sort). Made b p n u s b p ix i n u) w.2 (made-known-sort b p ix n u g i w.1))

-- Without the table it is the promise of a sort made.
pub known-replaced : (b p : List ℕ) (n u k : ℕ) (l c q ix' ws' : List ℕ) (m v : ℕ) (r : Result ℕ Full) → KnownIs b p n u k l c q ix' ws' m v r
    → ReplacedIs b p n u (answer_at b p n l k) c q ix' m v r
known-replaced b p n u k l c q ix' ws' m v (Ok i) w = w.made
known-replaced b p n u k l c q ix' ws' m v (Err e) w = w

pub known-parts : (b p : List ℕ) (n u : ℕ) (parts l c q ix' ws' o : List ℕ) (m v : ℕ) (r : Result (Unit {0}) Full)
    → KnownAllAre b p n u parts l c q ix' ws' o m v r → PartsAre b p n u parts l c q ix' o m v r
known-parts b p n u parts l c q ix' ws' o m v (Ok w) h = h.made
known-parts b p n u parts l c q ix' ws' o m v (Err e) h = h

-- Where there was no room.
pub known-halted : {b p : List ℕ} {n u : ℕ} (k : ℕ) (l : List ℕ) {c q ix' : List ℕ} (ws' : List ℕ) {m v : ℕ} (r : Result ℕ Full) → IsErr r
    → Halted b p n u (intern (answer_at b p n l k) (store_of b p n)) c q ix' m v → KnownIs b p n u k l c q ix' ws' m v r
known-halted k l ws' (Ok i) e h = cc
known-halted k l ws' (Err f) e h = h

pub known-parts-halted : {b p : List ℕ} {n u : ℕ} (parts l : List ℕ) {c q ix' : List ℕ} (ws' o : List ℕ) {m v : ℕ} (r : Result (Unit {0}) Full) → IsErr r
    → Halted b p n u (intern_all (answers_at b p n l parts) (store_of b p n)) c q ix' m v → KnownAllAre b p n u parts l c q ix' ws' o m v r
known-parts-halted parts l ws' o (Ok w) e h = cc
known-parts-halted parts l ws' o (Err f) e h = h

-- THE SIZES.
pub weighed-none : (b p : List ℕ) (n : ℕ) (l : List ℕ) (m : ℕ) → Weighed b p n l (replicate m 0)
weighed-none b p n l m = record { each = λ k v e. absurd (omega (arith, e, zeros-held m k)) }

pub weighed-set : {b p : List ℕ} {n : ℕ} {l ws : List ℕ} (k : ℕ) {v : ℕ} → Weighed b p n l ws → SizeIs b p n k l v → Weighed b p n l (set ws k v)
weighed-set {b} {p} {n} {l} {ws} k {v} h is = record { each = table-set (Weighs b p n l) ws k v h.each (λ j q. is) }

pub weighed-is : {b p : List ℕ} {n : ℕ} (k : ℕ) {l ws : List ℕ} → Weighed b p n l ws → {v : ℕ} → v ≡ get_or ws k 0 → (v ≡ 0 → ⊥) → SizeIs b p n k l v
weighed-is k h {v = zero} e d = absurd (d refl)
weighed-is k h {v = suc v} e d = e ∙ h.each k v (sym e)
