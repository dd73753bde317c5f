-- The sorts of a well-formed store, as a list: parts stand before wholes, and the first m of them are the store of m.
use Rattle.std.specs.Prelude.{ℕ, zero, suc, ◌+◌, ◌*◌, ◌≤◌, ◌<◌, ◌≡◌, refl, true, ◌&&◌, List, [], ◌∷◌, ◌++◌, length, get_or, take, drop}
use Rattle.std.proofs.Common.{sym, ap, ap₂, subst, ◌∙◌, ⊎_elim, arith, eq-or-lt_of_le, take-append-drop}
use Rattle.std.proofs.lemmas.List.{take-append-le}
use Rattle.std.proofs.Math.Seq.{take-length}
use Rattle.record.specs.Sort.{Sort}
use Rattle.record.specs.Record.{Fields, record_bytes, leaf, sorts_of, sort_of}
use Rattle.record.specs.Store.{record_size, bytes_of}
use Rattle.record.specs.Decode.{fields_at, Shape, Below, store_of, sort_at, Stored, Packed, Running}
use Rattle.record.specs.Forms.{Which, is_var, is_par, is_node, which, sort-var, sort-par, sort-other, par-one}
use Rattle.record.specs.SortLists.{memb-at, memb_all, parts_in, Ordered, Starts, starts-bytes, bytes-append}
use Rattle.record.specs.StoreLaws.{store_of-length, sort-made}
use Rattle.record.specs.Sizes.{record-size, record-short}

-- The first m sorts of a store.
pub store-take : (b p : List ℕ) (m n : ℕ) → m ≤ n → take m (store_of b p n) ≡ store_of b p m
unfolding store_of
store-take b p m zero l = let e : m ≡ 0 = omega arith in subst (λ (i : ℕ). take i [] ≡ store_of b p i) (sym e) refl
store-take b p m (suc n) l =
    ⊎_elim
    (λ (e : m ≡ suc n).
    subst (λ (i : ℕ). take i (store_of b p (suc n)) ≡ store_of b p i) (sym e)
    (subst (λ (i : ℕ). take i (store_of b p (suc n)) ≡ store_of b p (suc n)) (store_of-length b p (suc n)) (take-length (store_of b p (suc n)))))
    (λ (h : m < suc n).
    take-append-le m (store_of b p n) (sort_of (store_of b p n) (fields_at b (get_or p n 0)) ∷ []) (omega (arith, store_of-length b p n))
    ∙ store-take b p m n (omega arith))
    (eq-or-lt_of_le l)

pub store-starts : (b p : List ℕ) (m n : ℕ) → m ≤ n → Starts (store_of b p m) (store_of b p n)
store-starts b p m n l = (
  drop m (store_of b p n),
  sym (take-append-drop m (store_of b p n)) ∙ ap (λ (x : List Sort). x ++ drop m (store_of b p n)) (store-take b p m n l),
)

pub bytes-grow : (b p : List ℕ) (m n : ℕ) → m ≤ n → bytes_of (store_of b p m) ≤ bytes_of (store_of b p n)
bytes-grow b p m n l = starts-bytes (store_of b p m) (store_of b p n) (store-starts b p m n l)

-- At most 268 bytes a sort.
pub store-short : (b p : List ℕ) (n : ℕ) → Stored b p n → (m : ℕ) → m ≤ n → bytes_of (store_of b p m) ≤ 268 * m
unfolding store_of bytes_of
store-short b p n s zero l = omega arith
store-short b p n s (suc m) l =
    let f = fields_at b (get_or p m 0) in
    omega (
      arith,
      bytes-append (store_of b p m) (sort_of (store_of b p m) f),
      record-size (store_of b p m) f (s.each m (omega arith)).shape,
      record-short f (s.each m (omega arith)).shape,
      store-short b p n s m (omega arith),
    )

-- The parts of a record's sort are among the sorts that it refers to.
all_in : (st : List Sort) (rs : List ℕ) → ((j : ℕ) → j < length rs → get_or rs j 0 < length st) → memb_all (sorts_of st rs) st ≡ true
unfolding memb_all sorts_of
all_in st [] h = refl
all_in st (r ∷ rs) h = ap₂ ◌&&◌ (memb-at st leaf r (h 0 (omega arith))) (all_in st rs (λ j l. h (suc j) (omega arith)))

pub sort-parts : (st : List Sort) (f : Fields) → Shape f → Below f (length st) → parts_in (sort_of st f) st ≡ true
unfolding parts_in
sort-parts st f s h = go (which f.kind)
  where
    go : Which f.kind → parts_in (sort_of st f) st ≡ true
    go (is_var e) = ap (λ (t : Sort). parts_in t st) (sort-var st f e)
    go (is_par e) =
        ap (λ (t : Sort). parts_in t st) (sort-par st f e)
        ∙ memb-at st leaf (get_or f.list 0 0) (h 0 (omega (arith, par-one f s e)))
    go (is_node p q) = ap (λ (t : Sort). parts_in t st) (sort-other st f p q) ∙ all_in st f.list h

-- PARTS STAND BEFORE WHOLES in every well-formed store.
pub store-ordered : (b p : List ℕ) (n : ℕ) → Stored b p n → Ordered (store_of b p n)
unfolding Ordered sort_at
store-ordered b p n s k l =
    let h : k < n = omega (arith, store_of-length b p n) in
    ap₂ parts_in (sort-made b p k n h) (store-take b p k n (omega arith))
    ∙ sort-parts (store_of b p k) (fields_at b (get_or p k 0)) (s.each k h).shape
    (λ j q. omega (arith, (s.each k h).below j q, store_of-length b p k))

bytes-step : (b p : List ℕ) (k : ℕ) → bytes_of (store_of b p (suc k)) ≡ bytes_of (store_of b p k) + record_size (sort_of (store_of b p k) (fields_at b (get_or p k 0)))
unfolding store_of
bytes-step b p k = bytes-append (store_of b p k) (sort_of (store_of b p k) (fields_at b (get_or p k 0)))

-- The first m records of a store whose places run lie in the bytes of the first m sorts.
pub running-packed : (b p : List ℕ) (n u : ℕ) → Stored b p n → Packed b p n u → u ≡ bytes_of (store_of b p n) → Running b p n
    → (m : ℕ) → m ≤ n → Packed b p m (bytes_of (store_of b p m))
unfolding Running
running-packed b p n u s packed total run m l =
    record {
      used = omega (arith, packed.used, total, bytes-grow b p m n l);
      each = λ k h.
          omega (
            arith,
            run k (omega arith),
            bytes-step b p k,
            bytes-grow b p (suc k) m h,
            record-size (store_of b p k) (fields_at b (get_or p k 0)) (s.each k (omega arith)).shape,
          );
    }

-- WHERE A RECORD ENDS, with its size: at the next one's place, and the last at the bytes in use.
module _ (b p : List ℕ) (n u : ℕ) (s : Stored b p n) (run : Running b p n) (total : u ≡ bytes_of (store_of b p n)) (k : ℕ) (l : k < n) where
  ends_at : get_or p k 0 + (length (record_bytes (fields_at b (get_or p k 0))) + 2) ≡ bytes_of (store_of b p (suc k))
  unfolding Running
  ends_at = omega (arith, run k l, bytes-step b p k, record-size (store_of b p k) (fields_at b (get_or p k 0)) (s.each k l).shape)

  pub ends_next : k + 1 < n → get_or p k 0 + (length (record_bytes (fields_at b (get_or p k 0))) + 2) ≡ get_or p (k + 1) 0
  unfolding Running
  ends_next h = let e : suc k ≡ k + 1 = omega arith in ends_at ∙ ap (λ (i : ℕ). bytes_of (store_of b p i)) e ∙ sym (run (k + 1) h)

  pub ends_last : n ≤ k + 1 → get_or p k 0 + (length (record_bytes (fields_at b (get_or p k 0))) + 2) ≡ u
  ends_last h = let e : suc k ≡ n = omega arith in ends_at ∙ ap (λ (i : ℕ). bytes_of (store_of b p i)) e ∙ sym total

pub stored-first : (b p : List ℕ) (m n : ℕ) → m ≤ n → Stored b p n → Stored b p m
stored-first b p m n l s = record { placed = omega (arith, s.placed); each = λ k h. s.each k (omega arith) }
