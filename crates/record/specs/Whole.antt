-- The lent buffers are the definition's: the used bytes of a store of distinct records back to back are `records_of`
-- its sorts and the places `offsets_of` them, so with zeros behind the buffers are `store_bytes` and `store_places`.
use Prim.Native.Nat.{ℕ, zero, suc, ◌+◌, ◌-◌, ◌≤◌, ◌<◌}
use Rattle.std.specs.Prelude.{◌≡◌, drop, replicate}
use Rattle.std.proofs.Math.Path.{refl, sym, ap, ap₂}
use Rattle.std.proofs.Common.{subst, ◌∙◌, length-append, take-append-drop, length-drop, length-take-le, get_or-drop, ext_get_or}
use mathlib.Core.List.{List, [], ◌∷◌, ◌++◌, append-nil, append_assoc}
use native.Mathlib.Omega.{arith}
use Rattle.std.proofs.Math.ListN.{length, get_or, take}
use Rattle.std.proofs.lemmas.List.{length-replicate, get_or-replicate}
use Rattle.std.proofs.Math.Seq.{take-add, take-suc}
use Rattle.record.specs.Sort.{Sort, size}
use Rattle.record.specs.Record.{Fields, record_bytes, sized_bytes, leaf, sorts_of, sort_of}
use Rattle.record.specs.Store.{index_of, indices_of, fields_of, record_of, records_of, offsets_of, padded, store_bytes, store_places, bytes_of}
use Rattle.record.specs.Decode.{fields_at, Shape, Below, store_of, sort_at, Stored, Distinct, Packed, Sized, Running, Zeros}
use Rattle.record.specs.Bytes.{stands-part}
use Rattle.record.specs.Codec.{fields-equal, sized-length}
use Rattle.record.specs.Forms.{Which, is_var, is_par, is_node, which, sort-var, sort-par, sort-other, var-number, var-list, var-names, par-name, par-number, par-one, other-names, one-element}
use Rattle.record.specs.SortLists.{Once, index_at, bytes-append}
use Rattle.record.specs.StoreLaws.{store_of-length, sort-made, sort-node, sorts-one}
use Rattle.record.specs.Sizes.{record-size}

-- The sorts of distinct records are distinct.
pub store-once : (b p : List ℕ) (n : ℕ) → Stored b p n → Distinct b p n → Once (store_of b p n)
unfolding Once sort_at
store-once b p n s d i j li lj e =
    sorts-one b p n s d i j (omega (arith, store_of-length b p n)) (omega (arith, store_of-length b p n)) e

module _ (st : List Sort) (once : Once st) where
  indices-back : (rs : List ℕ) → ((j : ℕ) → j < length rs → get_or rs j 0 < length st) → indices_of (sorts_of st rs) st ≡ rs
  unfolding indices_of sorts_of
  indices-back [] h = refl
  indices-back (r ∷ rs) h =
      ap₂ (λ (i : ℕ) (is : List ℕ). i ∷ is) (index_at st once r (h 0 (omega arith)))
      (indices-back rs (λ j l. h (suc j) (omega arith)))

  -- ENCODING A DECODED RECORD GIVES IT BACK, over a store of distinct sorts.
  pub fields_back : (f : Fields) → Shape f → Below f (length st) → fields_of st (sort_of st f) ≡ f
  unfolding fields_of
  fields_back f s h = go (which f.kind)
    where
      go : Which f.kind → fields_of st (sort_of st f) ≡ f
      go (is_var e) =
          ap (fields_of st) (sort-var st f e)
          ∙ fields-equal 2 f.name 0 [] [] f.kind f.name f.number f.list f.names (sym e) refl
          (sym (var-number f s.proper e)) (sym (var-list f s.proper e)) (sym (var-names f s.proper e))
      go (is_par e) =
          ap (fields_of st) (sort-par st f e)
          ∙ fields-equal 12 0 0 (index_of (get_or st (get_or f.list 0 0) leaf) st ∷ []) f.names f.kind f.name f.number f.list f.names
          (sym e) (sym (par-name f s.proper e)) (sym (par-number f s.proper e))
          (ap (λ (i : ℕ). i ∷ []) (index_at st once (get_or f.list 0 0) (h 0 (omega (arith, par-one f s e))))
          ∙ sym (one-element f.list (par-one f s e)))
          refl
      go (is_node p q) =
          ap (fields_of st) (sort-other st f p q)
          ∙ fields-equal f.kind f.name f.number (indices_of (sorts_of st f.list) st) [] f.kind f.name f.number f.list f.names
          refl refl refl (indices-back f.list h) (sym (other-names f s.proper s.known q))

-- Records and offsets of one sort more.
records-append : (st ss : List Sort) (s : Sort) → records_of st (ss ++ (s ∷ [])) ≡ records_of st ss ++ record_of st s
unfolding records_of
records-append st [] s = append-nil (record_of st s)
records-append st (t ∷ ss) s =
    ap (λ (l : List ℕ). record_of st t ++ l) (records-append st ss s) ∙ sym (append_assoc (record_of st t) (records_of st ss) (record_of st s))

offsets-append : (st ss : List Sort) (x : ℕ) (s : Sort) → offsets_of st x (ss ++ (s ∷ [])) ≡ offsets_of st x ss ++ ((x + length (records_of st ss)) ∷ [])
unfolding offsets_of records_of
offsets-append st [] x s = let e : x ≡ x + 0 = omega arith in ap (λ (i : ℕ). i ∷ []) e
offsets-append st (t ∷ ss) x s =
    let e : x + length (record_of st t) + length (records_of st ss) ≡ x + length (record_of st t ++ records_of st ss) =
    omega (arith, length-append (record_of st t) (records_of st ss)) in
    ap (λ (l : List ℕ). x ∷ l)
    (offsets-append st ss (x + length (record_of st t)) s
    ∙ ap (λ (i : ℕ). offsets_of st (x + length (record_of st t)) ss ++ (i ∷ [])) e)

module _ (b p : List ℕ) (n : ℕ) (stored : Stored b p n) (distinct : Distinct b p n) where
  -- The record of an entry is its bytes, with the tree size of its sort.
  pub record-back : (k : ℕ) → k < n → record_of (store_of b p n) (sort_at b p n k) ≡ sized_bytes (size (sort_at b p n k)) (fields_at b (get_or p k 0))
  unfolding record_of
  record-back k l =
      let st = store_of b p n in
      ap (sized_bytes (size (sort_at b p n k)))
      (ap (fields_of st) (sort-node b p n k stored l)
      ∙ fields_back st (store-once b p n stored distinct) (fields_at b (get_or p k 0)) (stored.each k l).shape
      (λ j h. omega (arith, (stored.each k l).below j h, store_of-length b p n)))

  -- And so is that of the sort that was made there.
  made-back : (k : ℕ) → k < n → record_of (store_of b p n) (sort_of (store_of b p k) (fields_at b (get_or p k 0))) ≡ sized_bytes (size (sort_at b p n k)) (fields_at b (get_or p k 0))
  made-back k l = sym (ap (record_of (store_of b p n)) (sort-made b p k n l)) ∙ record-back k l

  -- How many bytes the first m sorts take.
  pub bytes_next : (m : ℕ) → m < n → bytes_of (store_of b p (suc m)) ≡ bytes_of (store_of b p m) + (length (record_bytes (fields_at b (get_or p m 0))) + 2)
  unfolding store_of
  bytes_next m l =
      omega (
        arith,
        bytes-append (store_of b p m) (sort_of (store_of b p m) (fields_at b (get_or p m 0))),
        record-size (store_of b p m) (fields_at b (get_or p m 0)) (stored.each m l).shape,
      )

  module _ (running : Running b p n) (sized : Sized b p n) where
    records-from : (m : ℕ) → m ≤ n → take (bytes_of (store_of b p m)) b ≡ records_of (store_of b p n) (store_of b p m)
    unfolding store_of bytes_of records_of Running
    records-from zero l = refl
    records-from (suc m) l =
        let f = fields_at b (get_or p m 0) in
        let z = sized_bytes (size (sort_at b p n m)) f in
        let st = store_of b p n in
        let e : get_or p m 0 ≡ bytes_of (store_of b p m) = running m (omega arith) in
        let o : length z ≡ length (record_bytes f) + 2 = sized-length (size (sort_at b p n m)) f in
        ap (λ (i : ℕ). take i b) (bytes_next m (omega arith) ∙ ap (λ (i : ℕ). bytes_of (store_of b p m) + i) (sym o))
        ∙ take-add (bytes_of (store_of b p m)) (length z) b
        ∙ ap₂ (λ (x y : List ℕ). x ++ y) (records-from m (omega arith))
        (subst (λ (i : ℕ). take (length z) (drop i b) ≡ z) e
        (sym (stands-part z b (get_or p m 0) (omega (arith, o, (sized.each m (omega arith)).within)) (sized.each m (omega arith)).stands))
        ∙ sym (made-back m (omega arith)))
        ∙ sym (records-append st (store_of b p m) (sort_of (store_of b p m) f))

    -- THE USED BYTES ARE THE RECORDS OF THE STORE'S SORTS.
    pub records-are : (u : ℕ) → u ≡ bytes_of (store_of b p n) → records_of (store_of b p n) (store_of b p n) ≡ take u b
    records-are u e = sym (ap (λ (i : ℕ). take i b) e ∙ records-from n (omega arith))

    bytes-within : (m : ℕ) → m ≤ n → bytes_of (store_of b p m) ≤ length b
    unfolding store_of bytes_of Running
    bytes-within zero l = omega arith
    bytes-within (suc m) l = omega (arith, bytes_next m (omega arith), running m (omega arith), (sized.each m (omega arith)).within)

    records-long : (m : ℕ) → m ≤ n → length (records_of (store_of b p n) (store_of b p m)) ≡ bytes_of (store_of b p m)
    records-long m l = sym (ap length (records-from m l)) ∙ length-take-le (bytes_of (store_of b p m)) b (bytes-within m l)

    offsets-from : (m : ℕ) → m ≤ n → take m p ≡ offsets_of (store_of b p n) 0 (store_of b p m)
    unfolding store_of offsets_of Running
    offsets-from zero l = refl
    offsets-from (suc m) l =
        let f = fields_at b (get_or p m 0) in
        let st = store_of b p n in
        let e : get_or p m 0 ≡ 0 + length (records_of st (store_of b p m)) = omega (arith, running m (omega arith), records-long m (omega arith)) in
        take-suc p m 0 (omega (arith, stored.placed))
        ∙ ap₂ (λ (x : List ℕ) (i : ℕ). x ++ (i ∷ [])) (offsets-from m (omega arith)) e
        ∙ sym (offsets-append st (store_of b p m) 0 (sort_of (store_of b p m) f))

    -- THE PLACES IN USE ARE THE OFFSETS OF THE STORE'S SORTS.
    pub offsets_are : offsets_of (store_of b p n) 0 (store_of b p n) ≡ take n p
    offsets_are = sym (offsets-from n (omega arith))

-- A list that is zero behind its first values is those values, padded.
pub zeros-padded : (l : List ℕ) (n : ℕ) → n ≤ length l → Zeros l n → l ≡ padded (length l) (take n l)
unfolding padded
zeros-padded l n h z =
    let t = length-take-le n l h in
    sym (take-append-drop n l)
    ∙ ap (λ (r : List ℕ). take n l ++ r)
    (ext_get_or 0 (drop n l) (replicate (length l - length (take n l)) 0)
    (omega (arith, length-drop n l, length-replicate {A = ℕ} (length l - length (take n l)) 0, t))
    (λ i k.
    get_or-drop n l i 0 ∙ z (n + i) (omega arith)
    ∙ sym (get_or-replicate (length l - length (take n l)) i 0 0 (omega (arith, length-drop n l, t)))))

-- THE LENT BUFFERS, whole.
module _ (b p : List ℕ) (n u : ℕ) (stored : Stored b p n) (distinct : Distinct b p n) (running : Running b p n)
    (sized : Sized b p n) (packed : Packed b p n u) (total : u ≡ bytes_of (store_of b p n)) where
  pub whole-bytes : Zeros b u → b ≡ store_bytes (length b) (store_of b p n)
  unfolding store_bytes
  whole-bytes z =
      zeros-padded b u packed.used z
      ∙ ap (padded (length b)) (sym (records-are b p n stored distinct running sized u total))

  pub whole-places : Zeros p n → p ≡ store_places (length p) (store_of b p n)
  unfolding store_places
  whole-places z =
      zeros-padded p n stored.placed z ∙ ap (padded (length p)) (sym (offsets_are b p n stored distinct running sized))
