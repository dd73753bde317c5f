-- A record appended to a well-formed store: the sorts before it stay, and it adds one.
use Prim.Native.Nat.{ℕ, zero, suc, ◌+◌, ◌-◌, ◌%◌, ◌≤◌, ◌<◌}
use Rattle.std.specs.Prelude.{◌≡◌, length, take, drop, set}
use Rattle.std.proofs.Math.Path.{refl, sym, ap, ap₂}
use Rattle.std.proofs.Common.{subst, ◌∙◌, arith, add-one, add-zero, zero-add, length-set, length-append, length-take, length-drop, get_or-append-add, get_or-take, get_or-drop, get_or-set_same, get_or-set_other, length-take-le, take_at, drop_at, drop-drop}
use mathlib.Core.List.{List, [], ◌∷◌, ◌++◌, append_assoc}
use Rattle.std.proofs.Math.ListN.{get_or, get_or-append}
use Rattle.std.proofs.lemmas.List.{set_split}
use Rattle.std.proofs.Math.Seq.{append_snoc}
use Rattle.record.specs.Sort.{Sort, size}
use Rattle.record.specs.Record.{Fields, behind_map, record_bytes, sized_bytes, leaf, sort_of}
use Rattle.record.specs.Store.{bytes_of}
use Rattle.record.specs.Decode.{fields_at, Shape, Below, Stands, MapOf, Lies, Held, Fresh, store_of, sort_at, Stored, Distinct, Packed, Carries, Sized, Running, Zeros, written}
use Rattle.record.specs.SortLists.{below_suc}
use Rattle.record.specs.Bytes.{stands_same, stands_self}
use Rattle.record.specs.StoreLaws.{sort-made}
use Rattle.record.specs.Codec.{decoded, decoded-by, sized-map, sized-fields, sized-length}

-- What stands where after the append.
pub written-before : (b : List ℕ) (u : ℕ) (r : List ℕ) (i : ℕ) → u ≤ length b → i < u → get_or b i 0 ≡ get_or (written b u r) i 0
unfolding written
written-before b u r i h l =
    let e : length (take u b) ≡ u = length-take-le u b h in
    let f : i < length (take u b ++ r) = omega (arith, e, length-append (take u b) r) in
    let g : i < length (take u b) = omega arith in
    sym (get_or-append (take u b ++ r) (drop (u + length r) b) 0 i f ∙ get_or-append (take u b) r 0 i g ∙ get_or-take u b i 0 l)

pub written_in : (b : List ℕ) (u : ℕ) (r : List ℕ) (i : ℕ) → u ≤ length b → i < length r → get_or r i 0 ≡ get_or (written b u r) (u + i) 0
unfolding written
written_in b u r i h l =
    let e : length (take u b) ≡ u = length-take-le u b h in
    let f : u + i < length (take u b ++ r) = omega (arith, e, length-append (take u b) r) in
    sym (get_or-append (take u b ++ r) (drop (u + length r) b) 0 (u + i) f
    ∙ subst (λ (k : ℕ). get_or (take u b ++ r) (k + i) 0 ≡ get_or r i 0) e (get_or-append-add (take u b) r i 0))

pub written_after : (b : List ℕ) (u : ℕ) (r : List ℕ) (i : ℕ) → u + length r ≤ length b → u + length r ≤ i → get_or b i 0 ≡ get_or (written b u r) i 0
unfolding written
written_after b u r i h l =
    let j = i - (u + length r) in
    let e : length (take u b ++ r) + j ≡ i = omega (arith, length-append (take u b) r, length-take-le u b (omega arith)) in
    let d : u + length r + j ≡ i = omega arith in
    sym (sym (ap (λ (k : ℕ). get_or (take u b ++ r ++ drop (u + length r) b) k 0) e)
    ∙ get_or-append-add (take u b ++ r) (drop (u + length r) b) j 0
    ∙ get_or-drop (u + length r) b j 0
    ∙ ap (λ (k : ℕ). get_or b k 0) d)

pub length-written : (b : List ℕ) (u : ℕ) (r : List ℕ) → u + length r ≤ length b → length (written b u r) ≡ length b
unfolding written
length-written b u r h = simp (length-append, length-take, length-drop) (omega arith)

-- One value written, and one part behind another.
pub written_one : (o : List ℕ) (u v : ℕ) → u < length o → set o u v ≡ written o u (v ∷ [])
unfolding written
written_one o u v h =
    set_split o u v h ∙ sym (append_snoc (take u o) v (drop (suc u) o))
    ∙ ap (λ (k : ℕ). take u o ++ (v ∷ []) ++ drop k o) (sym (add-one u))

pub written-more : (o : List ℕ) (u : ℕ) (s t : List ℕ) → u + length s ≤ length o → written (written o u s) (u + length s) t ≡ written o u (s ++ t)
unfolding written
written-more o u s t h =
    let n = u + length s in
    let front = take u o ++ s in
    let w = front ++ drop n o in
    let e : length front ≡ n = omega (arith, length-append (take u o) s, length-take-le u o (omega arith)) in
    let a : take n w ≡ front = take_at front (drop n o) n e in
    let d : drop (n + length t) w ≡ drop (n + length t) o =
    sym (drop-drop (length t) n w) ∙ ap (drop (length t)) (drop_at front (drop n o) n e) ∙ drop-drop (length t) n o in
    let k : n + length t ≡ u + length (s ++ t) = omega (arith, length-append s t) in
    ap₂ (λ (x y : List ℕ). x ++ t ++ y) a d
    ∙ ap₂ (λ (x : List ℕ) (j : ℕ). x ++ drop j o) (append_assoc (take u o) s t) k

-- A record that lies somewhere lies wherever its bytes are the same.
moved : (f : Fields) (b c : List ℕ) (x y n : ℕ) → Lies f b x n → ((i : ℕ) → i < length (record_bytes f) → get_or b (x + i) 0 ≡ get_or c (y + i) 0)
    → MapOf (get_or c y 0) f.kind × Stands (behind_map f) c (y + 1)
unfolding record_bytes
moved f b c x y n h same = (
  ap (λ (m : ℕ). m % 128) (sym (rw (add-zero x, add-zero y) at (same 0 (omega arith)))) ∙ h.map,
  stands_same (behind_map f) b c (x + 1) (y + 1)
      (λ i l.
      let p : x + suc i ≡ x + 1 + i = omega arith in
      let q : y + suc i ≡ y + 1 + i = omega arith in
      sym (ap (λ (k : ℕ). get_or b k 0) p) ∙ same (suc i) (omega arith) ∙ ap (λ (k : ℕ). get_or c k 0) q)
      h.stands,
)

-- THE FIELDS OF A RECORD DEPEND ONLY ON ITS OWN BYTES.
pub fields-moved : (f : Fields) (b c : List ℕ) (x y n : ℕ) → Lies f b x n → ((i : ℕ) → i < length (record_bytes f) → get_or b (x + i) 0 ≡ get_or c (y + i) 0) → fields_at c y ≡ f
fields-moved f b c x y n h same = let m = moved f b c x y n h same in decoded-by f c y h.shape.proper m.0 m.1

pub held_moved : (f : Fields) (b c : List ℕ) (x y n : ℕ) → Lies f b x n → ((i : ℕ) → i < length (record_bytes f) → get_or b (x + i) 0 ≡ get_or c (y + i) 0)
    → y + length (record_bytes f) ≤ length c → Held c y n
held_moved f b c x y n h same fits =
    subst (λ (g : Fields). Lies g c y n) (sym (fields-moved f b c x y n h same))
    (let m = moved f b c x y n h same in record { within = fits; map = m.0; stands = m.1; shape = h.shape; below = h.below })

-- So does a record with its size.
carries-moved : (b c : List ℕ) (x y : ℕ) (t : Sort) → fields_at c y ≡ fields_at b x → Carries b x t
    → ((i : ℕ) → i < length (record_bytes (fields_at b x)) + 2 → get_or b (x + i) 0 ≡ get_or c (y + i) 0)
    → y + (length (record_bytes (fields_at b x)) + 2) ≤ length c → Carries c y t
carries-moved b c x y t e h same fits =
    let f = fields_at b x in
    record {
      within = subst (λ (g : Fields). y + (length (record_bytes g) + 2) ≤ length c) (sym e) fits;
      stands =
          subst (λ (g : Fields). Stands (sized_bytes (size t) g) c y) (sym e)
          (stands_same (sized_bytes (size t) f) b c x y (λ i l. same i (omega (arith, sized-length (size t) f))) h.stands);
    }

-- The sizes of the first m sorts are among those of n, and one entry more is one size more.
pub sized-first : (b p : List ℕ) (m n : ℕ) → m ≤ n → Sized b p n → Sized b p m
sized-first b p m n l s =
    record {
      each = λ k h. subst (λ (t : Sort). Carries b (get_or p k 0) t) (sort-made b p k n (omega arith) ∙ sym (sort-made b p k m h)) (s.each k (omega arith));
      small = λ k h. subst (λ (t : Sort). size t ≤ 4096) (sort-made b p k n (omega arith) ∙ sym (sort-made b p k m h)) (s.small k (omega arith));
    }

sized-more : (b p : List ℕ) (n : ℕ) (t : Sort) → sort_at b p (suc n) n ≡ t → Carries b (get_or p n 0) t → size t ≤ 4096 → Sized b p n → Sized b p (suc n)
sized-more b p n t e h l s =
    record {
      each =
          below_suc (λ (k : ℕ). Carries b (get_or p k 0) (sort_at b p (suc n) k)) n
          (λ k h. subst (λ (t : Sort). Carries b (get_or p k 0) t) (sort-made b p k n h ∙ sym (sort-made b p k (suc n) (omega arith))) (s.each k h))
          (subst (λ (t : Sort). Carries b (get_or p n 0) t) (sym e) h);
      small =
          below_suc (λ (k : ℕ). size (sort_at b p (suc n) k) ≤ 4096) n
          (λ k h. subst (λ (t : Sort). size t ≤ 4096) (sort-made b p k n h ∙ sym (sort-made b p k (suc n) (omega arith))) (s.small k h))
          (subst (λ (t : Sort). size t ≤ 4096) (sym e) l);
    }

-- Stores that agree on the used bytes and the places hold the same records.
module _ (b p c q : List ℕ) (n u : ℕ) (stored : Stored b p n) (packed : Packed b p n u)
    (sb : (i : ℕ) → i < u → get_or b i 0 ≡ get_or c i 0) (sp : (k : ℕ) → k < n → get_or p k 0 ≡ get_or q k 0) where
  pub record-kept : (k : ℕ) → k < n → fields_at c (get_or q k 0) ≡ fields_at b (get_or p k 0)
  record-kept k l =
      subst (λ (y : ℕ). fields_at c y ≡ fields_at b (get_or p k 0)) (sp k l)
      (fields-moved (fields_at b (get_or p k 0)) b c (get_or p k 0) (get_or p k 0) k (stored.each k l)
      (λ i h. sb (get_or p k 0 + i) (omega (arith, packed.each k l))))

  pub store_kept : (m : ℕ) → m ≤ n → store_of b p m ≡ store_of c q m
  unfolding store_of
  store_kept zero l = refl
  store_kept (suc m) l =
      let e : store_of b p m ≡ store_of c q m = store_kept m (omega arith) in
      ap₂ (λ (st : List Sort) (s : Sort). st ++ (s ∷ [])) e (ap₂ sort_of e (sym (record-kept m (omega arith))))

  -- And the same sorts.
  pub store_same : store_of b p n ≡ store_of c q n
  store_same = store_kept n (omega arith)

-- So a store that agrees with a well-formed one is well formed.
module _ (b p c q : List ℕ) (n u : ℕ) (stored : Stored b p n) (packed : Packed b p n u)
    (sb : (i : ℕ) → i < u → get_or b i 0 ≡ get_or c i 0) (sp : (k : ℕ) → k < n → get_or p k 0 ≡ get_or q k 0)
    (long : u ≤ length c) (wide : n ≤ length q) where
  kept : (k : ℕ) → k < n → fields_at c (get_or q k 0) ≡ fields_at b (get_or p k 0)
  kept k l = record-kept b p c q n u stored packed sb sp k l

  pub kept-stored : Stored c q n
  kept-stored =
      record {
        placed = wide;
        each = λ k l.
            subst (λ (y : ℕ). Held c y k) (sp k l)
            (held_moved (fields_at b (get_or p k 0)) b c (get_or p k 0) (get_or p k 0) k (stored.each k l)
            (λ i h. sb (get_or p k 0 + i) (omega (arith, packed.each k l)))
            (omega (arith, packed.each k l)));
      }

  pub kept-packed : Packed c q n u
  kept-packed =
      record {
        used = long;
        each = λ k l. omega (arith, packed.each k l, sp k l, ap (λ (f : Fields). length (record_bytes f)) (kept k l));
      }

  kept-sort : (k : ℕ) → sort_at b p n k ≡ sort_at c q n k
  unfolding sort_at
  kept-sort k = ap (λ (st : List Sort). get_or st k leaf) (store_same b p c q n u stored packed sb sp)

  pub kept-sized : Sized b p n → Sized c q n
  kept-sized s =
      record {
        each = λ k l.
            subst (λ (t : Sort). Carries c (get_or q k 0) t) (kept-sort k)
            (subst (λ (y : ℕ). Carries c y (sort_at b p n k)) (sp k l)
            (carries-moved b c (get_or p k 0) (get_or p k 0) (sort_at b p n k) (subst (λ (y : ℕ). fields_at c y ≡ fields_at b (get_or p k 0)) (sym (sp k l)) (kept k l)) (s.each k l)
            (λ i h. sb (get_or p k 0 + i) (omega (arith, packed.each k l)))
            (omega (arith, packed.each k l))));
        small = λ k l. subst (λ (t : Sort). size t ≤ 4096) (kept-sort k) (s.small k l);
      }

  pub kept-distinct : Distinct b p n → Distinct c q n
  unfolding Distinct
  kept-distinct d i j hi hj e = d i j hi hj (sym (kept i hi) ∙ e ∙ kept j hj)

  pub kept-running : Running b p n → Running c q n
  unfolding Running
  kept-running r k l =
      sym (sp k l) ∙ r k l
      ∙ ap bytes_of (store_kept b p c q n u stored packed sb sp k (omega arith))

-- The bytes of any fields are one.
pub fresh-fields : (f : Fields) → Shape f → fields_at (record_bytes f) 0 ≡ f
fresh-fields f s = decoded f (record_bytes f) 0 s.proper (stands_self (record_bytes f))

pub fresh-of : (f : Fields) (n : ℕ) → Shape f → Below f n → Fresh (record_bytes f) n
fresh-of f n s h =
    let e : f ≡ fields_at (record_bytes f) 0 = sym (fresh-fields f s) in
    record { whole = sym (ap record_bytes e); shape = subst Shape e s; below = subst (λ (g : Fields). Below g n) e h }

-- THE RECORD r APPENDED with the size w.
module _ (b p : List ℕ) (n u : ℕ) (r : List ℕ) (w : ℕ) (stored : Stored b p n) (packed : Packed b p n u) (fresh : Fresh r n)
    (room : u + (length r + 2) ≤ length b) (place : n < length p) where
  -- What is written, and how long it is.
  abbrev z : List ℕ
  z = sized_bytes w (fields_at r 0)

  long : length z ≡ length r + 2
  long = sized-length w (fields_at r 0) ∙ ap (λ (i : List ℕ). length i + 2) fresh.whole

  old-bytes : (i : ℕ) → i < u → get_or b i 0 ≡ get_or (written b u z) i 0
  old-bytes i l = written-before b u z i packed.used l

  old-place : (k : ℕ) → k < n → get_or p k 0 ≡ get_or (set p n u) k 0
  old-place k l = sym (get_or-set_other p n k u 0 (λ e. omega arith))

  new-place : get_or (set p n u) n 0 ≡ u
  new-place = get_or-set_same p n u 0 place

  -- The record as it lies in itself.
  lies : Lies (fields_at r 0) z 0 n
  lies =
      record {
        within = omega (arith, sized-length w (fields_at r 0));
        map = sized-map w (fields_at r 0) z 0 (stands_self z);
        stands = sized-fields w (fields_at r 0) z 0 (stands_self z);
        shape = fresh.shape;
        below = fresh.below;
      }

  new-bytes : (i : ℕ) → i < length z → get_or z (0 + i) 0 ≡ get_or (written b u z) (u + i) 0
  new-bytes i l = rw zero-add (written_in b u z i packed.used l)

  new-fields : (i : ℕ) → i < length (record_bytes (fields_at r 0)) → get_or z (0 + i) 0 ≡ get_or (written b u z) (u + i) 0
  new-fields i l = new-bytes i (omega (arith, sized-length w (fields_at r 0)))

  pub new-record : fields_at (written b u z) (get_or (set p n u) n 0) ≡ fields_at r 0
  new-record = subst (λ (y : ℕ). fields_at (written b u z) y ≡ fields_at r 0) (sym new-place) (fields-moved (fields_at r 0) z (written b u z) 0 u n lies new-fields)

  pub old-record : (k : ℕ) → k < n → fields_at (written b u z) (get_or (set p n u) k 0) ≡ fields_at b (get_or p k 0)
  old-record k l = record-kept b p (written b u z) (set p n u) n u stored packed old-bytes old-place k l

  pub pushed-store : store_of (written b u z) (set p n u) (suc n) ≡ store_of b p n ++ (sort_of (store_of b p n) (fields_at r 0) ∷ [])
  unfolding store_of
  pushed-store =
      let e : store_of (written b u z) (set p n u) n ≡ store_of b p n = sym (store_same b p (written b u z) (set p n u) n u stored packed old-bytes old-place) in
      ap₂ (λ (st : List Sort) (s : Sort). st ++ (s ∷ [])) e (ap₂ sort_of e new-record)

  pub pushed-packed : Packed (written b u z) (set p n u) (suc n) (u + (length r + 2))
  pushed-packed =
      record {
        used = omega (arith, length-written b u z (omega (arith, long)));
        each =
            below_suc (λ (k : ℕ). get_or (set p n u) k 0 + (length (record_bytes (fields_at (written b u z) (get_or (set p n u) k 0))) + 2) ≤ u + (length r + 2)) n
            (λ k l. omega (arith, packed.each k l, old-place k l, ap (λ (f : Fields). length (record_bytes f)) (old-record k l)))
            (omega (arith, new-place, ap (λ (f : Fields). length (record_bytes f)) new-record, ap length fresh.whole));
      }

  pub pushed-stored : Stored (written b u z) (set p n u) (suc n)
  pushed-stored =
      record {
        placed = omega (arith, length-set p n u);
        each =
            below_suc (λ (k : ℕ). Held (written b u z) (get_or (set p n u) k 0) k) n
            (λ k l.
            subst (λ (y : ℕ). Held (written b u z) y k) (old-place k l)
            (held_moved (fields_at b (get_or p k 0)) b (written b u z) (get_or p k 0) (get_or p k 0) k (stored.each k l)
            (λ i h. old-bytes (get_or p k 0 + i) (omega (arith, packed.each k l)))
            (omega (arith, packed.each k l, packed.used, length-written b u z (omega (arith, long))))))
            (subst (λ (y : ℕ). Held (written b u z) y n) (sym new-place)
            (held_moved (fields_at r 0) z (written b u z) 0 u n lies new-fields
            (omega (arith, ap length fresh.whole, length-written b u z (omega (arith, long))))));
      }

  -- The new record carries its size, where w is that of its sort, and the others keep theirs.
  new-sort : sort_at (written b u z) (set p n u) (suc n) n ≡ sort_of (store_of b p n) (fields_at r 0)
  new-sort =
      sort-made (written b u z) (set p n u) n (suc n) (omega arith)
      ∙ ap₂ sort_of (sym (store_same b p (written b u z) (set p n u) n u stored packed old-bytes old-place)) new-record

  pub pushed-sized : w ≡ size (sort_of (store_of b p n) (fields_at r 0)) → w ≤ 4096 → Sized b p n → Sized (written b u z) (set p n u) (suc n)
  pushed-sized e l s =
      let t = sort_of (store_of b p n) (fields_at r 0) in
      sized-more (written b u z) (set p n u) n t new-sort
      (record {
        within = omega (arith, new-place, ap (λ (f : Fields). length (record_bytes f)) new-record, ap length fresh.whole, length-written b u z (omega (arith, long)));
        stands =
            subst (λ (f : Fields). Stands (sized_bytes (size t) f) (written b u z) (get_or (set p n u) n 0)) (sym new-record)
            (subst (λ (y : ℕ). Stands (sized_bytes (size t) (fields_at r 0)) (written b u z) y) (sym new-place)
            (subst (λ (v : ℕ). Stands (sized_bytes v (fields_at r 0)) (written b u z) u) e
            (stands_same z z (written b u z) 0 u new-bytes (stands_self z))));
      })
      (omega arith)
      (kept-sized b p (written b u z) (set p n u) n u stored packed old-bytes old-place
      (omega (arith, packed.used, length-written b u z (omega (arith, long)))) (omega (arith, length-set p n u)) s)

  pub pushed-distinct : Distinct b p n → ((k : ℕ) → k < n → fields_at b (get_or p k 0) ≡ fields_at r 0 → ⊥) → Distinct (written b u z) (set p n u) (suc n)
  unfolding Distinct
  pushed-distinct d absent i j hi hj e =
      below_suc
      (λ (i : ℕ). (j : ℕ) → j < suc n → fields_at (written b u z) (get_or (set p n u) i 0) ≡ fields_at (written b u z) (get_or (set p n u) j 0) → i ≡ j) n
      (λ i li.
      below_suc (λ (j : ℕ). fields_at (written b u z) (get_or (set p n u) i 0) ≡ fields_at (written b u z) (get_or (set p n u) j 0) → i ≡ j) n
      (λ j lj q. d i j li lj (sym (old-record i li) ∙ q ∙ old-record j lj))
      (λ q. absurd (absent i li (sym (old-record i li) ∙ q ∙ new-record))))
      (below_suc (λ (j : ℕ). fields_at (written b u z) (get_or (set p n u) n 0) ≡ fields_at (written b u z) (get_or (set p n u) j 0) → n ≡ j) n
      (λ j lj q. absurd (absent j lj (sym (old-record j lj) ∙ sym q ∙ new-record)))
      (λ q. refl))
      i hi j hj e

  -- The places run on, and zeros behind stay zeros.
  pub pushed-running : Running b p n → u ≡ bytes_of (store_of b p n) → Running (written b u z) (set p n u) (suc n)
  unfolding Running
  pushed-running run total =
      let same : (m : ℕ) → m ≤ n → store_of b p m ≡ store_of (written b u z) (set p n u) m =
      λ m l. store_kept b p (written b u z) (set p n u) n u stored packed old-bytes old-place m l in
      below_suc (λ (k : ℕ). get_or (set p n u) k 0 ≡ bytes_of (store_of (written b u z) (set p n u) k)) n
      (λ k l. sym (old-place k l) ∙ run k l ∙ ap bytes_of (same k (omega arith)))
      (new-place ∙ total ∙ ap bytes_of (same n (omega arith)))

  pub pushed-bytes : Zeros b u → Zeros (written b u z) (u + (length r + 2))
  pushed-bytes h i l = sym (written_after b u z i (omega (arith, long)) (omega (arith, long))) ∙ h i (omega arith)

  pub pushed-places : Zeros p n → Zeros (set p n u) (suc n)
  pushed-places h k l = get_or-set_other p n k u 0 (λ e. omega arith) ∙ h k (omega arith)
