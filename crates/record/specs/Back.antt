-- BYTES DECODE BACK: any list of distinct well-formed sorts, parts before wholes, is the store of its own buffers, and each of
-- their records carries the tree size of its sort. So the bytes and places that the definitions write determine the sorts.
use Prim.Native.Nat.{ℕ, zero, suc, ◌+◌, ◌-◌, ◌≤◌, ◌<◌}
use Rattle.std.specs.Prelude.{◌≡◌, take, drop, replicate}
use Rattle.std.proofs.Math.Path.{refl, sym, ap₂}
use Rattle.std.proofs.Common.{ap, ◌∙◌, not-suc-le-zero, length-append, take-append-drop, get_or-append-add, take-suc, length-take-le}
use Rattle.std.proofs.Math.Bool.{true}
use mathlib.Core.List.{List, [], ◌∷◌, ◌++◌, append_assoc}
use native.Mathlib.Omega.{arith}
use Rattle.std.proofs.Math.Nat.{zero-add}
use Rattle.std.proofs.Math.ListN.{length, get_or, get_or-append}
use Rattle.std.proofs.Math.Seq.{get_or-take, take-length}
use Rattle.record.specs.Sort.{Sort, Sorts, var, par, node, end, ◌then◌, size}
use Rattle.record.specs.Record.{leaf, sorts_of, sort_of}
use Rattle.record.specs.Store.{memb, index_of, indices_of, fields_of, record_of, records_of, offsets_of, padded, store_bytes, store_places, record_size, bytes_of}
use Rattle.record.specs.Decode.{fields_at, size_at, Below, Stands, store_of}
use Rattle.record.specs.Bytes.{stands-move, stands-each, stands_same}
use Rattle.record.specs.Codec.{decoded-sized, size-read}
use Rattle.record.specs.Forms.{sort-var, sort-par, sort-other}
use Rattle.record.specs.Cases.{and_left, and_right}
use Rattle.record.specs.SortLists.{Once, Ordered, memb_all, parts_in, index-found, index-starts, parts-starts}
use Rattle.record.specs.StoreLaws.{sort-agree}
use Rattle.record.specs.Sizes.{Formed, AllFormed, formed-shape, record-of-size}

-- THE REFERENCES OF A LIST OF SORTS STAND FOR IT, over a store that has them.
pub sorts-back : (st : List Sort) (ss : Sorts) → memb_all ss st ≡ true → sorts_of st (indices_of ss st) ≡ ss
unfolding memb_all sorts_of indices_of
sorts-back st end m = refl
sorts-back st (s then ss) m =
    ap₂ ◌then◌ (index-found st s (and_left (memb s st) (memb_all ss st) m)).1
    (sorts-back st ss (and_right (memb s st) (memb_all ss st) m))

-- DECODING THE RECORD OF A SORT GIVES IT BACK, over a store that has its parts.
pub sort-back : (st : List Sort) (s : Sort) → Formed s → parts_in s st ≡ true → sort_of st (fields_of st s) ≡ s
unfolding fields_of parts_in
sort-back st (var v) h m = sort-var st (fields_of st (var v)) refl
sort-back st (par ns b) h m = sort-par st (fields_of st (par ns b)) refl ∙ ap (par ns) (index-found st b m).1
sort-back st (node k a w ss) h m =
    sort-other st (fields_of st (node k a w ss)) h.own (λ e. absurd (omega (arith, h.shape.some e)))
    ∙ ap (node k a w) (sorts-back st ss m)

-- The references of a sort's record are below m, where those of every sort that may be a part are.
module _ (st ts : List Sort) (m : ℕ) (low : (s : Sort) → memb s ts ≡ true → index_of s st < m) where
  pub indices-below : (ss : Sorts) → memb_all ss ts ≡ true → (j : ℕ) → j < length (indices_of ss st) → get_or (indices_of ss st) j 0 < m
  unfolding memb_all indices_of
  indices-below end h j o = absurd (not-suc-le-zero o)
  indices-below (s then ss) h zero o = low s (and_left (memb s ts) (memb_all ss ts) h)
  indices-below (s then ss) h (suc j) o = indices-below ss (and_right (memb s ts) (memb_all ss ts) h) j (omega arith)

  fields-below : (s : Sort) → parts_in s ts ≡ true → Below (fields_of st s) m
  unfolding fields_of parts_in
  fields-below (var v) h j o = absurd (not-suc-le-zero o)
  fields-below (par ns b) h zero o = low b h
  fields-below (par ns b) h (suc j) o = absurd (omega arith)
  fields-below (node k a w ss) h j o = indices-below ss h j o

-- Where the records and the offsets stand.
length-offsets : (st ss : List Sort) (x : ℕ) → length (offsets_of st x ss) ≡ length ss
unfolding offsets_of
length-offsets st [] x = refl
length-offsets st (s ∷ ss) x = ap suc (length-offsets st ss (x + length (record_of st s)))

offset_at : (st ss : List Sort) (x m : ℕ) → AllFormed ss → m < length ss → get_or (offsets_of st x ss) m 0 ≡ x + bytes_of (take m ss)
unfolding offsets_of bytes_of AllFormed
offset_at st [] x m h l = absurd (not-suc-le-zero l)
offset_at st (s ∷ ss) x zero h l = omega arith
offset_at st (s ∷ ss) x (suc m) h l =
    omega (
      arith,
      offset_at st ss (x + length (record_of st s)) m (λ k o. h (suc k) (omega arith)) (omega arith),
      record-of-size st s (h 0 (omega arith)),
    )

record-stands : (st ss : List Sort) (z : List ℕ) (m : ℕ) → AllFormed ss → m < length ss
    → Stands (record_of st (get_or ss m leaf)) (records_of st ss ++ z) (bytes_of (take m ss))
unfolding records_of bytes_of AllFormed
record-stands st [] z m h l = absurd (not-suc-le-zero l)
record-stands st (s ∷ ss) z zero h l =
    let r = record_of st s in
    stands-each r (r ++ records_of st ss ++ z) 0
    (λ i o.
    sym (ap (λ (k : ℕ). get_or (r ++ records_of st ss ++ z) k 0) (zero-add i)
    ∙ get_or-append (r ++ records_of st ss) z 0 i (omega (arith, length-append r (records_of st ss)))
    ∙ get_or-append r (records_of st ss) 0 i o))
record-stands st (s ∷ ss) z (suc m) h l =
    let r = record_of st s in
    let y = bytes_of (take m ss) in
    let e : length r + y ≡ record_size s + y = omega (arith, record-of-size st s (h 0 (omega arith))) in
    stands-move (record_of st (get_or ss m leaf)) (r ++ records_of st ss ++ z) (length r + y) (record_size s + y) e
    (stands_same (record_of st (get_or ss m leaf)) (records_of st ss ++ z) (r ++ records_of st ss ++ z) y (length r + y)
    (λ i o.
    let q : length r + (y + i) ≡ length r + y + i = omega arith in
    sym (sym (ap (λ (k : ℕ). get_or (r ++ records_of st ss ++ z) k 0) q)
    ∙ ap (λ (b : List ℕ). get_or b (length r + (y + i)) 0) (append_assoc r (records_of st ss) z)
    ∙ get_or-append-add r (records_of st ss ++ z) (y + i) 0))
    (record-stands st ss z m (λ k o. h (suc k) (omega arith)) (omega arith)))

-- An entry that stands among the first m has a number below m.
index_below : (st : List Sort) → Once st → (m : ℕ) → m ≤ length st → (s : Sort) → memb s (take m st) ≡ true → index_of s st < m
index_below st once m l s h =
    omega (
      arith,
      index-starts (take m st) st s once (drop m st, sym (take-append-drop m st)) h,
      (index-found (take m st) s h).0,
      length-take-le m st l,
    )

module _ (records places : ℕ) (st : List Sort) (once : Once st) (ordered : Ordered st) (formed : AllFormed st) where
  place_at : (m : ℕ) → m < length st → get_or (store_places places st) m 0 ≡ bytes_of (take m st)
  unfolding store_places padded
  place_at m l =
      get_or-append (offsets_of st 0 st) (replicate (places - length (offsets_of st 0 st)) 0) 0 m (omega (arith, length-offsets st st 0))
      ∙ offset_at st st 0 m formed l ∙ zero-add (bytes_of (take m st))

  -- The record of each sort stands at its place.
  stands_at : (m : ℕ) → m < length st → Stands (record_of st (get_or st m leaf)) (store_bytes records st) (get_or (store_places places st) m 0)
  unfolding store_bytes padded
  stands_at m l =
      stands-move (record_of st (get_or st m leaf)) (store_bytes records st) (bytes_of (take m st)) (get_or (store_places places st) m 0)
      (sym (place_at m l))
      (record-stands st st (replicate (records - length (records_of st st)) 0) m formed l)

  fields-at : (m : ℕ) → m < length st → fields_at (store_bytes records st) (get_or (store_places places st) m 0) ≡ fields_of st (get_or st m leaf)
  unfolding record_of AllFormed
  fields-at m l =
      decoded-sized (size (get_or st m leaf)) (fields_of st (get_or st m leaf)) (store_bytes records st) (get_or (store_places places st) m 0)
      (formed-shape st (get_or st m leaf) (formed m l)).proper (stands_at m l)

  -- THE SIZE IN EVERY RECORD OF A STORE IS THE TREE SIZE OF ITS SORT.
  pub sizes-back : (m : ℕ) → m < length st → size_at (store_bytes records st) (get_or (store_places places st) m 0) ≡ size (get_or st m leaf)
  unfolding record_of
  sizes-back m l =
      size-read (size (get_or st m leaf)) (fields_of st (get_or st m leaf)) (store_bytes records st) (get_or (store_places places st) m 0) (stands_at m l)

  store-from : (m : ℕ) → m ≤ length st → store_of (store_bytes records st) (store_places places st) m ≡ take m st
  unfolding store_of AllFormed Ordered
  store-from zero l = refl
  store-from (suc m) l =
      let s = get_or st m leaf in
      let f = fields_of st s in
      let o : m < length st = omega arith in
      let parts : parts_in s (take m st) ≡ true = ordered m o in
      ap₂ (λ (x : List Sort) (y : Sort). x ++ (y ∷ [])) (store-from m (omega arith))
      (ap₂ sort_of (store-from m (omega arith)) (fields-at m o)
      ∙ sort-agree (take m st) st m (λ i h. get_or-take m st i leaf h) f (formed-shape st s (formed m o))
      (fields-below st (take m st) m (index_below st once m (omega arith)) s parts)
      ∙ sort-back st s (formed m o) (parts-starts (take m st) st s (drop m st, sym (take-append-drop m st)) parts))
      ∙ sym (take-suc st m leaf o)

  -- THE BUFFERS OF A STORE DECODE BACK TO IT.
  pub store-back : store_of (store_bytes records st) (store_places places st) (length st) ≡ st
  store-back = store-from (length st) (omega arith) ∙ take-length st
