-- Reading the bytes of a record gives its fields back, whether or not it carries its size, and a record's bytes are those of its fields.
use Rattle.std.specs.Prelude.{ℕ, zero, suc, ◌+◌, ◌*◌, ◌-◌, ◌/◌, ◌%◌, ◌<◌, ◌≤◌, ◌≡◌, refl, Bool, true, false, List, [], ◌∷◌, ◌++◌, length, get_or, eqb, leb}
use Rattle.std.proofs.Common.{sym, ap, ap₂, subst, ◌∙◌, arith, not-suc-le-zero, length-append, leb→le, eq-eqb}
use Rattle.std.proofs.Math.ListN.{get_or-eq_default}
use Rattle.std.proofs.Math.Decide.{dec_lt}
use Rattle.record.specs.Number.{u16_at, u32_at, numbers_at, u16_bytes, numbers_bytes}
use Rattle.record.specs.Record.{Fields, maps, map_of, bit, name_bytes, number_bytes, list_bytes, behind_map, record_bytes, sized_bytes}
use Rattle.record.specs.Store.{given}
use Rattle.record.specs.Decode.{list_of, list_width, number_place, list_place, names_place, end_place, fields, fields_by, fields_at, size_at, ProperFields, Stands, MapOf}
use Rattle.record.specs.Table.{at}
use Rattle.record.specs.Bytes.{stands-move, stands-left, stands-right, stands-append}

abbrev pub Bytes : List ℕ → Type 0
Bytes b = (i : ℕ) → get_or b i 0 < 256

-- A number of two bytes.
pub u16-read : (v : ℕ) (b : List ℕ) (x : ℕ) → v % 256 ≡ get_or b x 0 → v / 256 ≡ get_or b (x + 1) 0 → u16_at b x ≡ v
unfolding u16_at
u16-read v b x p q = omega (arith, p, q)

pub u16-low : (b : List ℕ) → Bytes b → (x : ℕ) → u16_at b x % 256 ≡ get_or b x 0
unfolding u16_at
u16-low b h x = omega (arith, h x, h (x + 1))

pub u16-high : (b : List ℕ) → Bytes b → (x : ℕ) → u16_at b x / 256 ≡ get_or b (x + 1) 0
unfolding u16_at
u16-high b h x = omega (arith, h x, h (x + 1))

-- Numbers of two bytes each.
pub length-numbers : (vs : List ℕ) → length (numbers_bytes vs) ≡ 2 * length vs
unfolding numbers_bytes
length-numbers [] = refl
length-numbers (v ∷ vs) = omega (arith, length-numbers vs)

pub length-numbers_at : (b : List ℕ) (x n : ℕ) → length (numbers_at b x n) ≡ n
unfolding numbers_at
length-numbers_at b x zero = refl
length-numbers_at b x (suc n) = ap suc (length-numbers_at b (x + 2) n)

-- A number of a list by its place, and the first with the others.
pub number_at : (b : List ℕ) (x n j : ℕ) → j < n → get_or (numbers_at b x n) j 0 ≡ u16_at b (x + 2 * j)
unfolding numbers_at
number_at b x zero j l = absurd (not-suc-le-zero l)
number_at b x (suc n) zero l = let e : x ≡ x + 2 * 0 = omega arith in ap (u16_at b) e
number_at b x (suc n) (suc j) l =
    let e : x + 2 + 2 * j ≡ x + 2 * suc j = omega arith in
    number_at b (x + 2) n j (omega arith) ∙ ap (u16_at b) e

pub numbers_more : (b : List ℕ) (x n : ℕ) → 0 < n → numbers_at b x n ≡ u16_at b x ∷ numbers_at b (x + 2) (n - 1)
unfolding numbers_at
numbers_more b x zero h = absurd (not-suc-le-zero h)
numbers_more b x (suc n) h = let e : n ≡ suc n - 1 = omega arith in ap (λ (i : ℕ). u16_at b x ∷ numbers_at b (x + 2) i) e

pub numbers-read : (vs b : List ℕ) (x : ℕ) → Stands (numbers_bytes vs) b x → numbers_at b x (length vs) ≡ vs
unfolding numbers_at numbers_bytes Stands
numbers-read [] b x h = refl
numbers-read (v ∷ vs) b x h =
    let e : x + 1 + 1 ≡ x + 2 = omega arith in
    ap₂ (λ (a : ℕ) (r : List ℕ). a ∷ r) (u16-read v b x h.0 h.1.0)
    (numbers-read vs b (x + 2) (stands-move (numbers_bytes vs) b (x + 1 + 1) (x + 2) e h.1.1))

pub numbers-stand : (b : List ℕ) → Bytes b → (x n : ℕ) → Stands (numbers_bytes (numbers_at b x n)) b x
unfolding numbers_at numbers_bytes Stands
numbers-stand b h x zero = tt
numbers-stand b h x (suc n) =
    let e : x + 2 ≡ x + 1 + 1 = omega arith in
    (u16-low b h x, (u16-high b h x, stands-move (numbers_bytes (numbers_at b (x + 2) n)) b (x + 2) (x + 1 + 1) e (numbers-stand b h (x + 2) n)))

-- Each field: read back, and standing.
pub name-read : (t : Bool) (v : ℕ) (b : List ℕ) (x : ℕ) → (t ≡ false → v ≡ 0) → Stands (name_bytes t v) b x → given t (u16_at b x) ≡ v
unfolding Stands
name-read true v b x z h = u16-read v b x h.0 h.1.0
name-read false v b x z h = sym (z refl)

pub name-stand : (t : Bool) (b : List ℕ) → Bytes b → (x : ℕ) → Stands (name_bytes t (given t (u16_at b x))) b x
unfolding Stands
name-stand true b h x = (u16-low b h x, (u16-high b h x, tt))
name-stand false b h x = tt

pub number_read : (t : Bool) (v : ℕ) (b : List ℕ) (x : ℕ) → (t ≡ false → v ≡ 0) → Stands (number_bytes t v) b x → given t (u32_at b x) ≡ v
unfolding Stands u32_at u16_at
number_read true v b x z h =
    let e : get_or b (x + 1 + 1) 0 ≡ get_or b (x + 2) 0 = ap (λ (i : ℕ). get_or b i 0) (omega arith) in
    let f : get_or b (x + 1 + 1 + 1) 0 ≡ get_or b (x + 2 + 1) 0 = ap (λ (i : ℕ). get_or b i 0) (omega arith) in
    omega (arith, h.0, h.1.0, h.1.1.0, h.1.1.1.0)
number_read false v b x z h = sym (z refl)

pub number-stand : (t : Bool) (b : List ℕ) → Bytes b → (x : ℕ) → Stands (number_bytes t (given t (u32_at b x))) b x
unfolding Stands u32_at u16_at
number-stand true b h x =
    let e : get_or b (x + 1 + 1) 0 ≡ get_or b (x + 2) 0 = ap (λ (i : ℕ). get_or b i 0) (omega arith) in
    let f : get_or b (x + 1 + 1 + 1) 0 ≡ get_or b (x + 2 + 1) 0 = ap (λ (i : ℕ). get_or b i 0) (omega arith) in (
      omega (arith, h x, h (x + 1), h (x + 2), h (x + 2 + 1)),
      (
        omega (arith, h x, h (x + 1), h (x + 2), h (x + 2 + 1)),
        (
          omega (arith, h x, h (x + 1), h (x + 2), h (x + 2 + 1)),
          (omega (arith, h x, h (x + 1), h (x + 2), h (x + 2 + 1)), tt),
        ),
      ),
    )
number-stand false b h x = tt

pub list_read : (t : Bool) (vs b : List ℕ) (x : ℕ) → (t ≡ false → vs ≡ []) → Stands (list_bytes t vs) b x → list_of t b x ≡ vs
unfolding Stands
list_read true vs b x z h = ap (numbers_at b (x + 1)) (sym h.0) ∙ numbers-read vs b (x + 1) h.1
list_read false vs b x z h = sym (z refl)

pub list-width : (t : Bool) (vs b : List ℕ) (x : ℕ) → Stands (list_bytes t vs) b x → list_width t b x ≡ length (list_bytes t vs)
unfolding Stands
list-width true vs b x h = omega (arith, h.0, length-numbers vs)
list-width false vs b x h = refl

pub list-stand : (t : Bool) (b : List ℕ) → Bytes b → (x : ℕ) → Stands (list_bytes t (list_of t b x)) b x
unfolding Stands
list-stand true b h x = (length-numbers_at b (x + 1) (get_or b x 0), numbers-stand b h (x + 1) (get_or b x 0))
list-stand false b h x = tt

pub length-name : (t : Bool) (v : ℕ) → length (name_bytes t v) ≡ given t 2
length-name true v = refl
length-name false v = refl

pub length-number : (t : Bool) (v : ℕ) → length (number_bytes t v) ≡ given t 4
length-number true v = refl
length-number false v = refl

pub fields-equal : (k a w : ℕ) (l ns : List ℕ) (k' a' w' : ℕ) (l' ns' : List ℕ) → k ≡ k' → a ≡ a' → w ≡ w' → l ≡ l' → ns ≡ ns' → fields k a w l ns ≡ fields k' a' w' l' ns'
fields-equal k a w l ns k' a' w' l' ns' p q r s t =
    ap (λ (i : ℕ). fields i a w l ns) p ∙ ap (λ (i : ℕ). fields k' i w l ns) q ∙ ap (λ (i : ℕ). fields k' a' i l ns) r
    ∙ ap (λ (i : List ℕ). fields k' a' w' i ns) s ∙ ap (λ (i : List ℕ). fields k' a' w' l' i) t

-- No kind's map has bit 128.
abbrev low-map : ℕ → ℕ → Bool
low-map i m = leb m 127

low_by : (k : ℕ) → Dec (k < 16) → map_of k ≤ 127
unfolding map_of maps
low_by k (yes l) = leb→le (map_of k) 127 (at low-map maps tt k l)
low_by k (no h) = omega (arith, get_or-eq_default maps 0 {n = k} (omega arith))

pub map-low : (k : ℕ) → map_of k ≤ 127
map-low k = low_by k (dec_lt k 16)

-- The bits of two maps that differ in bit 128 at most.
pub record SameBits (m n : ℕ) : Type 0 where
  pub name : bit 2 m ≡ bit 2 n
  pub number : bit 4 m ≡ bit 4 n
  pub list : bit 16 m ≡ bit 16 n
  pub names : bit 64 m ≡ bit 64 n

even-off : (x y : ℕ) → (2 * x + y) % 2 ≡ y % 2
even-off x y = omega arith

-- 128 is an even multiple of each lower bit.
lower-bits : (q n : ℕ) → SameBits (128 * q + n) n
unfolding bit
lower-bits q n =
    let e2 : (128 * q + n) / 2 ≡ 2 * (32 * q) + n / 2 = omega arith in
    let e4 : (128 * q + n) / 4 ≡ 2 * (16 * q) + n / 4 = omega arith in
    let e16 : (128 * q + n) / 16 ≡ 2 * (4 * q) + n / 16 = omega arith in
    let e64 : (128 * q + n) / 64 ≡ 2 * q + n / 64 = omega arith in
    record {
      name = ap (λ (i : ℕ). eqb (i % 2) 1) e2 ∙ ap (λ (i : ℕ). eqb i 1) (even-off (32 * q) (n / 2));
      number = ap (λ (i : ℕ). eqb (i % 2) 1) e4 ∙ ap (λ (i : ℕ). eqb i 1) (even-off (16 * q) (n / 4));
      list = ap (λ (i : ℕ). eqb (i % 2) 1) e16 ∙ ap (λ (i : ℕ). eqb i 1) (even-off (4 * q) (n / 16));
      names = ap (λ (i : ℕ). eqb (i % 2) 1) e64 ∙ ap (λ (i : ℕ). eqb i 1) (even-off q (n / 64));
    }

pub same_bits : (m k : ℕ) → MapOf m k → SameBits m (map_of k)
same_bits m k e =
    let d : 128 * (m / 128) + map_of k ≡ m = omega (arith, e) in
    subst (λ (i : ℕ). SameBits i (map_of k)) d (lower-bits (m / 128) (map_of k))

-- The fields and the end of a record do not depend on bit 128.
fields-by : (m n : ℕ) (b : List ℕ) (x : ℕ) → SameBits m n → fields_by m b x ≡ fields_by n b x
unfolding fields_by
fields-by m n b x e = rw (e.name, e.number, e.list, e.names) refl

end_by : (m n : ℕ) (b : List ℕ) (x : ℕ) → SameBits m n → end_place m b x ≡ end_place n b x
end_by m n b x e = rw (e.name, e.number, e.list, e.names) refl

-- Where each field of a record that stands at x stands.
pub record Laid (f : Fields) (b : List ℕ) (x : ℕ) : Type 0 where
  pub kind : f.kind ≡ get_or b (x + 1) 0
  pub name : Stands (name_bytes (bit 2 (map_of f.kind)) f.name) b (x + 2)
  pub number : Stands (number_bytes (bit 4 (map_of f.kind)) f.number) b (number_place (map_of f.kind) x)
  pub list : Stands (list_bytes (bit 16 (map_of f.kind)) f.list) b (list_place (map_of f.kind) x)
  pub names : Stands (list_bytes (bit 64 (map_of f.kind)) f.names) b (names_place (map_of f.kind) b x)

pub laid : (f : Fields) (b : List ℕ) (x : ℕ) → Stands (behind_map f) b (x + 1) → Laid f b x
unfolding Stands
laid f b x h =
    let m = map_of f.kind in
    let n2 = name_bytes (bit 2 m) f.name in
    let n4 = number_bytes (bit 4 m) f.number in
    let n16 = list_bytes (bit 16 m) f.list in
    let n64 = list_bytes (bit 64 m) f.names in
    let e : x + 1 + 1 ≡ x + 2 = omega arith in
    let all = stands-move (n2 ++ (n4 ++ (n16 ++ n64))) b (x + 1 + 1) (x + 2) e h.1 in
    let r4 = stands-right n2 (n4 ++ (n16 ++ n64)) b (x + 2) all in
    let e4 : x + 2 + length n2 ≡ number_place m x = omega (arith, length-name (bit 2 m) f.name) in
    let s4 = stands-move (n4 ++ (n16 ++ n64)) b (x + 2 + length n2) (number_place m x) e4 r4 in
    let r16 = stands-right n4 (n16 ++ n64) b (number_place m x) s4 in
    let e16 : number_place m x + length n4 ≡ list_place m x = omega (arith, length-number (bit 4 m) f.number) in
    let s16 = stands-move (n16 ++ n64) b (number_place m x + length n4) (list_place m x) e16 r16 in
    let l16 = stands-left n16 n64 b (list_place m x) s16 in
    let e64 : list_place m x + length n16 ≡ names_place m b x = omega (arith, list-width (bit 16 m) f.list b (list_place m x) l16) in
    record {
      kind = h.0;
      name = stands-left n2 (n4 ++ (n16 ++ n64)) b (x + 2) all;
      number = stands-left n4 (n16 ++ n64) b (number_place m x) s4;
      list = l16;
      names = stands-move n64 b (list_place m x + length n16) (names_place m b x) e64 (stands-right n16 n64 b (list_place m x) s16);
    }

-- A record that stands with its size, or without one, has its kind's map and its fields behind it.
pub plain_map : (f : Fields) (b : List ℕ) (x : ℕ) → Stands (record_bytes f) b x → MapOf (get_or b x 0) f.kind
unfolding record_bytes Stands
plain_map f b x h = omega (arith, h.0, map-low f.kind)

pub plain-fields : (f : Fields) (b : List ℕ) (x : ℕ) → Stands (record_bytes f) b x → Stands (behind_map f) b (x + 1)
unfolding record_bytes Stands
plain-fields f b x h = h.1

pub sized-map : (z : ℕ) (f : Fields) (b : List ℕ) (x : ℕ) → Stands (sized_bytes z f) b x → MapOf (get_or b x 0) f.kind
unfolding sized_bytes Stands
sized-map z f b x h = omega (arith, h.0, map-low f.kind)

pub sized-fields : (z : ℕ) (f : Fields) (b : List ℕ) (x : ℕ) → Stands (sized_bytes z f) b x → Stands (behind_map f) b (x + 1)
unfolding sized_bytes Stands
sized-fields z f b x h = stands-left (behind_map f) (u16_bytes z) b (x + 1) h.1

-- How long a record is with its size.
pub sized-length : (z : ℕ) (f : Fields) → length (sized_bytes z f) ≡ length (record_bytes f) + 2
unfolding sized_bytes record_bytes
sized-length z f = omega (arith, length-append (behind_map f) (u16_bytes z))

-- THE SIZE IN A RECORD is read back behind its other fields.
pub sized-size : (z : ℕ) (f : Fields) (b : List ℕ) (x : ℕ) → Stands (sized_bytes z f) b x → u16_at b (x + length (record_bytes f)) ≡ z
unfolding sized_bytes record_bytes Stands
sized-size z f b x h =
    let e : x + 1 + length (behind_map f) ≡ x + length (record_bytes f) = omega arith in
    let r = stands-move (u16_bytes z) b (x + 1 + length (behind_map f)) (x + length (record_bytes f)) e (stands-right (behind_map f) (u16_bytes z) b (x + 1) h.1) in
    u16-read z b (x + length (record_bytes f)) r.0 r.1.0

-- DECODING AN ENCODING GIVES IT BACK, wherever it stands.
pub decoded-by : (f : Fields) (b : List ℕ) (x : ℕ) → ProperFields f → MapOf (get_or b x 0) f.kind → Stands (behind_map f) b (x + 1) → fields_at b x ≡ f
unfolding fields_at fields_by
decoded-by f b x p e h =
    let m = map_of f.kind in
    let l = laid f b x h in
    fields-by (get_or b x 0) m b x (same_bits (get_or b x 0) f.kind e)
    ∙ fields-equal _ _ _ _ _ f.kind f.name f.number f.list f.names
    (sym l.kind)
    (name-read (bit 2 m) f.name b (x + 2) p.no_name l.name)
    (number_read (bit 4 m) f.number b (number_place m x) p.no_number l.number)
    (list_read (bit 16 m) f.list b (list_place m x) p.no_list l.list)
    (list_read (bit 64 m) f.names b (names_place m b x) p.no_names l.names)

pub decoded : (f : Fields) (b : List ℕ) (x : ℕ) → ProperFields f → Stands (record_bytes f) b x → fields_at b x ≡ f
decoded f b x p h = decoded-by f b x p (plain_map f b x h) (plain-fields f b x h)

-- The same for a record with its size.
pub decoded-sized : (z : ℕ) (f : Fields) (b : List ℕ) (x : ℕ) → ProperFields f → Stands (sized_bytes z f) b x → fields_at b x ≡ f
decoded-sized z f b x p h = decoded-by f b x p (sized-map z f b x h) (sized-fields z f b x h)

-- How long it is, up to its size.
pub record-end : (f : Fields) (b : List ℕ) (x : ℕ) → MapOf (get_or b x 0) f.kind → Stands (behind_map f) b (x + 1) → end_place (get_or b x 0) b x ≡ x + length (record_bytes f)
unfolding record_bytes
record-end f b x e h =
    let m = map_of f.kind in
    let l = laid f b x h in
    let n2 = name_bytes (bit 2 m) f.name in
    let n4 = number_bytes (bit 4 m) f.number in
    let n16 = list_bytes (bit 16 m) f.list in
    let n64 = list_bytes (bit 64 m) f.names in
    end_by (get_or b x 0) m b x (same_bits (get_or b x 0) f.kind e)
    ∙ omega (
      arith,
      list-width (bit 16 m) f.list b (list_place m x) l.list,
      list-width (bit 64 m) f.names b (names_place m b x) l.names,
      length-name (bit 2 m) f.name,
      length-number (bit 4 m) f.number,
      length-append n2 (n4 ++ (n16 ++ n64)),
      length-append n4 (n16 ++ n64),
      length-append n16 n64,
    )

-- THE SIZE THAT A RECORD WAS GIVEN IS READ BACK, wherever it stands.
high_bit : (m : ℕ) → m ≤ 127 → bit 128 (m + 128) ≡ true
unfolding bit
high_bit m l = let e : (m + 128) / 128 % 2 ≡ 1 = omega arith in eq-eqb ((m + 128) / 128 % 2) 1 e

pub sized-bit : (z : ℕ) (f : Fields) (b : List ℕ) (x : ℕ) → Stands (sized_bytes z f) b x → bit 128 (get_or b x 0) ≡ true
unfolding sized_bytes Stands
sized-bit z f b x h = ap (bit 128) (sym h.0) ∙ high_bit (map_of f.kind) (map-low f.kind)

pub size-read : (z : ℕ) (f : Fields) (b : List ℕ) (x : ℕ) → Stands (sized_bytes z f) b x → size_at b x ≡ z
unfolding size_at
size-read z f b x h =
    ap (λ (t : Bool). given t (u16_at b (end_place (get_or b x 0) b x))) (sized-bit z f b x h)
    ∙ ap (u16_at b) (record-end f b x (sized-map z f b x h) (sized-fields z f b x h))
    ∙ sized-size z f b x h

-- A RECORD'S BYTES ARE THOSE OF ITS FIELDS, where its map is the kind's: so equal fields mean equal bytes.
pub canonical : (b : List ℕ) (x : ℕ) → Bytes b → MapOf (get_or b x 0) (get_or b (x + 1) 0) → Stands (behind_map (fields_at b x)) b (x + 1)
unfolding fields_at fields_by Stands
canonical b x h e =
    let m = get_or b x 0 in
    let d = same_bits m (get_or b (x + 1) 0) e in
    let n2 = name_bytes (bit 2 m) (given (bit 2 m) (u16_at b (x + 2))) in
    let n4 = number_bytes (bit 4 m) (given (bit 4 m) (u32_at b (number_place m x))) in
    let n16 = list_bytes (bit 16 m) (list_of (bit 16 m) b (list_place m x)) in
    let n64 = list_bytes (bit 64 m) (list_of (bit 64 m) b (names_place m b x)) in
    let l16 = list-stand (bit 16 m) b h (list_place m x) in
    let e64 : names_place m b x ≡ list_place m x + length n16 = omega (arith, list-width (bit 16 m) (list_of (bit 16 m) b (list_place m x)) b (list_place m x) l16) in
    let e16 : list_place m x ≡ number_place m x + length n4 = omega (arith, length-number (bit 4 m) (given (bit 4 m) (u32_at b (number_place m x)))) in
    let e4 : number_place m x ≡ x + 2 + length n2 = omega (arith, length-name (bit 2 m) (given (bit 2 m) (u16_at b (x + 2)))) in
    let e2 : x + 2 ≡ x + 1 + 1 = omega arith in
    let s16 = stands-append n16 n64 b (list_place m x) l16 (stands-move n64 b (names_place m b x) (list_place m x + length n16) e64 (list-stand (bit 64 m) b h (names_place m b x))) in
    let s4 = stands-append n4 (n16 ++ n64) b (number_place m x) (number-stand (bit 4 m) b h (number_place m x)) (stands-move (n16 ++ n64) b (list_place m x) (number_place m x + length n4) e16 s16) in
    let s2 = stands-append n2 (n4 ++ (n16 ++ n64)) b (x + 2) (name-stand (bit 2 m) b h (x + 2)) (stands-move (n4 ++ (n16 ++ n64)) b (number_place m x) (x + 2 + length n2) e4 s4) in
    (refl, rw (sym d.name, sym d.number, sym d.list, sym d.names) (stands-move (n2 ++ (n4 ++ (n16 ++ n64))) b (x + 2) (x + 1 + 1) e2 s2))
