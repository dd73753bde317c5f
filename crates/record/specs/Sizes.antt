-- How long records are: the bytes of a record by its fields and by its sort, at most 266, or 268 with its size; the size of a
-- record's sort.
use Rattle.std.specs.Prelude.{ℕ, suc, ◌+◌, ◌*◌, ◌≤◌, ◌<◌, ◌≡◌, refl, Bool, true, false, List, [], ◌∷◌, ◌++◌, length, get_or, leb}
use Rattle.std.proofs.Common.{sym, ap, subst, ◌∙◌, arith, length-append, leb→le}
use Rattle.std.proofs.lemmas.List.{nil_from_length}
use Rattle.record.specs.Sort.{Sort, Sorts, var, par, node, end, ◌then◌, count, size, sizes}
use Rattle.record.specs.Record.{Fields, bit, maps, map_of, mosts, most_of, name_bytes, number_bytes, list_bytes, record_bytes, leaf, sorts_of, sort_of}
use Rattle.record.specs.Store.{given, record_size, index_of, indices_of, fields_of, record_of}
use Rattle.record.specs.Decode.{fields, Shape}
use Rattle.record.specs.Table.{at}
use Rattle.record.specs.Codec.{length-numbers, length-name, length-number, fields-equal, sized-length}
use Rattle.record.specs.Forms.{Which, is_var, is_par, is_node, which, sort-var, sort-par, sort-other, par-one, par-name, par-number, var-list, var-number, var-names, other-names, no-names}

-- A list of references has as many sorts.
pub count-sorts : (st : List Sort) (rs : List ℕ) → count (sorts_of st rs) ≡ length rs
unfolding count sorts_of
count-sorts st [] = refl
count-sorts st (r ∷ rs) = ap suc (count-sorts st rs)

length-list : (t : Bool) (vs : List ℕ) → length (list_bytes t vs) ≡ given t (1 + 2 * length vs)
length-list true vs = omega (arith, length-numbers vs)
length-list false vs = refl

-- THE LENGTH OF A RECORD by its fields.
pub record-length : (f : Fields) → length (record_bytes f)
    ≡ 2 + given (bit 2 (map_of f.kind)) 2 + given (bit 4 (map_of f.kind)) 4 + given (bit 16 (map_of f.kind)) (1 + 2 * length f.list) + given (bit 64 (map_of f.kind)) (1 + 2 * length f.names)
unfolding record_bytes
record-length f =
    let m = map_of f.kind in
    let n2 = name_bytes (bit 2 m) f.name in
    let n4 = number_bytes (bit 4 m) f.number in
    let n16 = list_bytes (bit 16 m) f.list in
    let n64 = list_bytes (bit 64 m) f.names in
    omega (
      arith,
      length-name (bit 2 m) f.name,
      length-number (bit 4 m) f.number,
      length-list (bit 16 m) f.list,
      length-list (bit 64 m) f.names,
      length-append n2 (n4 ++ (n16 ++ n64)),
      length-append n4 (n16 ++ n64),
      length-append n16 n64,
    )

abbrev size_by : ℕ → ℕ → ℕ → ℕ
size_by k l ns =
    2 + given (bit 2 (map_of k)) 2 + given (bit 4 (map_of k)) 4 + given (bit 16 (map_of k)) (1 + 2 * l)
    + given (bit 64 (map_of k)) (1 + 2 * ns)

size-var : (k l ns : ℕ) → k ≡ 2 → size_by k l ns ≡ 4
unfolding bit map_of maps
size-var k l ns e = ap (λ (i : ℕ). size_by i l ns) e

size-par : (k ns : ℕ) → k ≡ 12 → size_by k 1 ns ≡ 6 + 2 * ns
unfolding bit map_of maps
size-par k ns e = ap (λ (i : ℕ). size_by i 1 ns) e ∙ omega arith

size-other : (k l ns : ℕ) → k < 16 → (k ≡ 12 → ⊥) → size_by k l ns ≡ 2 + given (bit 2 (map_of k)) 2 + given (bit 4 (map_of k)) 4 + given (bit 16 (map_of k)) (1 + 2 * l)
size-other k l ns h q = omega (arith, ap (λ (t : Bool). given t (1 + 2 * ns)) (no-names k h q))

-- The bytes of a record with its size are those of its sort.
pub record-size : (st : List Sort) (f : Fields) → Shape f → record_size (sort_of st f) ≡ length (record_bytes f) + 2
unfolding record_size
record-size st f s = go (which f.kind)
  where
    go : Which f.kind → record_size (sort_of st f) ≡ length (record_bytes f) + 2
    go (is_var e) =
        ap record_size (sort-var st f e)
        ∙ omega (arith, record-length f ∙ size-var f.kind (length f.list) (length f.names) e)
    go (is_par e) =
        ap record_size (sort-par st f e)
        ∙ omega (
          arith,
          record-length f ∙ ap (λ (i : ℕ). size_by f.kind i (length f.names)) (par-one f s e) ∙ size-par f.kind (length f.names) e,
        )
    go (is_node p q) =
        ap record_size (sort-other st f p q)
        ∙ omega (
          arith,
          ap (λ (i : ℕ). given (bit 16 (map_of f.kind)) (1 + 2 * i)) (count-sorts st f.list),
          record-length f ∙ size-other f.kind (length f.list) (length f.names) s.known q,
        )

-- No list of sorts is longer than 64.
abbrev few-most : ℕ → ℕ → Bool
few-most i m = leb m 64

pub most-few : (k : ℕ) → k < 16 → most_of k ≤ 64
unfolding most_of mosts
most-few k l = leb→le (most_of k) 64 (at few-most mosts tt k l)

given-most : (t : Bool) (v w : ℕ) → v ≤ w → given t v ≤ w
given-most true v w h = h
given-most false v w h = omega arith

-- NO RECORD IS LONGER THAN 266 BYTES.
pub record-short : (f : Fields) → Shape f → length (record_bytes f) ≤ 266
record-short f s =
    let m = map_of f.kind in
    let l = most-few f.kind s.known in
    omega (
      arith,
      record-length f,
      given-most (bit 2 m) 2 2 (omega arith),
      given-most (bit 4 m) 4 4 (omega arith),
      given-most (bit 16 m) (1 + 2 * length f.list) 129 (omega (arith, s.most)),
      given-most (bit 64 m) (1 + 2 * length f.names) 129 (omega (arith, s.few)),
    )

-- A node has no kind that has a constructor of its own; that it is not Par's the shape says.
abbrev pub Own : Sort → Type 0
Own (var v) = Unit {0}
Own (par ns b) = Unit {0}
Own (node k a w ss) = k ≡ 2 → ⊥

-- A WELL-FORMED SORT: its own record has the shape that document 01 asks of a sort record. Whether it has does not
-- depend on a store, so the empty one serves.
pub record Formed (s : Sort) : Type 0 where
  pub shape : Shape (fields_of [] s)
  pub own : Own s

pub length-indices : (ss : Sorts) (st : List Sort) → length (indices_of ss st) ≡ count ss
unfolding indices_of count
length-indices end st = refl
length-indices (s then ss) st = ap suc (length-indices ss st)

-- The shape asks of the list only its length.
pub shape-list : (f : Fields) → Shape f → (l : List ℕ) → length l ≡ length f.list → Shape (fields f.kind f.name f.number l f.names)
shape-list f s l e =
    record {
      known = s.known;
      proper = record { no_name = s.proper.no_name; no_number = s.proper.no_number; no_list = λ h. nil_from_length l (e ∙ ap length (s.proper.no_list h)); no_names = s.proper.no_names };
      name = s.name;
      number = s.number;
      least = omega (arith, s.least, e);
      most = omega (arith, s.most, e);
      some = s.some;
      few = s.few;
      once = s.once;
    }

pub formed-shape : (st : List Sort) (s : Sort) → Formed s → Shape (fields_of st s)
unfolding fields_of
formed-shape st (var v) h = h.shape
formed-shape st (par ns b) h = shape-list (fields_of [] (par ns b)) h.shape (index_of b st ∷ []) refl
formed-shape st (node k a w ss) h =
    shape-list (fields_of [] (node k a w ss)) h.shape (indices_of ss st) (length-indices ss st ∙ sym (length-indices ss []))

-- The sort of a record of that shape is well formed.
pub sort-formed : (st : List Sort) (f : Fields) → Shape f → Formed (sort_of st f)
unfolding fields_of
sort-formed st f s = go (which f.kind)
  where
    go : Which f.kind → Formed (sort_of st f)
    go (is_var e) =
        subst Formed (sym (sort-var st f e))
        (record {
          shape =
              subst Shape
              (fields-equal f.kind f.name f.number f.list f.names 2 f.name 0 [] [] e refl
              (var-number f s.proper e) (var-list f s.proper e) (var-names f s.proper e))
              s;
          own = tt;
        })
    go (is_par e) =
        let l = index_of (get_or st (get_or f.list 0 0) leaf) [] ∷ [] in
        subst Formed (sym (sort-par st f e))
        (record {
          shape =
              subst Shape
              (fields-equal f.kind f.name f.number l f.names 12 0 0 l f.names e
              (par-name f s.proper e) (par-number f s.proper e) refl refl)
              (shape-list f s l (sym (par-one f s e)));
          own = tt;
        })
    go (is_node p q) =
        let l = indices_of (sorts_of st f.list) [] in
        subst Formed (sym (sort-other st f p q))
        (record {
          shape =
              subst Shape
              (fields-equal f.kind f.name f.number l f.names f.kind f.name f.number l [] refl refl refl refl
              (other-names f s.proper s.known q))
              (shape-list f s l (length-indices (sorts_of st f.list) [] ∙ count-sorts st f.list));
          own = p;
        })

-- THE LENGTH OF THE RECORD OF A WELL-FORMED SORT, whatever the store.
fields-size : (st : List Sort) (s : Sort) → Formed s → length (record_bytes (fields_of st s)) + 2 ≡ record_size s
unfolding fields_of record_size
fields-size st (var v) h = omega (arith, record-length (fields_of st (var v)) ∙ size-var 2 0 0 refl)
fields-size st (par ns b) h = omega (arith, record-length (fields_of st (par ns b)) ∙ size-par 12 (length ns) refl)
fields-size st (node k a w ss) h =
    omega (
      arith,
      record-length (fields_of st (node k a w ss))
          ∙ size-other k (length (indices_of ss st)) 0 h.shape.known (λ e. absurd (omega (arith, h.shape.some e))),
      ap (λ (i : ℕ). given (bit 16 (map_of k)) (1 + 2 * i)) (length-indices ss st),
    )

pub record-of-size : (st : List Sort) (s : Sort) → Formed s → length (record_of st s) ≡ record_size s
unfolding record_of
record-of-size st s h = sized-length (size s) (fields_of st s) ∙ fields-size st s h

-- Every sort of the list is well formed.
unfoldable pub AllFormed : List Sort → Type 0
AllFormed ss = (k : ℕ) → k < length ss → Formed (get_or ss k leaf)

-- The size of a record's sort, by the sizes of its references.
size-list : (ts : List Sort) (rs : List ℕ) → length rs ≡ 1 → sizes (sorts_of ts rs) ≡ size (get_or ts (get_or rs 0 0) leaf)
unfolding size sorts_of
size-list ts [] e = absurd (omega arith)
size-list ts (r ∷ []) e = omega arith
size-list ts (r ∷ q ∷ rs) e = absurd (omega arith)

size_none : (ts : List Sort) (rs : List ℕ) → rs ≡ [] → sizes (sorts_of ts rs) ≡ 0
unfolding size sorts_of
size_none ts rs e = ap (λ (l : List ℕ). sizes (sorts_of ts l)) e

pub size-sort : (ts : List Sort) (f : Fields) → Shape f → size (sort_of ts f) ≡ 1 + sizes (sorts_of ts f.list)
unfolding size
size-sort ts f s = go (which f.kind)
  where
    go : Which f.kind → size (sort_of ts f) ≡ 1 + sizes (sorts_of ts f.list)
    go (is_var e) = ap size (sort-var ts f e) ∙ omega (arith, size_none ts f.list (var-list f s.proper e))
    go (is_par e) = ap size (sort-par ts f e) ∙ omega (arith, size-list ts f.list (par-one f s e))
    go (is_node p q) = ap size (sort-other ts f p q)
