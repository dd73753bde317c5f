-- What a sort record that was read tells: the bytes there are a record in the store's form, its fields are those read, and
-- the next cursor is behind it and the tree size that it may say.
use Rattle.std.specs.Prelude.{ℕ, ◌+◌, ◌*◌, ◌/◌, ◌%◌, ◌≤◌, ◌<◌, ◌≡◌, refl, Bool, true, false, ◌||◌, List, length, get_or, leb, eqb, Option}
use Rattle.std.proofs.Common.{sym, ◌∙◌, ap₂, arith, leb-true, leb-false, eqb-true, eq-eqb}
use Rattle.std.proofs.Math.Path.{ap, subst}
use Rattle.std.proofs.Math.ListN.{get_or-eq_default}
use Rattle.record.specs.Number.{u16_at, u32_at, numbers_at}
use Rattle.record.specs.Names.{distinct}
use Rattle.record.specs.Record.{Fields, maps, map_of, leasts, least_of, most_of, bit, record_bytes}
use Rattle.record.specs.Store.{given}
use Rattle.record.specs.Decode.{list_of, number_place, list_place, names_place, end_place, fields, fields_by, fields_at, ProperFields, Shape, Below, MapOf, Held}
use Rattle.record.specs.Table.{at}
use Rattle.record.specs.Codec.{Bytes, SameBits, same_bits, canonical, record-end, length-numbers_at, fields-equal}
use Rattle.record.specs.Kinds.{sort_number, sort_kind}
use Rattle.record.specs.KindLaws.{sort_kind-found}
use Rattle.record.specs.declared.kinds.SortKind.{SortKind}
use Rattle.reader.specs.declared.Cursor.{Cursor}
use Rattle.reader.specs.declared.SheetSort.{SheetSort}
use Rattle.reader.specs.Reader.{gave, all_below, read_head, read_name, read_number, read_references, read_names, read_size, read_sort_fields, read_sort}
use Rattle.reader.specs.Was.{no-value, by-need, by-read, by-kind, read-value, read-cursor, false-true, NumberWas, HeadWas, head-was, name-was, number-was, ListWas, references-were, names-were, SizeWas, size-was, size_said, said_width, all-below-each, u16-small, given-small, low_by, high-by, or-last}

-- WHAT THE SORT RECORD AT x SAYS OF ITS TREE SIZE: the two bytes behind its fields where bit 128 stands in its map, else nothing.
unfoldable pub said_at : List ℕ → ℕ → Option ℕ
said_at s x = size_said (bit 128 (get_or s x 0)) s (x + length (record_bytes (fields_at s x)))

-- THE RECORD THAT WAS READ with the number i at x: it lies there, its fields are those read, it says that size, and the next
-- record starts behind it
pub record SortWas (s : List ℕ) (i x : ℕ) (w : SheetSort) (c : Cursor) : Type 0 where
  pub held : Held s x i
  pub same : fields_at s x
      ≡ fields (sort_number w.fields.kind) w.fields.name w.fields.number (numbers_at s w.fields.parts.at w.fields.parts.count) (numbers_at s w.fields.names.at w.fields.names.count)
  -- where the fields end, what is said of the size behind them, and where that ends
  pub plain : w.fields.names.at + 2 * w.fields.names.count ≡ x + length (record_bytes (fields_at s x))
  pub size : w.size ≡ said_at s x
  pub next : c.at ≡ x + length (record_bytes (fields_at s x)) + said_width w.size
  -- where the list stands, if the record has one
  pub start : bit 16 (get_or s x 0) ≡ true → w.fields.parts.at ≡ list_place (get_or s x 0) x + 1
  pub empty : bit 16 (get_or s x 0) ≡ false → w.fields.parts.count ≡ 0
  pub low : x + 2 ≤ w.fields.parts.at
  pub high : w.fields.parts.at + 2 * w.fields.parts.count ≤ c.at
  -- the names behind it, and the end
  pub after : w.fields.parts.at + 2 * w.fields.parts.count ≤ w.fields.names.at
  pub ends : w.fields.names.at + 2 * w.fields.names.count ≤ c.at
  pub inside : c.at ≤ length s

-- what the tables say
abbrev none-least : ℕ → ℕ → Bool
none-least i m = bit 16 m || eqb (least_of i) 0

no-least : (k : ℕ) → k < 16 → bit 16 (map_of k) ≡ false → least_of k ≡ 0
unfolding bit map_of maps least_of leasts
no-least k l e = eqb-true (least_of k) 0 (or-last (bit 16 (map_of k)) (eqb (least_of k) 0) (at none-least maps tt k l) e)

known_by : (k : ℕ) (t : Bool) → leb 16 k ≡ t → bit 1 (map_of k) ≡ true → k < 16
unfolding bit map_of maps
known_by k true e h = let z : map_of k ≡ 0 = get_or-eq_default maps 0 {n = k} (leb-true 16 k e) in false-true (sym (ap (bit 1) z) ∙ h)
known_by k false e h = leb-false 16 k e

-- bit 128 is not bit 1
odd_low : (m k : ℕ) → MapOf m k → bit 1 m ≡ true → bit 1 (map_of k) ≡ true
unfolding bit
odd_low m k e h = let o : m / 1 % 2 ≡ 1 = eqb-true (m / 1 % 2) 1 h in eq-eqb (map_of k / 1 % 2) 1 (omega (arith, e, o))

module _ (s : List ℕ) (bytes : Bytes s) (i x m : ℕ) (kind : SortKind) (k : ℕ) (is : k ≡ sort_number kind) (c2 : Cursor) (head : HeadWas s x m k c2) (mk : MapOf m k)
    (a : ℕ) (c3 : Cursor) (w : ℕ) (c4 : Cursor) (l n : ℕ) (c5 : Cursor) (ns q : ℕ) (c6 : Cursor) (z : Option ℕ) (c7 : Cursor)
    (r3 : NumberWas s (x + 2) (given (bit 2 m) (u16_at s (x + 2))) (given (bit 2 m) 2) a c3)
    (r4 : NumberWas s (number_place m x) (given (bit 4 m) (u32_at s (number_place m x))) (given (bit 4 m) 4) w c4) (small : w ≤ 65535)
    (r5 : ListWas s (bit 16 m) (least_of k) (most_of k) (list_place m x) l n c5) (below : all_below i (numbers_at s l n) ≡ true)
    (r6 : ListWas s (bit 64 m) 1 64 (names_place m s x) ns q c6) (once : distinct (numbers_at s ns q) ≡ true)
    (r7 : SizeWas s (bit 128 m) c6.at z c7) where
  known : k < 16
  known = known_by k (leb 16 k) refl (odd_low m k mk head.odd)

  same : fields_at s x ≡ fields k a w (numbers_at s l n) (numbers_at s ns q)
  unfolding fields_at fields_by
  same =
      rw (sym head.map)
      (fields-equal _ _ _ _ _ k a w (numbers_at s l n) (numbers_at s ns q) (sym head.kind) (sym r3.value) (sym r4.value) (sym r5.values) (sym r6.values))

  -- the bits of the fields are those of the kind's map
  bits : SameBits m (map_of k)
  bits = same_bits m k mk

  proper : ProperFields (fields k a w (numbers_at s l n) (numbers_at s ns q))
  proper =
      record {
        no_name = λ e. r3.value ∙ ap (λ (t : Bool). given t (u16_at s (x + 2))) (bits.name ∙ e);
        no_number = λ e. r4.value ∙ ap (λ (t : Bool). given t (u32_at s (number_place m x))) (bits.number ∙ e);
        no_list = λ e. r5.values ∙ ap (λ (t : Bool). list_of t s (list_place m x)) (bits.list ∙ e);
        no_names = λ e. r6.values ∙ ap (λ (t : Bool). list_of t s (names_place m s x)) (bits.names ∙ e);
      }

  shape : Shape (fields k a w (numbers_at s l n) (numbers_at s ns q))
  unfolding bit map_of maps
  shape =
      record {
        known = known;
        proper = proper;
        name = omega (arith, r3.value, given-small (bit 2 m) (u16_at s (x + 2)) (u16-small s bytes (x + 2)));
        number = omega arith;
        least = omega (arith, length-numbers_at s l n, low_by (bit 16 m) (least_of k) n r5.least (λ e. no-least k known (sym bits.list ∙ e)));
        most = omega (arith, length-numbers_at s l n, high-by (bit 16 m) n (most_of k) r5.most r5.empty);
        some = λ e. omega (arith, length-numbers_at s ns q, r6.least (bits.names ∙ ap (λ (j : ℕ). bit 64 (map_of j)) e));
        few = omega (arith, length-numbers_at s ns q, high-by (bit 64 m) q 64 r6.most r6.empty);
        once = once;
      }

  stands : MapOf (get_or s x 0) (get_or s (x + 1) 0)
  stands = ap (λ (j : ℕ). j % 128) (sym head.map) ∙ mk ∙ ap map_of head.kind

  map-held : MapOf (get_or s x 0) (fields_at s x).kind
  unfolding fields_at fields_by
  map-held = stands

  end_is : c6.at ≡ x + length (record_bytes (fields_at s x))
  end_is =
      r6.next
      ∙ ap (λ (j : ℕ). end_place j s x) head.map
      ∙ record-end (fields_at s x) s x map-held (canonical s x bytes stands)

  end-inside : c3.at ≡ number_place m x → c4.at ≡ list_place m x → c5.at ≡ names_place m s x → c7.at ≤ length s
  end-inside e3 e4 e5 =
      r7.inside (r6.inside (omega (arith, e5, r5.inside (omega (arith, e4, r4.inside (omega (arith, e3, r3.inside head.inside)))))))

  said : z ≡ said_at s x
  unfolding said_at
  said = r7.value ∙ ap₂ (λ (j y : ℕ). size_said (bit 128 j) s y) head.map end_is

  fields-were : c3.at ≡ number_place m x → c4.at ≡ list_place m x → c5.at ≡ names_place m s x
      → SortWas s i x (record { fields = record { kind = kind; name = a; number = w; parts = record { at = l; count = n }; names = record { at = ns; count = q } }; size = z }) c7
  fields-were e3 e4 e5 =
      record {
        held =
            record {
              within = omega (arith, end_is, r7.next, end-inside e3 e4 e5);
              map = map-held;
              stands = canonical s x bytes stands;
              shape = subst Shape (sym same) shape;
              below = subst (λ (f : Fields). Below f i) (sym same) (all-below-each i (numbers_at s l n) below);
            };
        same = same ∙ ap (λ (j : ℕ). fields j a w (numbers_at s l n) (numbers_at s ns q)) is;
        plain = r6.ends ∙ end_is;
        size = said;
        next = omega (arith, r7.next, end_is);
        start = λ e. r5.start (ap (bit 16) head.map ∙ e) ∙ ap (λ (j : ℕ). list_place j x + 1) head.map;
        empty = λ e. r5.empty (ap (bit 16) head.map ∙ e);
        low = omega (arith, r5.after);
        high = omega (arith, r5.ends, e5, r6.after, r6.ends, r7.next);
        after = omega (arith, r5.ends, e5, r6.after);
        ends = omega (arith, r6.ends, r7.next);
        inside = end-inside e3 e4 e5;
      }

-- EVERY ACCEPTED SORT RECORD is such a one; the chain of its fields, taken apart
module _ (s : List ℕ) (bytes : Bytes s) (i x : ℕ) (r : SheetSort) (c : Cursor) where
  fields-gave : (m : ℕ) (kind : SortKind) (k : ℕ) (is : k ≡ sort_number kind) (c2 : Cursor) → HeadWas s x m k c2 → MapOf m k
      → read_sort_fields s m kind i c2.at ≡ gave r c → SortWas s i x r c
  unfolding read_sort_fields
  fields-gave m kind k is c2 head mk h =
      by-read _ (read_name s m c2.at) h
      (λ a c3 p3 h3.
      by-read _ (read_number s m 65535 c3.at) h3
      (λ w c4 p4 h4.
      by-read _ (read_references s m (least_of (sort_number kind)) (most_of (sort_number kind)) i c4.at) h4
      (λ l c5 p5 h5.
      by-read _ (read_names s m 1 64 c5.at) h5
      (λ ns c6 p6 h6.
      by-read _ (read_size s m c6.at) h6
      (λ z c7 p7 h7.
      let r3 = name-was s m (x + 2) (rw head.next at p3) in
      let r4 = number-was s m 65535 (number_place m x) (rw r3.next at p4) in
      let p5k = rw (← is) at p5 in
      let r5 = references-were s m (least_of k) (most_of k) i (list_place m x) (rw r4.0.next at p5k) in
      let r6 = names-were s m 1 64 (names_place m s x) (rw r5.0.next at p6) in
      let r7 = size-was s m c6.at p7 in
      subst (SortWas s i x r) (read-cursor h7)
      (subst (λ (j : SheetSort). SortWas s i x j c7) (read-value h7)
      (fields-were s bytes i x m kind k is c2 head mk a c3 w c4 l.at l.count c5 ns.at ns.count c6 z c7 r3 r4.0 r4.1 r5.0 r5.1 r6.0 r6.1 r7 r3.next r4.0.next r5.0.next)))))))

  pub sort-was : read_sort s i x ≡ gave r c → SortWas s i x r c
  unfolding read_sort
  sort-was h =
      by-read _ (read_head s x) h
      (λ d c2 p h1.
      by-kind _ (sort_kind d.kind) h1
      (λ kind q h2.
      let is : d.kind ≡ sort_number kind = sort_kind-found d.kind kind q in
      by-need (eqb (d.map % 128) (map_of (sort_number kind))) h2 no-value
      (λ e h3.
      fields-gave d.map kind d.kind is c2 (head-was s x d c2 p) (eqb-true (d.map % 128) (map_of (sort_number kind)) e ∙ ap map_of (sym is)) h3)))
