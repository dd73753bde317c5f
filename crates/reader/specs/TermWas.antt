-- What a term record that was read tells: a known kind, numbers, counts and references within their limits, lists that
-- lie in the slice, and the next cursor behind it.
use Rattle.std.specs.Prelude.{ℕ, ◌+◌, ◌*◌, ◌-◌, ◌≤◌, ◌<◌, ◌≡◌, refl, Bool, false, cond, ◌||◌, List, length, get_or, leb, eqb}
use Rattle.std.proofs.Common.{sym, ap, ◌∙◌, arith, leb→le, leb-true, leb-false, eqb-true, ne_eqb}
use Rattle.std.proofs.Math.Path.{subst}
use Rattle.std.proofs.Math.Bool.{true}
use Rattle.std.proofs.Math.ListN.{get_or-eq_default}
use Rattle.record.specs.Number.{u16_at, u32_at, numbers_at}
use Rattle.record.specs.Record.{bit}
use Rattle.record.specs.Store.{given}
use Rattle.record.specs.Table.{at}
use Rattle.record.specs.Codec.{Bytes}
use Rattle.record.specs.Cases.{or-other}
use Rattle.reader.specs.Tables.{term_maps, term_map_of, term_number_of, term_leasts, term_least_of, term_mosts, term_most_of, second_least_of, second_most_of}
use Rattle.record.specs.Kinds.{term_number, term_kind}
use Rattle.record.specs.KindLaws.{term_kind-found}
use Rattle.record.specs.declared.kinds.TermKind.{TermKind}
use Rattle.reader.specs.declared.Cursor.{Cursor}
use Rattle.reader.specs.declared.TermRecord.{TermRecord}
use Rattle.reader.specs.Reader.{gave, all_below, read_head, read_name, read_number, read_own, read_references, read_pairs, read_second, read_term_fields, read_term}
use Rattle.reader.specs.Was.{no-value, by-need, by-read, by-kind, read-value, read-cursor, false-true, NumberWas, HeadWas, head-was, name-was, number-was, own-was, ListWas, references-were, second-was, PairsWere, pairs-were, references-low, pairs_below, u16-small, given-small, low_by, high-by, or-last}

-- THE RECORD THAT WAS READ with the number t at x, on a sheet of `sorts` sorts
pub record TermWas (s : List ℕ) (sorts t x : ℕ) (r : TermRecord) (c : Cursor) : Type 0 where
  -- its map is that of its kind, which is a known one
  pub known : term_number r.kind < 13
  pub map : get_or s x 0 ≡ term_map_of (term_number r.kind)
  pub tag : get_or s (x + 1) 0 ≡ term_number r.kind
  -- numbers within their limits
  pub name : r.name < 65536
  pub number : r.number ≤ term_number_of (term_number r.kind)
  pub sort : bit 8 (term_map_of (term_number r.kind)) ≡ true → r.sort < sorts
  -- the list: terms before this one
  pub least : term_least_of (term_number r.kind) ≤ r.list.count
  pub most : r.list.count ≤ term_most_of (term_number r.kind)
  pub few : r.list.count ≤ 64
  pub list : r.list.at + 2 * r.list.count ≤ length s
  pub references : (j : ℕ) → j < r.list.count → u16_at s (r.list.at + 2 * j) < t
  -- the pairs: sorts of the sheet
  pub paired : r.pairs.count ≤ 64
  pub pairs : r.pairs.at + 4 * r.pairs.count ≤ length s
  pub bindings : (j : ℕ) → j < r.pairs.count → u16_at s (r.pairs.at + 4 * j + 2) < sorts
  -- the second list: a Let's names, one a value, or index terms before this one
  pub seconds : r.second.count ≤ 64
  pub second : r.second.at + 2 * r.second.count ≤ length s
  pub values : term_number r.kind ≡ 9 → r.second.count ≡ r.list.count - 1
  pub indices : (term_number r.kind ≡ 9 → ⊥) → (j : ℕ) → j < r.second.count → u16_at s (r.second.at + 2 * j) < t
  -- what the map leaves out is 0 or empty
  pub no_name : bit 2 (term_map_of (term_number r.kind)) ≡ false → r.name ≡ 0
  pub no_number : bit 4 (term_map_of (term_number r.kind)) ≡ false → r.number ≡ 0
  pub no_sort : bit 8 (term_map_of (term_number r.kind)) ≡ false → r.sort ≡ 0
  pub no_list : bit 16 (term_map_of (term_number r.kind)) ≡ false → r.list.count ≡ 0
  pub no_pairs : bit 32 (term_map_of (term_number r.kind)) ≡ false → r.pairs.count ≡ 0
  pub no_second : bit 64 (term_map_of (term_number r.kind)) ≡ false → r.second.count ≡ 0
  -- the next record starts behind all of it, in the slice
  pub after : x + 2 ≤ c.at
  pub list_ends : r.list.at + 2 * r.list.count ≤ c.at
  pub pairs_end : r.pairs.at + 4 * r.pairs.count ≤ c.at
  pub second_ends : r.second.at + 2 * r.second.count ≤ c.at
  pub inside : c.at ≤ length s

-- what the tables say
known_by : (k : ℕ) (t : Bool) → leb 13 k ≡ t → bit 1 (term_map_of k) ≡ true → k < 13
unfolding bit term_map_of term_maps
known_by k true e h = let z : term_map_of k ≡ 0 = get_or-eq_default term_maps 0 {n = k} (leb-true 13 k e) in false-true (sym (ap (bit 1) z) ∙ h)
known_by k false e h = leb-false 13 k e

abbrev none-least : ℕ → ℕ → Bool
none-least i m = bit 16 m || eqb (term_least_of i) 0

no-least : (k : ℕ) → k < 13 → bit 16 (term_map_of k) ≡ false → term_least_of k ≡ 0
unfolding bit term_map_of term_maps term_least_of term_leasts
no-least k l e = eqb-true (term_least_of k) 0 (or-last (bit 16 (term_map_of k)) (eqb (term_least_of k) 0) (at none-least term_maps tt k l) e)

abbrev few-at-most : ℕ → ℕ → Bool
few-at-most i n = leb n 64

most-few : (k : ℕ) → k < 13 → term_most_of k ≤ 64
unfolding term_most_of term_mosts
most-few k l = leb→le (term_most_of k) 64 (at few-at-most term_mosts tt k l)

-- the length of the second list
second-few : (k n q : ℕ) (t : Bool) → n ≤ 64 → (t ≡ true → q ≤ second_most_of k n) → (t ≡ false → q ≡ 0) → q ≤ 64
unfolding second_most_of
second-few k n q false l h z = omega (arith, z refl)
second-few k n q true l h z = most (eqb k 9) (h refl)
  where
    most : (b : Bool) → q ≤ cond b (n - 1) 64 → q ≤ 64
    most true g = omega arith
    most false g = g

second-let : (n q : ℕ) → second_least_of 9 n ≤ q → q ≤ second_most_of 9 n → q ≡ n - 1
unfolding second_least_of second_most_of
second-let n q l h = omega arith

module _ (s : List ℕ) (bytes : Bytes s) (sorts t x m : ℕ) (kind : TermKind) (c2 : Cursor) (head : HeadWas s x m (term_number kind) c2) (mk : m ≡ term_map_of (term_number kind))
    (a : ℕ) (c3 : Cursor) (w : ℕ) (c4 : Cursor) (o : ℕ) (c5 : Cursor) (l n : ℕ) (c6 : Cursor) (ps p : ℕ) (c7 : Cursor) (z q : ℕ) (c8 : Cursor)
    (r3 : NumberWas s c2.at (given (bit 2 m) (u16_at s c2.at)) (given (bit 2 m) 2) a c3)
    (r4 : NumberWas s c3.at (given (bit 4 m) (u32_at s c3.at)) (given (bit 4 m) 4) w c4) (small : w ≤ term_number_of (term_number kind))
    (r5 : NumberWas s c4.at (given (bit 8 m) (u16_at s c4.at)) (given (bit 8 m) 2) o c5) (there : bit 8 m ≡ true → o < sorts)
    (r6 : ListWas s (bit 16 m) (term_least_of (term_number kind)) (term_most_of (term_number kind)) c5.at l n c6) (below : all_below t (numbers_at s l n) ≡ true)
    (r7 : PairsWere s (bit 32 m) sorts c6.at ps p c7)
    (r8 : ListWas s (bit 64 m) (second_least_of (term_number kind) n) (second_most_of (term_number kind) n) c7.at z q c8) (indexed : (eqb (term_number kind) 9 || all_below t (numbers_at s z q)) ≡ true) where
  known : (term_number kind) < 13
  known = known_by (term_number kind) (leb 13 (term_number kind)) refl (sym (ap (bit 1) mk) ∙ head.odd)

  on : (v : ℕ) {b : Bool} → bit v (term_map_of (term_number kind)) ≡ b → bit v m ≡ b
  on v e = ap (bit v) mk ∙ e

  in5 : c5.at ≤ length s
  in5 = r5.inside (r4.inside (r3.inside (omega (arith, head.next, head.inside))))

  in7 : c7.at ≤ length s
  in7 = r7.inside (r6.inside in5)

  most : n ≤ term_most_of (term_number kind)
  most = high-by (bit 16 m) n (term_most_of (term_number kind)) r6.most r6.empty

  few : n ≤ 64
  few = omega (arith, most, most-few (term_number kind) known)

  let-values : (term_number kind) ≡ 9 → q ≡ n - 1
  unfolding bit term_map_of term_maps
  let-values e =
      let b : bit 64 m ≡ true = on 64 (ap (λ (j : ℕ). bit 64 (term_map_of j)) e) in
      second-let n q (subst (λ (j : ℕ). second_least_of j n ≤ q) e (r8.least b)) (subst (λ (j : ℕ). q ≤ second_most_of j n) e (r8.most b))

  fields-were : TermWas s sorts t x
      (record { kind = kind; name = a; number = w; sort = o; list = record { at = l; count = n }; pairs = record { at = ps; count = p }; second = record { at = z; count = q } }) c8
  fields-were =
      record {
        known = known;
        map = sym head.map ∙ mk;
        tag = sym head.kind;
        name = omega (arith, r3.value, given-small (bit 2 m) (u16_at s c2.at) (u16-small s bytes c2.at));
        number = small;
        sort = λ e. there (on 8 e);
        least = low_by (bit 16 m) (term_least_of (term_number kind)) n r6.least (λ e. no-least (term_number kind) known (sym (ap (bit 16) mk) ∙ e));
        most = most;
        few = few;
        list = omega (arith, r6.ends, r6.inside in5);
        references = references-low s l n t below;
        paired = r7.few;
        pairs = omega (arith, r7.ends, in7);
        bindings = pairs_below s ps p sorts r7.below;
        seconds = second-few (term_number kind) n q (bit 64 m) few r8.most r8.empty;
        second = omega (arith, r8.ends, r8.inside in7);
        values = let-values;
        indices = λ d. references-low s z q t (or-other (eqb (term_number kind) 9) (all_below t (numbers_at s z q)) (ne_eqb (term_number kind) 9 d) indexed);
        no_name = λ e. r3.value ∙ ap (λ (b : Bool). given b (u16_at s c2.at)) (on 2 e);
        no_number = λ e. r4.value ∙ ap (λ (b : Bool). given b (u32_at s c3.at)) (on 4 e);
        no_sort = λ e. r5.value ∙ ap (λ (b : Bool). given b (u16_at s c4.at)) (on 8 e);
        no_list = λ e. r6.empty (on 16 e);
        no_pairs = λ e. r7.empty (on 32 e);
        no_second = λ e. r8.empty (on 64 e);
        after = omega (arith, head.next, r3.next, r4.next, r5.next, r6.after, r6.ends, r7.after, r7.ends, r8.after, r8.ends);
        list_ends = omega (arith, r6.ends, r7.after, r7.ends, r8.after, r8.ends);
        pairs_end = omega (arith, r7.ends, r8.after, r8.ends);
        second_ends = omega (arith, r8.ends);
        inside = r8.inside in7;
      }

---------------------------------------------------------------- the chain of the fields
-- THE FIELDS THAT WERE READ from x on, by the map m, each behind the one before it: r has them, and is of the kind k.
pub record FieldsWere (s : List ℕ) (sorts t m : ℕ) (k : TermKind) (x : ℕ) (r : TermRecord) (c : Cursor) : Type 0 where
  pub kind : k ≡ r.kind
  pub number_place : Cursor
  pub sort_place : Cursor
  pub list_place : Cursor
  pub pairs_place : Cursor
  pub second_place : Cursor
  pub name : NumberWas s x (given (bit 2 m) (u16_at s x)) (given (bit 2 m) 2) r.name number_place
  pub number : NumberWas s number_place.at (given (bit 4 m) (u32_at s number_place.at)) (given (bit 4 m) 4) r.number sort_place
  pub small : r.number ≤ term_number_of (term_number r.kind)
  pub sort : NumberWas s sort_place.at (given (bit 8 m) (u16_at s sort_place.at)) (given (bit 8 m) 2) r.sort list_place
  pub there : bit 8 m ≡ true → r.sort < sorts
  pub list : ListWas s (bit 16 m) (term_least_of (term_number r.kind)) (term_most_of (term_number r.kind)) list_place.at r.list.at r.list.count pairs_place
  pub below : all_below t (numbers_at s r.list.at r.list.count) ≡ true
  pub pairs : PairsWere s (bit 32 m) sorts pairs_place.at r.pairs.at r.pairs.count second_place
  pub second : ListWas s (bit 64 m) (second_least_of (term_number r.kind) r.list.count) (second_most_of (term_number r.kind) r.list.count) second_place.at r.second.at r.second.count c
  pub indexed : (eqb (term_number r.kind) 9 || all_below t (numbers_at s r.second.at r.second.count)) ≡ true

pub fields-read : (s : List ℕ) (sorts t m : ℕ) (k : TermKind) (x : ℕ) {r : TermRecord} {c : Cursor} → read_term_fields s m k sorts t x ≡ gave r c → FieldsWere s sorts t m k x r c
unfolding read_term_fields
fields-read s sorts t m k x {r} {c} h =
    by-read _ (read_name s m x) h
    (λ a c3 p3 h3.
    by-read _ (read_number s m (term_number_of (term_number k)) c3.at) h3
    (λ w c4 p4 h4.
    by-read _ (read_own s m sorts c4.at) h4
    (λ o c5 p5 h5.
    by-read _ (read_references s m (term_least_of (term_number k)) (term_most_of (term_number k)) t c5.at) h5
    (λ l c6 p6 h6.
    by-read _ (read_pairs s m sorts c6.at) h6
    (λ ps c7 p7 h7.
    by-read _ (read_second s m (term_number k) l.count t c7.at) h7
    (λ z c8 p8 h8.
    let r4 = number-was s m (term_number_of (term_number k)) c3.at p4 in
    let r5 = own-was s m sorts c4.at p5 in
    let r6 = references-were s m (term_least_of (term_number k)) (term_most_of (term_number k)) t c5.at p6 in
    let r8 = second-was s m (term_number k) l.count t c7.at p8 in
    subst (FieldsWere s sorts t m k x r) (read-cursor h8)
    (subst (λ (j : TermRecord). FieldsWere s sorts t m k x j c8) (read-value h8)
    (record {
      kind = refl;
      number_place = c3;
      sort_place = c4;
      list_place = c5;
      pairs_place = c6;
      second_place = c7;
      name = name-was s m x p3;
      number = r4.0;
      small = r4.1;
      sort = r5.0;
      there = r5.1;
      list = r6.0;
      below = r6.1;
      pairs = pairs-were s m sorts c6.at p7;
      second = r8.0;
      indexed = r8.1;
    }))))))))

-- EVERY ACCEPTED TERM RECORD is such a one
module _ (s : List ℕ) (bytes : Bytes s) (sorts t x : ℕ) (r : TermRecord) (c : Cursor) where
  fields-gave : (m : ℕ) (k : TermKind) (c2 : Cursor) → HeadWas s x m (term_number k) c2 → m ≡ term_map_of (term_number k)
      → FieldsWere s sorts t m k c2.at r c → TermWas s sorts t x r c
  fields-gave m k c2 head mk f =
      let n : term_number k ≡ term_number r.kind = ap term_number f.kind in
      fields-were s bytes sorts t x m r.kind c2 (subst (λ (j : ℕ). HeadWas s x m j c2) n head) (mk ∙ ap term_map_of n) r.name f.number_place r.number f.sort_place r.sort f.list_place
      r.list.at r.list.count f.pairs_place r.pairs.at r.pairs.count f.second_place r.second.at r.second.count c f.name f.number f.small f.sort f.there f.list f.below f.pairs f.second f.indexed

  pub term-was : read_term s sorts t x ≡ gave r c → TermWas s sorts t x r c
  unfolding read_term
  term-was h =
      by-read _ (read_head s x) h
      (λ d c2 p h1.
      by-kind _ (term_kind d.kind) h1
      (λ kind q h2.
      let is : d.kind ≡ term_number kind = term_kind-found d.kind kind q in
      by-need (eqb d.map (term_map_of (term_number kind))) h2 no-value
      (λ e h3.
      fields-gave d.map kind c2 (subst (λ (j : ℕ). HeadWas s x d.map j c2) is (head-was s x d c2 p)) (eqb-true d.map (term_map_of (term_number kind)) e) (fields-read s sorts t d.map kind c2.at h3))))
