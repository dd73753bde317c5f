-- A term record that was read lies where the second reading looks for it: each field behind the one before it, and all of them in
-- the slice.
use Rattle.std.specs.Prelude.{◌≡◌, ℕ, ◌+◌, ◌*◌, ◌≤◌, ◌<◌, Bool, true, false, List, length, get_or, eqb, Some}
use Rattle.std.proofs.Common.{sym, ap, ap₂, refl, ◌∙◌, arith}
use Rattle.std.proofs.Math.Path.{subst}
use Rattle.std.proofs.lemmas.Option.{slice_get_within}
use Rattle.record.specs.Number.{u16_at, u32_at}
use Rattle.record.specs.Record.{bit}
use Rattle.record.specs.Store.{given}
use Rattle.record.specs.Kinds.{term_number, term_kinds, term_kind}
use Rattle.record.specs.KindLaws.{term_kind-found}
use Rattle.record.specs.declared.kinds.TermKind.{TermKind}
use Rattle.record.specs.declared.kinds.TermKind.TheVariants.{Integer, Real, String, RegLan, BitVector, Var, App, Op, Binder, Let, Match, ParamOp, AsOp}
use Rattle.record.specs.declared.span.Span.{Span}
use Rattle.reader.specs.declared.Cursor.{Cursor}
use Rattle.reader.specs.declared.TermRecord.{TermRecord}
use Rattle.reader.specs.Tables.{term_map_of}
use Rattle.reader.specs.Reader.{gave, span, read_head, read_term}
use Rattle.reader.specs.TermWas.{FieldsWere, fields-read}
use Rattle.reader.specs.Was.{PairsWere, no-value, by-need, by-read, by-kind, NumberWas, HeadWas, head-was, ListWas}
use Rattle.reader.specs.Again.{ReadBefore}

---------------------------------------------------------------- the kind
kind-number : (k : TermKind) → term_kind (term_number k) ≡ Some k
kind-number Integer = refl
kind-number Real = refl
kind-number String = refl
kind-number RegLan = refl
kind-number BitVector = refl
kind-number Var = refl
kind-number App = refl
kind-number Op = refl
kind-number Binder = refl
kind-number Let = refl
kind-number Match = refl
kind-number ParamOp = refl
kind-number AsOp = refl

-- Two kinds with the same number are one.
kind-same : (j k : TermKind) → term_number j ≡ term_number k → j ≡ k
kind-same j k e = let h = sym (kind-number j) ∙ ap term_kind e ∙ kind-number k in cc

---------------------------------------------------------------- lists and pairs
-- A list that was read at x, with entries of w bytes, where its bit t stands; else none, at x.
pub record SpanWas (s : List ℕ) (t : Bool) (w x : ℕ) (l : Span) (c : Cursor) : Type 0 where
  pub start : l.at ≡ x + given t 1
  pub count : l.count ≡ given t (get_or s x 0)
  pub next : c.at ≡ l.at + w * l.count
  pub inside : x ≤ length s → c.at ≤ length s

list-span : {s : List ℕ} {low high x : ℕ} {l : Span} {c : Cursor} (t : Bool) → ListWas s t low high x l.at l.count c → SpanWas s t 2 x l c
list-span true h =
    record {
      start = h.start refl;
      count = omega (arith, h.start refl, h.next, h.ends);
      next = sym h.ends;
      inside = h.inside;
    }
list-span false h =
    record {
      start = omega (arith, h.empty refl, h.next, h.ends);
      count = h.empty refl;
      next = sym h.ends;
      inside = h.inside;
    }

pairs-span : {s : List ℕ} {sorts x : ℕ} {l : Span} {c : Cursor} {t : Bool} → PairsWere s t sorts x l.at l.count c → SpanWas s t 4 x l c
pairs-span h = record { start = h.start; count = h.count; next = sym h.ends; inside = h.inside }

---------------------------------------------------------------- the record
-- The fields of r lie one behind the other from x on, by the map m.
pub record Lies (s : List ℕ) (x m : ℕ) (r : TermRecord) : Type 0 where
  pub map : m ≡ get_or s x 0
  pub kind : term_kind (get_or s (x + 1) 0) ≡ Some r.kind
  pub head : x + 2 ≤ length s
  pub second_place : Cursor
  pub third_place : Cursor
  pub list_place : Cursor
  pub pairs_place : Cursor
  pub last_place : Cursor
  pub end : Cursor
  pub name : NumberWas s (x + 2) (given (bit 2 m) (u16_at s (x + 2))) (given (bit 2 m) 2) r.name second_place
  pub number : NumberWas s second_place.at (given (bit 4 m) (u32_at s second_place.at)) (given (bit 4 m) 4) r.number third_place
  pub sort : NumberWas s third_place.at (given (bit 8 m) (u16_at s third_place.at)) (given (bit 8 m) 2) r.sort list_place
  pub list : SpanWas s (bit 16 m) 2 list_place.at r.list pairs_place
  pub pairs : SpanWas s (bit 32 m) 4 pairs_place.at r.pairs last_place
  pub second : SpanWas s (bit 64 m) 2 last_place.at r.second end

module _ (s : List ℕ) (sorts t x : ℕ) (r : TermRecord) (c : Cursor) where
  fields-lie : (m : ℕ) (k : TermKind) (c2 : Cursor) → HeadWas s x m (term_number k) c2 → term_kind (get_or s (x + 1) 0) ≡ Some k
      → FieldsWere s sorts t m k c2.at r c → Lies s x m r
  fields-lie m k c2 head kind f =
      record {
        map = head.map;
        kind = kind ∙ ap Some f.kind;
        head = head.inside;
        second_place = f.number_place;
        third_place = f.sort_place;
        list_place = f.list_place;
        pairs_place = f.pairs_place;
        last_place = f.second_place;
        end = c;
        name = subst (λ (i : ℕ). NumberWas s i (given (bit 2 m) (u16_at s i)) (given (bit 2 m) 2) r.name f.number_place) head.next f.name;
        number = f.number;
        sort = f.sort;
        list = list-span (bit 16 m) f.list;
        pairs = pairs-span f.pairs;
        second = list-span (bit 64 m) f.second;
      }

  -- A TERM RECORD THAT WAS READ lies at its place.
  pub term-lies : read_term s sorts t x ≡ gave r c → Lies s x (get_or s x 0) r
  unfolding read_term
  term-lies h =
      by-read _ (read_head s x) h
      (λ d c2 p h1.
      by-kind _ (term_kind d.kind) h1
      (λ k q h2.
      by-need (eqb d.map (term_map_of (term_number k))) h2 no-value
      (λ e h3.
      let was = head-was s x d c2 p in
      let is : d.kind ≡ term_number k = term_kind-found d.kind k q in
      subst (λ (i : ℕ). Lies s x i r) was.map
      (fields-lie d.map k c2 (subst (λ (j : ℕ). HeadWas s x d.map j c2) is was) (sym (ap term_kind was.kind) ∙ q) (fields-read s sorts t d.map k c2.at h3)))))

pub before-lies : {s : List ℕ} {x : ℕ} (a : ReadBefore s x) → Lies s x (get_or s x 0) a.fields
before-lies {s} {x} a = term-lies s a.sorts a.t x a.fields a.next a.read

---------------------------------------------------------------- the second reading
-- The fields as the second reading takes them: n, o, p, q and e are the places behind the name, the number, the sort, the list and the pairs.
module _ {s : List ℕ} {x : ℕ} {r : TermRecord} (h : Lies s x (get_or s x 0) r) where
  abbrev m : ℕ
  m = get_or s x 0

  pub head-room : x + 2 ≤ length s
  head-room = h.head

  pub kind-known : get_or s (x + 1) 0 < 13
  kind-known = slice_get_within term_kinds (get_or s (x + 1) 0) r.kind h.kind

  pub name-room : x + 2 + given (bit 2 m) 2 ≤ length s
  name-room = omega (arith, h.name.next, h.name.inside h.head)

  module _ {n : ℕ} (en : n ≡ x + 2 + given (bit 2 m) 2) where
    second-here : n ≡ h.second_place.at
    second-here = omega (arith, h.name.next)

    in-second : h.second_place.at ≤ length s
    in-second = h.name.inside h.head

    pub number-room : n + given (bit 4 m) 4 ≤ length s
    number-room = omega (arith, second-here, h.number.next, h.number.inside in-second)

    module _ {o : ℕ} (eo : o ≡ n + given (bit 4 m) 4) where
      third-here : o ≡ h.third_place.at
      third-here = omega (arith, second-here, h.number.next)

      in-third : h.third_place.at ≤ length s
      in-third = h.number.inside in-second

      pub sort-room : o + given (bit 8 m) 2 ≤ length s
      sort-room = omega (arith, third-here, h.sort.next, h.sort.inside in-third)

      module _ {p : ℕ} (ep : p ≡ o + given (bit 8 m) 2) where
        list-here : p ≡ h.list_place.at
        list-here = omega (arith, third-here, h.sort.next)

        in-list : h.list_place.at ≤ length s
        in-list = h.sort.inside in-third

        pub list-room : p + given (bit 16 m) 1 ≤ length s
        list-room = omega (arith, list-here, h.list.start, h.list.next, h.list.inside in-list)

        module _ {l : Span} (la : l.at ≡ p + given (bit 16 m) 1) (lc : l.count ≡ given (bit 16 m) (get_or s p 0)) where
          list-at : l.at ≡ r.list.at
          list-at = omega (arith, list-here, h.list.start)

          list-count : l.count ≡ r.list.count
          list-count = lc ∙ ap (λ (i : ℕ). given (bit 16 m) (get_or s i 0)) list-here ∙ sym h.list.count

          pairs-here : l.at + 2 * l.count ≡ h.pairs_place.at
          pairs-here = omega (arith, list-at, list-count, h.list.next)

          in-pairs : h.pairs_place.at ≤ length s
          in-pairs = h.list.inside in-list

          pub pairs-room : l.at + 2 * l.count + given (bit 32 m) 1 ≤ length s
          pairs-room = omega (arith, pairs-here, h.pairs.start, h.pairs.next, h.pairs.inside in-pairs)

          module _ {ps : Span} (pa : ps.at ≡ l.at + 2 * l.count + given (bit 32 m) 1) (pc : ps.count ≡ given (bit 32 m) (get_or s (l.at + 2 * l.count) 0)) where
            pairs-at : ps.at ≡ r.pairs.at
            pairs-at = omega (arith, pairs-here, h.pairs.start)

            pairs-count : ps.count ≡ r.pairs.count
            pairs-count = pc ∙ ap (λ (i : ℕ). given (bit 32 m) (get_or s i 0)) pairs-here ∙ sym h.pairs.count

            last-here : ps.at + 4 * ps.count ≡ h.last_place.at
            last-here = omega (arith, pairs-at, pairs-count, h.pairs.next)

            pub last-room : ps.at + 4 * ps.count + given (bit 64 m) 1 ≤ length s
            last-room = omega (arith, last-here, h.second.start, h.second.next, h.second.inside (h.pairs.inside in-pairs))

            pub same-record : {k : TermKind} {name number sort : ℕ} {z : Span} → term_number k ≡ get_or s (x + 1) 0
                → name ≡ given (bit 2 m) (u16_at s (x + 2)) → number ≡ given (bit 4 m) (u32_at s n) → sort ≡ given (bit 8 m) (u16_at s o)
                → z.at ≡ ps.at + 4 * ps.count + given (bit 64 m) 1 → z.count ≡ given (bit 64 m) (get_or s (ps.at + 4 * ps.count) 0)
                → record { kind = k; name = name; number = number; sort = sort; list = l; pairs = ps; second = z } ≡ r
            same-record {k} {name} {number} {sort} {z} ek ea ew es za zc =
                let kind-is : k ≡ r.kind = kind-same k r.kind (ek ∙ term_kind-found (get_or s (x + 1) 0) r.kind h.kind) in
                let name-is : name ≡ r.name = ea ∙ sym h.name.value in
                let number-is : number ≡ r.number = ew ∙ ap (λ (i : ℕ). given (bit 4 m) (u32_at s i)) second-here ∙ sym h.number.value in
                let sort-is : sort ≡ r.sort = es ∙ ap (λ (i : ℕ). given (bit 8 m) (u16_at s i)) third-here ∙ sym h.sort.value in
                let list-is : l ≡ r.list = ap₂ span list-at list-count in
                let pairs-is : ps ≡ r.pairs = ap₂ span pairs-at pairs-count in
                let last-at : z.at ≡ r.second.at = omega (arith, last-here, h.second.start) in
                let last-count : z.count ≡ r.second.count = zc ∙ ap (λ (i : ℕ). given (bit 64 m) (get_or s i 0)) last-here ∙ sym h.second.count in
                let last-is : z ≡ r.second = ap₂ span last-at last-count in
                rw (kind-is, name-is, number-is, sort-is, list-is, pairs-is, last-is)
