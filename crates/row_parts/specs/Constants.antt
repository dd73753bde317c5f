-- Integer constants by the places of their records: what the bytes there say is what the reader read.
use Rattle.std.specs.Prelude.{ℕ, zero, suc, ◌+◌, ◌≤◌, ◌<◌, ◌≡◌, refl, Bool, List, [], ◌∷◌, length, get_or, eqb}
use Rattle.std.proofs.Math.Path.{sym, ap, subst}
use Rattle.std.proofs.Common.{ap₂, ◌∙◌, ⊎_elim, arith, not-suc-le-zero, eq-or-lt_of_le, le_of_suc-le-suc, eqb-true, eq-eqb, ne_eqb}
use Rattle.std.proofs.Math.Bool.{true, false, cond}
use Rattle.std.proofs.Math.Option.{Option, none, some}
use Rattle.record.specs.Kinds.{term_number, term_kind}
use Rattle.record.specs.KindLaws.{term_kind-found}
use Rattle.record.specs.Number.{u16_at, u32_at}
use Rattle.record.specs.Sort.{Sort}
use Rattle.record.specs.Record.{bit}
use Rattle.record.specs.Store.{given}
use Rattle.reader.specs.Tables.{term_maps, term_map_of}
use Rattle.reader.specs.declared.Cursor.{Cursor}
use Rattle.reader.specs.declared.TermRecord.{TermRecord}
use Rattle.reader.specs.Reader.{gave, read_head, read_term}
use Rattle.reader.specs.TermWas.{fields-read}
use Rattle.reader.specs.Was.{no-value, by-need, by-read, by-kind, NumberWas, HeadWas, head-was}
use Rattle.sheet.specs.Sheet.{TermFields, term_fields}
use Rattle.sheet.specs.Contract.{each_at, term_read_at, terms_at, TermStands}
use Rattle.sheet.specs.Stands.{each-length, term_is}
use Rattle.row_rules.specs.Term.{constant_in, constant_at, constants_at}
use Rattle.row_answer.specs.Arguments.{ConstantAsks, integer_at, constants_from}

-- The number of an integer constant stands behind its kind.
pub record IntegerWas (s : List ℕ) (x : ℕ) (r : TermRecord) : Type 0 where
  pub inside : x + 6 ≤ length s
  pub value : r.number ≡ u32_at s (x + 2)

module _ (s : List ℕ) (sorts t x : ℕ) (r : TermRecord) (c : Cursor) (integer : term_number r.kind ≡ 0) where
  -- A record of kind 0 has no name, and its number comes first.
  number-first : (m k a w : ℕ) (c2 c3 c4 : Cursor) → HeadWas s x m k c2 → m ≡ term_map_of k → k ≡ 0 → w ≡ r.number
      → NumberWas s c2.at (given (bit 2 m) (u16_at s c2.at)) (given (bit 2 m) 2) a c3
      → NumberWas s c3.at (given (bit 4 m) (u32_at s c3.at)) (given (bit 4 m) 4) w c4 → IntegerWas s x r
  unfolding bit term_map_of term_maps
  number-first m k a w c2 c3 c4 head mk ek ew r3 r4 =
      let em : m ≡ 5 = mk ∙ ap term_map_of ek in
      let b2 : bit 2 m ≡ false = ap (bit 2) em in
      let b4 : bit 4 m ≡ true = ap (bit 4) em in
      let n3 : c3.at ≡ c2.at + 0 = r3.next ∙ ap (λ (b : Bool). c2.at + given b 2) b2 in
      let n4 : c4.at ≡ c3.at + 4 = r4.next ∙ ap (λ (b : Bool). c3.at + given b 4) b4 in
      let e3 : c3.at ≡ x + 2 = omega (arith, n3, head.next) in
      record {
        inside = omega (arith, e3, n4, r4.inside (omega (arith, e3, head.inside)));
        value = sym ew ∙ r4.value ∙ ap (λ (b : Bool). given b (u32_at s c3.at)) b4 ∙ ap (u32_at s) e3;
      }

  -- Every record of kind 0 that was read is such a one.
  pub integer-was : read_term s sorts t x ≡ gave r c → IntegerWas s x r
  unfolding read_term
  integer-was h =
      by-read _ (read_head s x) h
      (λ d c2 p h1.
      by-kind _ (term_kind d.kind) h1
      (λ kind q h2.
      let is : d.kind ≡ term_number kind = term_kind-found d.kind kind q in
      by-need (eqb d.map (term_map_of (term_number kind))) h2 no-value
      (λ e h3.
      let f = fields-read s sorts t d.map kind c2.at h3 in
      number-first d.map (term_number kind) r.name r.number c2 f.number_place f.sort_place (subst (λ (j : ℕ). HeadWas s x d.map j c2) is (head-was s x d c2 p))
      (eqb-true d.map (term_map_of (term_number kind)) e) (ap term_number f.kind ∙ integer) refl f.name f.number)))

some_same : (b : Bool) (v w : ℕ) → (b ≡ true → v ≡ w) → cond b (some v) none ≡ cond b (some w) none
some_same true v w h = ap some (h refl)
some_same false v w h = refl

module _ (s : List ℕ) (m t x : ℕ) (o : TermStands s m t x) where
  -- A record that stands can be asked for its constant.
  pub constant-asks : ConstantAsks s x
  constant-asks =
      record {
        head = omega (arith, o.was.after, o.was.inside);
        number = λ e. (integer-was s m t x o.fields o.next (sym o.was.tag ∙ e) o.read).inside;
      }

  -- The constant by its place is that of the record.
  pub constant_by : (ts : List Sort) → length ts ≡ m → constant_in (term_read_at s ts t x) ≡ integer_at s x
  unfolding term_fields
  constant_by ts e =
      ap constant_in (term_is s m t x o o.fields o.next o.read ts e)
      ∙ some_same (eqb (term_number o.fields.kind) 0) o.fields.number (u32_at s (x + 2))
      (λ k. (integer-was s m t x o.fields o.next (eqb-true (term_number o.fields.kind) 0 k) o.read).value)
      ∙ ap (λ (k : ℕ). cond (eqb k 0) (some (u32_at s (x + 2))) none) (sym o.was.tag)

-- The record with the number i among the first n.
each-constant : (f : ℕ → ℕ → TermFields) (xs : List ℕ) (n i : ℕ) → i < n → constant_at (each_at f xs n) i ≡ constant_in (f i (get_or xs i 0))
unfolding constant_at each_at
each-constant f xs zero i l = absurd (not-suc-le-zero l)
each-constant f xs (suc n) i l =
    ⊎_elim
    (λ (e : i ≡ n).
    ap (λ (b : Bool). cond b (constant_in (f n (get_or xs n 0))) (constant_at (each_at f xs n) i)) (eq-eqb i (length (each_at f xs n)) (e ∙ sym (each-length f xs n)))
    ∙ ap (λ (k : ℕ). constant_in (f k (get_or xs k 0))) (sym e))
    (λ (h : i < n).
    ap (λ (b : Bool). cond b (constant_in (f n (get_or xs n 0))) (constant_at (each_at f xs n) i)) (ne_eqb i (length (each_at f xs n)) (λ e. absurd (omega (arith, each-length f xs n))))
    ∙ each-constant f xs n i h)
    (eq-or-lt_of_le (le_of_suc-le-suc l))

-- THE CONSTANTS AMONG THE TERMS is, all before the term t, by their places.
pub constants-by : (s : List ℕ) (m : ℕ) (xs : List ℕ) (t : ℕ) → ((i : ℕ) → i < t → TermStands s m i (get_or xs i 0)) → (ts : List Sort) → length ts ≡ m
    → (is : List ℕ) → ((j : ℕ) → j < length is → get_or is j 0 < t) → constants_from s xs is ≡ constants_at (terms_at s ts xs t) is
unfolding constants_from constants_at
constants-by s m xs t stands ts e [] h = refl
constants-by s m xs t stands ts e (i ∷ is) h =
    let l : i < t = h 0 (omega arith) in
    ap₂ (λ (o : Option ℕ) (os : List (Option ℕ)). o ∷ os)
    (sym (each-constant (term_read_at s ts) xs t i l ∙ constant_by s m i (get_or xs i 0) (stands i l) ts e))
    (constants-by s m xs t stands ts e is (λ j k. h (suc j) (omega arith)))
