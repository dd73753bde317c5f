-- Laws of a record put together from left to right: its lists, its map, and the whole.
use Prim.Native.Nat.{ℕ, ◌+◌, ◌*◌, ◌/◌, ◌%◌, ◌≤◌, ◌<◌}
use mathlib.Core.Path.{◌≡◌, refl, sym, ap, ◌∙◌}
use mathlib.Core.Bool.{Bool, true, false}
use mathlib.Core.List.{List, [], ◌∷◌, ◌++◌, append_assoc, append-nil}
use native.Mathlib.Omega.{arith}
use native.Mathlib.Numerals.{add-one}
use lib.ListN.{length, get_or, take, length-append}
use lib.Seq.{take-suc, take-length}
use lib.Dec.{ltb, ltb→lt}
use Rattle.std.specs.Bool.{then_some}
use Rattle.std.proofs.Common.{Option, MatchOption}
use Rattle.record.specs.Number.{u16_bytes, u32_bytes, numbers_bytes}
use Rattle.record.specs.Record.{Fields, maps, map_of, bit, name_bytes, number_bytes, list_bytes, record_bytes}
use Rattle.record.specs.Table.{at}
use Rattle.record.specs.Codec.{length-numbers}

-- The numbers of a list so far, behind what was there.
pub record ListInv (l first out : List ℕ) (j : ℕ) : Type 0 where
  pub room : length out ≡ length first + 2 * j
  pub is : out ≡ first ++ numbers_bytes (take j l)

pub list-start : (l first : List ℕ) → ListInv l first first 0
unfolding numbers_bytes
list-start l first = record { room = omega arith; is = sym (append-nil first) }

numbers-append : (vs : List ℕ) (v : ℕ) → numbers_bytes (vs ++ (v ∷ [])) ≡ numbers_bytes vs ++ u16_bytes v
unfolding numbers_bytes
numbers-append [] v = refl
numbers-append (w ∷ vs) v = ap (λ (r : List ℕ). w % 256 ∷ w / 256 ∷ r) (numbers-append vs v)

numbers-step : (l : List ℕ) (j : ℕ) → j < length l → numbers_bytes (take j l) ++ u16_bytes (get_or l j 0) ≡ numbers_bytes (take (j + 1) l)
numbers-step l j h =
    sym (ap (λ (i : ℕ). numbers_bytes (take i l)) (add-one j) ∙ ap numbers_bytes (take-suc l j 0 h) ∙ numbers-append (take j l) (get_or l j 0))

pub list-more : {l first out : List ℕ} {j : ℕ} → ListInv l first out j → j < length l → {v : ℕ} → v ≡ get_or l j 0 → {next : List ℕ} → next ≡ out ++ u16_bytes v
    → ListInv l first next (j + 1)
list-more {l} {first} {out} {j} i h {v} q {next} e =
    record {
      room = omega (arith, ap length e, length-append out (u16_bytes v), i.room);
      is =
          e ∙ ap (λ (w : ℕ). out ++ u16_bytes w) q ∙ ap (λ (s : List ℕ). s ++ u16_bytes (get_or l j 0)) i.is
          ∙ append_assoc first (numbers_bytes (take j l)) (u16_bytes (get_or l j 0))
          ∙ ap (λ (s : List ℕ). first ++ s) (numbers-step l j h);
    }

pub list-end : {l first out : List ℕ} (start : List ℕ) {j : ℕ} → ListInv l first out j → j ≡ length l → first ≡ start ++ (length l ∷ [])
    → out ≡ start ++ list_bytes true l
list-end {l} {first} {out} start {j} i e f =
    i.is ∙ ap (λ (k : ℕ). first ++ numbers_bytes (take k l)) e
    ∙ ap (λ (vs : List ℕ). first ++ numbers_bytes vs) (take-length l)
    ∙ ap (λ (s : List ℕ). s ++ numbers_bytes l) f
    ∙ append_assoc start (length l ∷ []) (numbers_bytes l)

-- A field that is there only where its bit stands has the bytes that the bit gives it.
pub field-bytes : {A : Type 0} (bytes : Bool → A → List ℕ) (t : Bool) (x : A) (s : List ℕ) {u : Bool} {r : List ℕ} {o : Option A} → u ≡ t → o ≡ then_some u x → bytes false x ≡ []
    → MatchOption o (r ≡ s) (λ y. r ≡ s ++ bytes true y) → r ≡ s ++ bytes t x
field-bytes bytes true x s q e z h = rw (e, q) at h
field-bytes bytes false x s {r = r} q e z h = let same : r ≡ s = rw (e, q) at h in same ∙ sym (ap (λ (b : List ℕ). s ++ b) z ∙ append-nil s)

-- Every map is a byte.
abbrev small-map : ℕ → ℕ → Bool
small-map i m = ltb m 256

pub map-small : (k : ℕ) → k < 16 → map_of k < 256
unfolding map_of maps
map-small k l = ltb→lt (map_of k) 256 (at small-map maps tt k l)

-- How long a record is at most behind each field.
pub byte-room : (s : List ℕ) {r : List ℕ} (v : ℕ) → r ≡ s ++ (v ∷ []) → length r ≡ length s + 1
byte-room s {r} v e = ap length e ∙ length-append s (v ∷ [])

pub name-room : (s : List ℕ) {r : List ℕ} (t : Bool) (v : ℕ) → r ≡ s ++ name_bytes t v → length r ≤ length s + 2
name-room s {r} true v e = omega (arith, ap length e, length-append s (u16_bytes v))
name-room s {r} false v e = omega (arith, ap length e, length-append {A = ℕ} s [])

pub width-room : (s : List ℕ) {r : List ℕ} (t : Bool) (v : ℕ) → r ≡ s ++ number_bytes t v → length r ≤ length s + 4
width-room s {r} true v e = omega (arith, ap length e, length-append s (u32_bytes v))
width-room s {r} false v e = omega (arith, ap length e, length-append {A = ℕ} s [])

pub list-room : (s : List ℕ) {r : List ℕ} (t : Bool) (vs : List ℕ) → r ≡ s ++ list_bytes t vs → length vs ≤ 64 → length r ≤ length s + 129
list-room s {r} true vs e h = omega (arith, ap length e, length-append s (length vs ∷ numbers_bytes vs), length-numbers vs)
list-room s {r} false vs e h = omega (arith, ap length e, length-append {A = ℕ} s [])

-- THE WHOLE RECORD: the six steps, one behind the other.
pub whole : (f : Fields) {m : ℕ} → m ≡ map_of f.kind → {s s1 s2 s3 s4 s5 s6 : List ℕ} → s ≡ [] → s1 ≡ s ++ (m ∷ []) → s2 ≡ s1 ++ (f.kind ∷ [])
    → s3 ≡ s2 ++ name_bytes (bit 2 m) f.name → s4 ≡ s3 ++ number_bytes (bit 4 m) f.number
    → s5 ≡ s4 ++ list_bytes (bit 16 m) f.list → s6 ≡ s5 ++ list_bytes (bit 64 m) f.names
    → s6 ≡ record_bytes f
unfolding record_bytes
whole f {m} e {s} {s1} {s2} {s3} {s4} {s5} {s6} z p1 p2 p3 p4 p5 p6 =
    let n2 = name_bytes (bit 2 m) f.name in
    let n4 = number_bytes (bit 4 m) f.number in
    let n16 = list_bytes (bit 16 m) f.list in
    let n64 = list_bytes (bit 64 m) f.names in
    let e1 : s1 ≡ m ∷ [] = p1 ∙ ap (λ (r : List ℕ). r ++ (m ∷ [])) z in
    let e2 : s2 ≡ m ∷ f.kind ∷ [] = p2 ∙ ap (λ (r : List ℕ). r ++ (f.kind ∷ [])) e1 in
    let e3 : s3 ≡ m ∷ f.kind ∷ n2 = p3 ∙ ap (λ (r : List ℕ). r ++ n2) e2 in
    let e4 : s4 ≡ m ∷ f.kind ∷ (n2 ++ n4) = p4 ∙ ap (λ (r : List ℕ). r ++ n4) e3 in
    let e5 : s5 ≡ m ∷ f.kind ∷ (n2 ++ n4 ++ n16) = p5 ∙ ap (λ (r : List ℕ). r ++ n16) e4 in
    let e6 : s6 ≡ m ∷ f.kind ∷ (n2 ++ n4 ++ n16 ++ n64) = p6 ∙ ap (λ (r : List ℕ). r ++ n64) e5 in
    let g : n2 ++ n4 ++ n16 ++ n64 ≡ n2 ++ (n4 ++ (n16 ++ n64)) = append_assoc (n2 ++ n4) n16 n64 ∙ append_assoc n2 n4 (n16 ++ n64) in
    e6 ∙ ap (λ (r : List ℕ). m ∷ f.kind ∷ r) g
    ∙ ap (λ (i : ℕ). i ∷ f.kind ∷ (name_bytes (bit 2 i) f.name ++ (number_bytes (bit 4 i) f.number ++ (list_bytes (bit 16 i) f.list ++ list_bytes (bit 64 i) f.names)))) e
