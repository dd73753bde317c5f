-- What a field that was read tells: its value, where it stands, and where the next one starts.
use Rattle.std.specs.Prelude.{ℕ, zero, suc, ◌+◌, ◌*◌, ◌≤◌, ◌<◌, ◌≡◌, refl, Bool, true, false, cond, ◌||◌, List, [], ◌∷◌, length, get_or, leb, ltb, eqb, T, Option, Some, None, Result, Ok, Err}
use Rattle.std.proofs.Common.{sym, ap, ap₂, ◌∙◌, arith, not-suc-le-zero, leb-true, ltb-true}
use mathlib.Core.Bool.{or-true}
use Rattle.record.specs.Number.{u16_at, u32_at, numbers_at}
use Rattle.record.specs.Names.{distinct}
use Rattle.record.specs.Record.{bit}
use Rattle.record.specs.Store.{given}
use Rattle.record.specs.Decode.{list_of, list_width}
use Rattle.record.specs.Codec.{Bytes, length-numbers_at, number_at}
use Rattle.record.specs.Cases.{and_left, and_right}
use Rattle.record.specs.declared.span.Span.{Span}
use Rattle.reader.specs.Tables.{second_least_of, second_most_of}
use Rattle.reader.specs.declared.Refusal.{Refusal}
use Rattle.reader.specs.declared.Refusal.TheVariants.{PastEnd, Value, Reference}
use Rattle.reader.specs.declared.Cursor.{Cursor}
use Rattle.reader.specs.declared.Head.{Head}
use Rattle.reader.specs.Reader.{Read, demand, then_read, of_kind, gave, got, span, all_below, pair_sorts_at, read_byte, read_u16, read_u32, read_head, read_name, read_number, read_own, read_list, read_references, read_names, read_second, read_pairs, read_size}

-- A refusal is no value.
pub no-value : {V B : Type 0} {e : Refusal} {v : V} → ◌≡◌ {A = Result V Refusal} (Err e) (Ok v) → B
no-value h = let z : ◌≡◌ {A = ℕ} 0 1 = cc in absurd (omega arith)

-- A CHAIN TAKEN APART: the answer v of a test comes from its refusal or from what goes on, and each way gives B.
pub by-need : {A B : Type 0} {v fail go : A} (t : Bool) → demand t fail go ≡ v → (fail ≡ v → B) → (t ≡ true → go ≡ v → B) → B
by-need true h f g = g refl h
by-need false h f g = f h

-- The value v at the end of a chain comes from what each of its steps goes on to.
module _ {V B : Type 0} {v : V} where
  pub by-read : {A : Type 0} (go : A → ℕ → Result V Refusal) (o : Read A) → then_read o go ≡ Ok v
      → ((a : A) (c : Cursor) → o ≡ gave a c → go a c.at ≡ Ok v → B) → B
  by-read go (Ok r) h g = g r.0 r.1 refl h
  by-read go (Err e) h g = no-value h

  pub by-kind : {K : Type 0} (go : K → Result V Refusal) (o : Option K) → of_kind o go ≡ Ok v
      → ((k : K) → o ≡ Some k → go k ≡ Ok v → B) → B
  by-kind go (Some k) h g = g k refl h
  by-kind go None h g = no-value h

pub false-true : {B : Type 0} → false ≡ true → B
false-true e = let z : ◌≡◌ {A = ℕ} 0 1 = cc in absurd (omega arith)

-- the parts of what was read
module _ {A : Type 0} {a b : A} {c d : Cursor} (h : gave a c ≡ gave b d) where
  pairs-same : ◌≡◌ {A = A × Cursor} (a, c) (b, d)
  pairs-same = cc

  pub read-value : a ≡ b
  read-value = ap (λ (r : A × Cursor). r.0) pairs-same

  pub read-cursor : c ≡ d
  read-cursor = ap (λ (r : A × Cursor). r.1) pairs-same

  pub read-next : c.at ≡ d.at
  read-next = ap (λ (k : Cursor). k.at) read-cursor

-- A NUMBER THAT WAS READ: the value v at x, of w bytes
pub record NumberWas (s : List ℕ) (x v w a : ℕ) (c : Cursor) : Type 0 where
  pub value : a ≡ v
  pub next : c.at ≡ x + w
  pub inside : x ≤ length s → c.at ≤ length s

need-number : (s : List ℕ) (x v w : ℕ) {a : ℕ} {c : Cursor} → demand (leb (x + w) (length s)) (Err PastEnd) (got v (x + w)) ≡ gave a c → NumberWas s x v w a c
need-number s x v w {a} {c} r =
    by-need (leb (x + w) (length s)) r no-value
    (λ e q. record { value = sym (read-value q); next = sym (read-next q); inside = λ h. omega (arith, read-next q, leb-true (x + w) (length s) e) })

none-was : (s : List ℕ) (x : ℕ) {a : ℕ} {c : Cursor} → got 0 x ≡ gave a c → NumberWas s x 0 0 a c
none-was s x r = record { value = sym (read-value r); next = omega (arith, read-next r); inside = λ h. omega (arith, read-next r) }

module _ (s : List ℕ) (x : ℕ) {a : ℕ} {c : Cursor} where
  pub byte-was : read_byte s x ≡ gave a c → NumberWas s x (get_or s x 0) 1 a c
  unfolding read_byte
  byte-was r = need-number s x (get_or s x 0) 1 r

  pub u16-was : read_u16 s x ≡ gave a c → NumberWas s x (u16_at s x) 2 a c
  unfolding read_u16
  u16-was r = need-number s x (u16_at s x) 2 r

  pub u32-was : read_u32 s x ≡ gave a c → NumberWas s x (u32_at s x) 4 a c
  unfolding read_u32
  u32-was r = need-number s x (u32_at s x) 4 r

-- a byte that was read stands in the slice
pub byte_inside : (s : List ℕ) (x : ℕ) {a : ℕ} {c : Cursor} → read_byte s x ≡ gave a c → c.at ≤ length s
unfolding read_byte
byte_inside s x r = by-need (leb (x + 1) (length s)) r no-value (λ e q. omega (arith, read-next q, leb-true (x + 1) (length s) e))

-- THE BIT MAP AND THE KIND
pub record HeadWas (s : List ℕ) (x m k : ℕ) (c : Cursor) : Type 0 where
  pub map : m ≡ get_or s x 0
  pub kind : k ≡ get_or s (x + 1) 0
  pub odd : bit 1 m ≡ true
  pub next : c.at ≡ x + 2
  pub inside : x + 2 ≤ length s

head_read : (s : List ℕ) (x m k : ℕ) (c1 c2 c : Cursor) → read_byte s x ≡ gave m c1 → read_byte s c1.at ≡ gave k c2 → bit 1 m ≡ true → c2.at ≡ c.at → HeadWas s x m k c
head_read s x m k c1 c2 c p q odd e =
    let v = byte-was s x p in
    let w = byte-was s c1.at q in
    record {
      map = v.value;
      kind = w.value ∙ ap (λ (i : ℕ). get_or s i 0) v.next;
      odd = odd;
      next = omega (arith, v.next, w.next, e);
      inside = omega (arith, v.next, w.next, byte_inside s c1.at q);
    }

pub head-was : (s : List ℕ) (x : ℕ) (h : Head) (c : Cursor) → read_head s x ≡ gave h c → HeadWas s x h.map h.kind c
unfolding read_head
head-was s x h c r =
    by-read _ (read_byte s x) r
    (λ m c1 p r1.
    by-need (bit 1 m) r1 no-value
    (λ odd r2.
    by-read _ (read_byte s c1.at) r2
    (λ k c2 q r3.
    let em : m ≡ h.map = ap (λ (i : Head). i.map) (read-value r3) in
    let ek : k ≡ h.kind = ap (λ (i : Head). i.kind) (read-value r3) in
    head_read s x h.map h.kind c1 c2 c (rw em at p) (rw ek at q) (rw em at odd) (read-next r3))))

-- THE NAME, THE NUMBER AND THE RECORD'S OWN SORT, by the bit of the map
name_by : (s : List ℕ) (x : ℕ) {a : ℕ} {c : Cursor} (t : Bool) → cond t (read_u16 s x) (got 0 x) ≡ gave a c → NumberWas s x (given t (u16_at s x)) (given t 2) a c
name_by s x true r = u16-was s x r
name_by s x false r = none-was s x r

pub name-was : (s : List ℕ) (m x : ℕ) {a : ℕ} {c : Cursor} → read_name s m x ≡ gave a c → NumberWas s x (given (bit 2 m) (u16_at s x)) (given (bit 2 m) 2) a c
unfolding read_name
name-was s m x r = name_by s x (bit 2 m) r

-- a number that passed its test
passed : {s : List ℕ} {x v w a b : ℕ} {c d : Cursor} → NumberWas s x v w b d → gave b d ≡ gave a c → NumberWas s x v w a c
passed r e = record { value = sym (read-value e) ∙ r.value; next = sym (read-next e) ∙ r.next; inside = λ h. omega (arith, read-next e, r.inside h) }

number_by : (s : List ℕ) (most x : ℕ) {a : ℕ} {c : Cursor} (t : Bool)
    → cond t (then_read (read_u32 s x) (λ v y. demand (leb v most) (Err Value) (got v y))) (got 0 x) ≡ gave a c
    → NumberWas s x (given t (u32_at s x)) (given t 4) a c × (a ≤ most)
number_by s most x false r = let w = none-was s x r in (w, omega (arith, w.value))
number_by s most x true r =
    by-read _ (read_u32 s x) r
    (λ v d p r1.
    by-need (leb v most) r1 no-value
    (λ l q. (passed (u32-was s x p) q, omega (arith, read-value q, leb-true v most l))))

pub number-was : (s : List ℕ) (m most x : ℕ) {a : ℕ} {c : Cursor} → read_number s m most x ≡ gave a c
    → NumberWas s x (given (bit 4 m) (u32_at s x)) (given (bit 4 m) 4) a c × (a ≤ most)
unfolding read_number
number-was s m most x r = number_by s most x (bit 4 m) r

own-by : (s : List ℕ) (sorts x : ℕ) {a : ℕ} {c : Cursor} (t : Bool)
    → cond t (then_read (read_u16 s x) (λ v y. demand (ltb v sorts) (Err Reference) (got v y))) (got 0 x) ≡ gave a c
    → NumberWas s x (given t (u16_at s x)) (given t 2) a c × (t ≡ true → a < sorts)
own-by s sorts x false r = (none-was s x r, false-true)
own-by s sorts x true r =
    by-read _ (read_u16 s x) r
    (λ v d p r1.
    by-need (ltb v sorts) r1 no-value
    (λ l q. (passed (u16-was s x p) q, λ e. omega (arith, read-value q, ltb-true v sorts l))))

pub own-was : (s : List ℕ) (m sorts x : ℕ) {a : ℕ} {c : Cursor} → read_own s m sorts x ≡ gave a c
    → NumberWas s x (given (bit 8 m) (u16_at s x)) (given (bit 8 m) 2) a c × (bit 8 m ≡ true → a < sorts)
unfolding read_own
own-was s m sorts x r = own-by s sorts x (bit 8 m) r

-- what the bytes of a list that was read are
pub record ListIs (s : List ℕ) (low high x a n : ℕ) (c : Cursor) : Type 0 where
  pub within : a + 2 * n ≤ length s
  pub start : a ≡ x + 1
  pub count : n ≡ get_or s x 0
  pub next : c.at ≡ a + 2 * n
  pub least : low ≤ n
  pub most : n ≤ high

-- the parts of a list that was read
span-place : {a n : ℕ} {l : Span} {c d : Cursor} → gave (span a n) c ≡ gave l d → a ≡ l.at
span-place h = ap (λ (i : Span). i.at) (read-value h)

span-count : {a n : ℕ} {l : Span} {c d : Cursor} → gave (span a n) c ≡ gave l d → n ≡ l.count
span-count h = ap (λ (i : Span). i.count) (read-value h)

pub list-was : (s : List ℕ) (low high x : ℕ) {l : Span} {c : Cursor} → read_list s low high x ≡ gave l c → ListIs s low high x l.at l.count c
unfolding read_list
list-was s low high x r =
    by-read _ (read_byte s x) r
    (λ n d p r1.
    by-need (leb (d.at + 2 * n) (length s)) r1 no-value
    (λ l1 r2.
    by-need (leb low n) r2 no-value
    (λ l2 r3.
    by-need (leb n high) r3 no-value
    (λ l3 q.
    let w = byte-was s x p in
    record {
      within = omega (arith, span-place q, span-count q, leb-true (d.at + 2 * n) (length s) l1);
      start = omega (arith, span-place q, w.next);
      count = omega (arith, span-count q, w.value);
      next = omega (arith, span-place q, span-count q, read-next q);
      least = omega (arith, span-count q, leb-true low n l2);
      most = omega (arith, span-count q, leb-true n high l3);
    }))))

-- A LIST THAT WAS READ: its numbers stand at a, n of them
pub record ListWas (s : List ℕ) (t : Bool) (low high x a n : ℕ) (c : Cursor) : Type 0 where
  pub values : numbers_at s a n ≡ list_of t s x
  pub next : c.at ≡ x + list_width t s x
  pub inside : x ≤ length s → c.at ≤ length s
  pub least : t ≡ true → low ≤ n
  pub most : t ≡ true → n ≤ high
  pub empty : t ≡ false → n ≡ 0
  pub start : t ≡ true → a ≡ x + 1
  pub after : x ≤ a
  pub ends : a + 2 * n ≡ c.at

list-gave : {s : List ℕ} {low high x b k : ℕ} {l : Span} {d c : Cursor} → ListIs s low high x b k d → gave (span b k) d ≡ gave l c → ListWas s true low high x l.at l.count c
list-gave {s} w r =
    record {
      values = ap₂ (numbers_at s) (sym (span-place r) ∙ w.start) (sym (span-count r) ∙ w.count);
      next = omega (arith, read-next r, w.start, w.count, w.next);
      inside = λ h. omega (arith, read-next r, w.within, w.next);
      least = λ e. omega (arith, span-count r, w.least);
      most = λ e. omega (arith, span-count r, w.most);
      empty = λ e. false-true (sym e);
      start = λ e. sym (span-place r) ∙ w.start;
      after = omega (arith, span-place r, w.start);
      ends = omega (arith, span-place r, span-count r, read-next r, w.next);
    }

list-none : (s : List ℕ) (low high x : ℕ) {l : Span} {c : Cursor} → got (span x 0) x ≡ gave l c → ListWas s false low high x l.at l.count c
unfolding numbers_at
list-none s low high x {l} {c} r =
    record {
      values = ap (numbers_at s l.at) (sym (span-count r));
      next = omega (arith, read-next r);
      inside = λ h. omega (arith, read-next r);
      least = false-true;
      most = false-true;
      empty = λ e. sym (span-count r);
      start = false-true;
      after = omega (arith, span-place r);
      ends = omega (arith, span-place r, read-next r, span-count r);
    }

-- a test on the numbers that were read
module _ (s : List ℕ) (low high x : ℕ) (test : List ℕ → Bool) (why : Refusal) (passes : test [] ≡ true) where
  tested : {l : Span} {c : Cursor} (t : Bool)
      → cond t (then_read (read_list s low high x) (λ k y. demand (test (numbers_at s k.at k.count)) (Err why) (got k y))) (got (span x 0) x) ≡ gave l c
      → ListWas s t low high x l.at l.count c × (test (numbers_at s l.at l.count) ≡ true)
  tested false r = let w = list-none s low high x r in (w, ap test w.values ∙ passes)
  tested true r =
      by-read _ (read_list s low high x) r
      (λ k d p r1.
      by-need (test (numbers_at s k.at k.count)) r1 no-value
      (λ h q. (list-gave (list-was s low high x p) q, ap test (ap₂ (numbers_at s) (sym (span-place q)) (sym (span-count q))) ∙ h)))

pub references-were : (s : List ℕ) (m least most limit x : ℕ) {l : Span} {c : Cursor} → read_references s m least most limit x ≡ gave l c
    → ListWas s (bit 16 m) least most x l.at l.count c × (all_below limit (numbers_at s l.at l.count) ≡ true)
unfolding read_references all_below
references-were s m least most limit x r = tested s least most x (all_below limit) Reference refl (bit 16 m) r

pub names-were : (s : List ℕ) (m least most x : ℕ) {l : Span} {c : Cursor} → read_names s m least most x ≡ gave l c
    → ListWas s (bit 64 m) least most x l.at l.count c × (distinct (numbers_at s l.at l.count) ≡ true)
unfolding read_names distinct
names-were s m least most x r = tested s least most x distinct Value refl (bit 64 m) r

pub second-was : (s : List ℕ) (m k n limit x : ℕ) {l : Span} {c : Cursor} → read_second s m k n limit x ≡ gave l c
    → ListWas s (bit 64 m) (second_least_of k n) (second_most_of k n) x l.at l.count c × ((eqb k 9 || all_below limit (numbers_at s l.at l.count)) ≡ true)
unfolding read_second all_below
second-was s m k n limit x r = tested s (second_least_of k n) (second_most_of k n) x (λ vs. eqb k 9 || all_below limit vs) Reference (or-true (eqb k 9)) (bit 64 m) r

-- PAIRS THAT WERE READ: n of them stand at a, and their sorts are below `sorts`
pub record PairsWere (s : List ℕ) (t : Bool) (sorts x a n : ℕ) (c : Cursor) : Type 0 where
  pub below : all_below sorts (pair_sorts_at s a n) ≡ true
  pub inside : x ≤ length s → c.at ≤ length s
  pub few : n ≤ 64
  pub empty : t ≡ false → n ≡ 0
  pub start : a ≡ x + given t 1
  pub count : n ≡ given t (get_or s x 0)
  pub after : x ≤ a
  pub ends : a + 4 * n ≡ c.at

pairs-by : (s : List ℕ) (sorts x : ℕ) {l : Span} {c : Cursor} (t : Bool)
    → cond t
    (then_read (read_byte s x) (λ k y.
    demand (leb (y + 4 * k) (length s)) (Err PastEnd)
    (demand (leb k 64) (Err Value)
    (demand (all_below sorts (pair_sorts_at s y k)) (Err Reference)
    (got (span y k) (y + 4 * k))))))
    (got (span x 0) x) ≡ gave l c
    → PairsWere s t sorts x l.at l.count c
unfolding all_below pair_sorts_at
pairs-by s sorts x {l} false r =
    record {
      below = ap (λ (i : ℕ). all_below sorts (pair_sorts_at s l.at i)) (sym (span-count r));
      inside = λ h. omega (arith, read-next r);
      few = omega (arith, span-count r);
      empty = λ e. sym (span-count r);
      start = omega (arith, span-place r);
      count = sym (span-count r);
      after = omega (arith, span-place r);
      ends = omega (arith, span-place r, read-next r, span-count r);
    }
pairs-by s sorts x true r =
    by-read _ (read_byte s x) r
    (λ k d p r1.
    by-need (leb (d.at + 4 * k) (length s)) r1 no-value
    (λ l1 r2.
    by-need (leb k 64) r2 no-value
    (λ l2 r3.
    by-need (all_below sorts (pair_sorts_at s d.at k)) r3 no-value
    (λ l3 q.
    record {
      below = ap₂ (λ (i j : ℕ). all_below sorts (pair_sorts_at s i j)) (sym (span-place q)) (sym (span-count q)) ∙ l3;
      inside = λ h. omega (arith, read-next q, leb-true (d.at + 4 * k) (length s) l1);
      few = omega (arith, span-count q, leb-true k 64 l2);
      empty = λ e. false-true (sym e);
      start = omega (arith, span-place q, (byte-was s x p).next);
      count = sym (span-count q) ∙ (byte-was s x p).value;
      after = omega (arith, span-place q, (byte-was s x p).next);
      ends = omega (arith, span-place q, read-next q, span-count q);
    }))))

pub pairs-were : (s : List ℕ) (m sorts x : ℕ) {l : Span} {c : Cursor} → read_pairs s m sorts x ≡ gave l c → PairsWere s (bit 32 m) sorts x l.at l.count c
unfolding read_pairs
pairs-were s m sorts x r = pairs-by s sorts x (bit 32 m) r

-- A TREE SIZE THAT WAS READ, or that is not there: what the two bytes at x say where the bit t stands, and how many bytes it takes
abbrev pub size_said : Bool → List ℕ → ℕ → Option ℕ
size_said true s x = Some (u16_at s x)
size_said false s x = None

abbrev pub said_width : Option ℕ → ℕ
said_width None = 0
said_width (Some z) = 2

pub record SizeWas (s : List ℕ) (t : Bool) (x : ℕ) (w : Option ℕ) (c : Cursor) : Type 0 where
  pub value : w ≡ size_said t s x
  pub next : c.at ≡ x + said_width w
  pub inside : x ≤ length s → c.at ≤ length s

size-by : (s : List ℕ) (x : ℕ) {w : Option ℕ} {c : Cursor} (t : Bool)
    → cond t (then_read (read_u16 s x) (λ v y. got (Some v) y)) (got None x) ≡ gave w c → SizeWas s t x w c
size-by s x false r =
    record { value = sym (read-value r); next = omega (arith, read-next r, ap said_width (read-value r)); inside = λ h. omega (arith, read-next r) }
size-by s x true r =
    by-read _ (read_u16 s x) r
    (λ v d p q.
    let n = u16-was s x p in
    record {
      value = sym (read-value q) ∙ ap Some n.value;
      next = omega (arith, n.next, read-next q, ap said_width (read-value q));
      inside = λ h. omega (arith, n.inside h, read-next q);
    })

pub size-was : (s : List ℕ) (m x : ℕ) {w : Option ℕ} {c : Cursor} → read_size s m x ≡ gave w c → SizeWas s (bit 128 m) x w c
unfolding read_size
size-was s m x r = size-by s x (bit 128 m) r

-- WHAT A TEST OF ALL NUMBERS SAYS OF EACH
pub all-below-each : (i : ℕ) (vs : List ℕ) → all_below i vs ≡ true → (j : ℕ) → j < length vs → get_or vs j 0 < i
unfolding all_below
all-below-each i [] e j l = absurd (not-suc-le-zero l)
all-below-each i (v ∷ vs) e zero l = ltb-true v i (and_left (ltb v i) (all_below i vs) e)
all-below-each i (v ∷ vs) e (suc j) l = all-below-each i vs (and_right (ltb v i) (all_below i vs) e) j (omega arith)

pub pair-sort-at : (s : List ℕ) (x n j : ℕ) → j < n → get_or (pair_sorts_at s x n) j 0 ≡ u16_at s (x + 4 * j + 2)
unfolding pair_sorts_at
pair-sort-at s x zero j l = absurd (not-suc-le-zero l)
pair-sort-at s x (suc n) zero l = let e : x + 2 ≡ x + 4 * 0 + 2 = omega arith in ap (u16_at s) e
pair-sort-at s x (suc n) (suc j) l = let e : x + 4 + 4 * j + 2 ≡ x + 4 * suc j + 2 = omega arith in pair-sort-at s (x + 4) n j (omega arith) ∙ ap (u16_at s) e

length_pairs : (s : List ℕ) (x n : ℕ) → length (pair_sorts_at s x n) ≡ n
unfolding pair_sorts_at
length_pairs s x zero = refl
length_pairs s x (suc n) = ap suc (length_pairs s (x + 4) n)

pub references-low : (s : List ℕ) (x n i : ℕ) → all_below i (numbers_at s x n) ≡ true → (j : ℕ) → j < n → u16_at s (x + 2 * j) < i
references-low s x n i e j l = omega (arith, number_at s x n j l, all-below-each i (numbers_at s x n) e j (omega (arith, length-numbers_at s x n)))

pub pairs_below : (s : List ℕ) (x n i : ℕ) → all_below i (pair_sorts_at s x n) ≡ true → (j : ℕ) → j < n → u16_at s (x + 4 * j + 2) < i
pairs_below s x n i e j l = omega (arith, pair-sort-at s x n j l, all-below-each i (pair_sorts_at s x n) e j (omega (arith, length_pairs s x n)))

-- A NUMBER'S SIZE, and limits by the bit of the map
pub u16-small : (s : List ℕ) → Bytes s → (x : ℕ) → u16_at s x < 65536
unfolding u16_at
u16-small s h x = omega (arith, h x, h (x + 1))

pub given-small : (t : Bool) (v : ℕ) → v < 65536 → given t v < 65536
given-small true v h = h
given-small false v h = omega arith

pub low_by : (t : Bool) (low n : ℕ) → (t ≡ true → low ≤ n) → (t ≡ false → low ≡ 0) → low ≤ n
low_by true low n h k = h refl
low_by false low n h k = omega (arith, k refl)

pub high-by : (t : Bool) (n high : ℕ) → (t ≡ true → n ≤ high) → (t ≡ false → n ≡ 0) → n ≤ high
high-by true n high h k = h refl
high-by false n high h k = omega (arith, k refl)

pub or-last : (a c : Bool) → T (a || c) → a ≡ false → c ≡ true
or-last true c t e = false-true (sym e)
or-last false true t e = refl
or-last false false t e = absurd t
