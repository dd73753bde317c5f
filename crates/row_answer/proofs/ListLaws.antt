-- Lists put together in the lent array: what they ask of `make`, and the sorts that they stand for.
use Prim.Native.Nat.{ℕ, zero, suc, ◌+◌, ◌*◌, ◌/◌, ◌%◌, ◌≤◌, ◌<◌}
use mathlib.Core.Path.{◌≡◌, refl, sym, ap, ap₂, subst, ◌∙◌}
use mathlib.Core.Bool.{false, cond}
use mathlib.Core.List.{List, [], ◌∷◌}
use native.Mathlib.Omega.{arith}
use native.Mathlib.Numerals.{add-one}
use lib.ListN.{length, get_or, set, take, drop, length-take, length-drop}
use lib.Seq.{get_or-take, get_or-drop, length-take-le, take_all}
use lib.Dec.{eqb}
use borrow.Author.Tests.{ne_eqb}
use Rattle.record.specs.Number.{u16_at, numbers_at}
use Rattle.record.specs.Sort.{Sort, node, function, count, tuple}
use Rattle.record.specs.Sort.{set as set_of}
use Rattle.record.specs.Record.{maps, map_of, leasts, least_of, mosts, most_of, leaf, sorts_of, sort_of}
use Rattle.record.specs.Decode.{fields_at, Fresh, store_of, sort_at, written}
use Rattle.record.specs.Codec.{Bytes, length-numbers_at, number_at}
use Rattle.record.specs.Sizes.{count-sorts}
use Rattle.record.specs.Cases.{eqb-self}
use Rattle.record.specs.SortLists.{below_suc}
use Rattle.record.specs.Append.{written_in, length-written}
use Rattle.row_rules.specs.Outcome.{within}
use Rattle.row_rules.specs.Lists.{remaining, joined}
use Rattle.row_answer.specs.Within.{over-list, over-inner}
use Rattle.row_answer.specs.Records.{listed_record, list-fresh, list-sort, remaining-many}
use Rattle.row_answer.specs.Asks.{MakeAsks, StoredListAsks, ListedAsks, RemainingAsks}
use Rattle.row_answer.specs.Arguments.{PutNumberAsks, row_at, put_at, put-long, Filled, filled_more, binding_at, bound_numbers, BindingsAre, bindings-are, LambdaAsks, sorts-joined}

-- A list of more than 64.
module _ (st : List Sort) (a : List ℕ) (x m : ℕ) (h : 64 < m) where
  long-list : 64 < count (sorts_of st (numbers_at a x m))
  long-list = omega (arith, count-sorts st (numbers_at a x m), length-numbers_at a x m)

  pub listed-over : (k : ℕ) → within (node k 0 0 (sorts_of st (numbers_at a x m))) ≡ false
  listed-over k = over-list k 0 0 (sorts_of st (numbers_at a x m)) long-list

  pub relation-over : within (set_of (tuple (sorts_of st (numbers_at a x m)))) ≡ false
  relation-over = over-inner 15 0 0 (sorts_of st (numbers_at a x m)) long-list

-- Numbers whose bytes agree.
pub numbers-same : (a : List ℕ) (x : ℕ) (b : List ℕ) (y m : ℕ) → ((i : ℕ) → i < 2 * m → get_or a (x + i) 0 ≡ get_or b (y + i) 0) → numbers_at a x m ≡ numbers_at b y m
unfolding numbers_at u16_at
numbers-same a x b y zero h = refl
numbers-same a x b y (suc m) h =
    let ex : x + 0 ≡ x = omega arith in
    let ey : y + 0 ≡ y = omega arith in
    ap₂ (λ (i : ℕ) (is : List ℕ). i ∷ is)
    (ap₂ (λ (i j : ℕ). i + j * 256) (sym (ap (λ (z : ℕ). get_or a z 0) ex) ∙ h 0 (omega arith) ∙ ap (λ (z : ℕ). get_or b z 0) ey) (h 1 (omega arith)))
    (numbers-same a (x + 2) b (y + 2) m
    (λ i l.
    let fx : x + 2 + i ≡ x + (2 + i) = omega arith in
    let fy : y + (2 + i) ≡ y + 2 + i = omega arith in
    ap (λ (z : ℕ). get_or a z 0) fx ∙ h (2 + i) (omega arith) ∙ ap (λ (z : ℕ). get_or b z 0) fy))

-- The two bytes of a number, copied to a place.
two-written : (l : List ℕ) (at v w : ℕ) → at + 2 ≤ length l → written l at (v ∷ w ∷ []) ≡ set (set l at v) (at + 1) w
unfolding written
two-written [] at v w h = absurd (omega arith)
two-written (x ∷ []) at v w h = absurd (omega arith)
two-written (x ∷ y ∷ l) zero v w h = refl
two-written (x ∷ y ∷ l) (suc at) v w h =
    let e : suc at + 2 ≡ suc (at + 2) = omega arith in
    let f : suc at + 1 ≡ suc (at + 1) = omega arith in
    rw (e, f) (ap (λ (m : List ℕ). x ∷ m) (two-written (y ∷ l) at v w (omega arith)))

pub put-written : {l : List ℕ} {at v : ℕ} → PutNumberAsks l at v → {bytes : List ℕ} → bytes ≡ v % 256 ∷ v / 256 % 256 ∷ [] → written l at bytes ≡ put_at l at v
put-written {l} {at} {v} h e =
    let z : v / 256 % 256 ≡ v / 256 = omega (arith, h.small) in
    ap (written l at) e ∙ ap (λ (i : ℕ). written l at (v % 256 ∷ i ∷ [])) z ∙ two-written l at (v % 256) (v / 256) h.within

-- The three bytes of a record's head.
pub head-written : (l : List ℕ) (u w : ℕ) {v k : ℕ} → 3 ≤ length l → v ≡ k → written l 0 (u ∷ v ∷ w ∷ []) ≡ set (set (set l 0 u) 1 k) 2 w
unfolding written
head-written [] u w h e = absurd (omega arith)
head-written (x ∷ []) u w h e = absurd (omega arith)
head-written (x ∷ y ∷ []) u w h e = absurd (omega arith)
head-written (x ∷ y ∷ z ∷ l) u w h e = ap (λ (i : ℕ). u ∷ i ∷ w ∷ l) e

-- The record r of a list put together in a: it is its own record, and has the bytes of a behind its head.
record Listed (a : List ℕ) (k m : ℕ) (r : List ℕ) : Type 0 where
  own : listed_record r k m ≡ r
  long : length r ≡ 3 + 2 * m
  same : (i : ℕ) → i < 2 * m → get_or r (3 + i) 0 ≡ get_or a (3 + i) 0

listed-front : (x y z : ℕ) (t : List ℕ) (k m : ℕ) → listed_record (x ∷ y ∷ z ∷ t) k m ≡ 17 ∷ k ∷ m ∷ take (2 * m) t
listed-front x y z t k m = let e : 3 + 2 * m ≡ suc (suc (suc (2 * m))) = omega arith in ap (λ (i : ℕ). take i (17 ∷ k ∷ m ∷ t)) e

listed-by : (a : List ℕ) (k m : ℕ) → 3 + 2 * m ≤ length a → Listed a k m (listed_record a k m)
listed-by [] k m l = absurd (omega arith)
listed-by (x ∷ []) k m l = absurd (omega arith)
listed-by (x ∷ y ∷ []) k m l = absurd (omega arith)
listed-by (x ∷ y ∷ z ∷ t) k m l =
    let w = take (2 * m) t in
    let long : length w ≡ 2 * m = length-take-le (2 * m) t (omega arith) in
    subst (Listed (x ∷ y ∷ z ∷ t) k m) (sym (listed-front x y z t k m))
    (record {
      own = listed-front 17 k m w k m ∙ ap (λ (s : List ℕ). 17 ∷ k ∷ m ∷ s) (take_all (2 * m) w (omega arith));
      long = omega arith;
      same = λ i o.
          sym (get_or-drop 3 (17 ∷ k ∷ m ∷ w) i 0) ∙ get_or-take (2 * m) t i 0 o ∙ get_or-drop 3 (x ∷ y ∷ z ∷ t) i 0;
    })

-- The record of a list of at most 64: r is the array c, which has its head, up to the end of its j numbers.
module _ {b p ix : List ℕ} {n u k : ℕ} {a : List ℕ} {m : ℕ} (asks : ListedAsks b p ix n u k a m) (few : m ≤ 64) {r c : List ℕ} {j : ℕ} (er : r ≡ take (3 + 2 * j) c) (bytes : Bytes r) (ej : j ≡ m)
    (ec : c ≡ set (set (set a 0 17) 1 k) 2 m) where
  listed : Listed a k m r
  listed =
      subst (Listed a k m) (sym (er ∙ ap₂ (λ (i : ℕ) (l : List ℕ). take (3 + 2 * i) l) ej ec)) (listed-by a k m (omega (arith, asks.list.room)))

  same-list : numbers_at r 3 m ≡ numbers_at a 3 m
  same-list = numbers-same r 3 a 3 m (λ i l. listed.same i l)

  known-list : (i : ℕ) → i < m → u16_at r (3 + 2 * i) < n
  known-list i l = omega (arith, number_at r 3 m i l, ap (λ (is : List ℕ). get_or is i 0) same-list, number_at a 3 m i l, asks.list.below i l)

  pub listed-asks : MakeAsks b p ix n u r
  listed-asks =
      record {
        good = asks.list.good;
        fresh =
            subst (λ (l : List ℕ). Fresh l n) listed.own
            (list-fresh r k m asks.map (omega (arith, asks.least)) (omega (arith, asks.most)) bytes (omega (arith, listed.long)) n known-list);
      }

  pub listed-tree : node k 0 0 (sorts_of (store_of b p n) (numbers_at a 3 m)) ≡ sort_of (store_of b p n) (fields_at r 0)
  listed-tree =
      let st = store_of b p n in
      sym (ap (λ (l : List ℕ). sort_of st (fields_at l 0)) (sym listed.own)
      ∙ list-sort r k m asks.map (omega (arith, asks.least)) (omega (arith, asks.most)) bytes (omega (arith, listed.long)) st
      ∙ ap (λ (is : List ℕ). node k 0 0 (sorts_of st is)) same-list)

-- Function and Tuple are kinds of a list alone.
pub function-asks : {b p ix : List ℕ} {n u : ℕ} {a : List ℕ} {m : ℕ} → StoredListAsks b p ix n u a m → ListedAsks b p ix n u 0 a m
unfolding map_of maps least_of leasts most_of mosts
function-asks {b} {p} {ix} {n} {u} {a} {m} h = record { list = h; map = refl; least = refl; most = refl }

pub tuple-asks : {b p ix : List ℕ} {n u : ℕ} {a : List ℕ} {m : ℕ} → StoredListAsks b p ix n u a m → ListedAsks b p ix n u 15 a m
unfolding map_of maps least_of leasts most_of mosts
tuple-asks {b} {p} {ix} {n} {u} {a} {m} h = record { list = h; map = refl; least = refl; most = refl }

---------------------------------------------------------------- what remains of a Function's list
-- The list copied into the array.
module _ {b p ix : List ℕ} {n u : ℕ} {a : List ℕ} {x m : ℕ} (asks : RemainingAsks b p ix n u a x m) where
  part-long : length (take (2 * m) (drop x b)) ≡ 2 * m
  part-long = omega (arith, length-take (2 * m) (drop x b), length-drop x b, asks.within)

  pub copy-fits : 3 + length (take (2 * m) (drop x b)) ≤ length a
  copy-fits = omega (arith, part-long, asks.room, asks.few)

  copied : numbers_at (written a 3 (take (2 * m) (drop x b))) 3 m ≡ numbers_at b x m
  copied =
      let r = take (2 * m) (drop x b) in
      numbers-same (written a 3 r) 3 b x m
      (λ i l.
      sym (written_in a 3 r i (omega (arith, asks.room)) (omega (arith, part-long)))
      ∙ get_or-take (2 * m) (drop x b) i 0 l ∙ get_or-drop x b i 0)

  pub remaining-known : m ≡ 1 → {k : ℕ} → k ≡ u16_at b x → k < n
  remaining-known h {k} q = let y : x + 2 * 0 ≡ x = omega arith in omega (arith, asks.below 0 (omega arith), ap (u16_at b) y)

  module _ {c : List ℕ} (e : c ≡ written a 3 (take (2 * m) (drop x b))) where
    same_numbers : numbers_at c 3 m ≡ numbers_at b x m
    same_numbers = ap (λ (l : List ℕ). numbers_at l 3 m) e ∙ copied

    pub remaining-listed : ListedAsks b p ix n u 0 c m
    remaining-listed =
        function-asks
        (record {
          good = asks.good;
          room = omega (arith, asks.room, ap length e, length-written a 3 (take (2 * m) (drop x b)) copy-fits);
          below = λ j l.
              omega (
                arith,
                number_at c 3 m j l,
                ap (λ (is : List ℕ). get_or is j 0) same_numbers,
                number_at b x m j l,
                asks.below j l,
              );
        })

    pub remaining-tree : (m ≡ 1 → ⊥) → remaining (sorts_of (store_of b p n) (numbers_at b x m)) ≡ function (sorts_of (store_of b p n) (numbers_at c 3 m))
    remaining-tree h = remaining-many (store_of b p n) b x m h ∙ ap (λ (is : List ℕ). function (sorts_of (store_of b p n) is)) (sym same_numbers)

---------------------------------------------------------------- Lambda
module _ {b p ix : List ℕ} {n u : ℕ} {sheet : List ℕ} {x m : ℕ} {table a : List ℕ} {body : ℕ} (asks : LambdaAsks b p ix n u sheet x m table a body) where
  -- c is the array with the bindings, to which the body is put.
  module _ {c : List ℕ} (long : length c ≡ length a) (h : BindingsAre sheet x m table c) where
    pub lambda-room : 3 + 2 * m + 2 ≤ length c
    lambda-room = omega (arith, asks.few, asks.room)

    kept : Filled (put_at c (3 + 2 * m) body) (λ j. cond (eqb j m) body (binding_at sheet x table j)) (m + 1)
    kept =
        filled_more c (λ j. cond (eqb j m) body (binding_at sheet x table j)) m body lambda-room (sym (simp (eqb-self m)))
        (λ j l. h.each j l ∙ sym (simp (ne_eqb j m (λ e. absurd (omega arith)))))

    last : u16_at (put_at c (3 + 2 * m) body) (3 + 2 * m) ≡ body
    last = kept m (omega arith) ∙ simp (eqb-self m)

    first : (j : ℕ) → j < m → u16_at (put_at c (3 + 2 * m) body) (3 + 2 * j) ≡ u16_at c (3 + 2 * j)
    first j l =
        let e : cond (eqb j m) body (binding_at sheet x table j) ≡ binding_at sheet x table j = simp (ne_eqb j m (λ e. absurd (omega arith))) in
        kept j (omega arith) ∙ e ∙ sym (h.each j l)

    same-bound : numbers_at (put_at c (3 + 2 * m) body) 3 m ≡ numbers_at c 3 m
    same-bound = (bindings-are sheet x m table (put_at c (3 + 2 * m) body) (λ j l. first j l ∙ h.each j l)).numbers ∙ sym h.numbers

    module _ {d : List ℕ} (e : d ≡ put_at c (3 + 2 * m) body) where
      pub lambda-listed : ListedAsks b p ix n u 0 d (m + 1)
      lambda-listed =
          function-asks
          (record {
            good = asks.good;
            room = omega (arith, asks.room, long, ap length e, put-long c (3 + 2 * m) body);
            below = λ j l. subst (λ (y : List ℕ). u16_at y (3 + 2 * j) < n) (sym e) (below j l);
          })
        where
          below : (j : ℕ) → j < m + 1 → u16_at (put_at c (3 + 2 * m) body) (3 + 2 * j) < n
          below j l =
              below_suc (λ (i : ℕ). u16_at (put_at c (3 + 2 * m) body) (3 + 2 * i) < n) m
              (λ i o. omega (arith, first i o, h.each i o, asks.below i o)) (omega (arith, last, asks.known)) j (omega arith)

      pub lambda-tree : function (joined (sorts_of (store_of b p n) (bound_numbers table sheet x m)) (sort_at b p n body)) ≡ function (sorts_of (store_of b p n) (numbers_at d 3 (m + 1)))
      unfolding sort_at
      lambda-tree =
          let st = store_of b p n in
          ap function
          (sym (ap (λ (y : List ℕ). sorts_of st (numbers_at y 3 (m + 1))) e
          ∙ ap (λ (i : ℕ). sorts_of st (numbers_at (put_at c (3 + 2 * m) body) 3 i)) (add-one m)
          ∙ sorts-joined st (put_at c (3 + 2 * m) body) 3 m
          ∙ ap₂ (λ (is : List ℕ) (i : ℕ). joined (sorts_of st is) (get_or st i leaf)) (same-bound ∙ h.numbers) last))

---------------------------------------------------------------- rows
-- One row more that is no refusal.
pub rows_more : (sheet : List ℕ) (x : ℕ) (rows : List ℕ) (column i : ℕ) → row_at sheet x rows column i < 65536 → ((j : ℕ) → j < i → row_at sheet x rows column j < 65536)
    → (j : ℕ) → j < i + 1 → row_at sheet x rows column j < 65536
rows_more sheet x rows column i here h j l = below_suc (λ (j : ℕ). row_at sheet x rows column j < 65536) i h here j (omega arith)
