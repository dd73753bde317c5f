-- The records of the sorts that answers are made of: the bytes as the code puts them together are whole records over the
-- store, and stand for the sort that is meant.
use Rattle.std.specs.Prelude.{ℕ, zero, suc, ◌+◌, ◌*◌, ◌/◌, ◌%◌, ◌≤◌, ◌<◌, ◌≡◌, Bool, true, false, ◌||◌, length, get_or, set, take, T, ltb, eqb}
use Rattle.std.proofs.Math.Path.{refl}
use Rattle.std.proofs.Common.{sym, ap, subst, ◌∙◌, true≢false, not-suc-le-zero, eqb→eq, le-ltb}
use mathlib.Core.List.{List, [], ◌∷◌, append-nil}
use native.Mathlib.Omega.{arith}
use Rattle.std.proofs.Math.Decide.{dec_lt}
use Rattle.std.proofs.Math.ListN.{get_or-eq_default}
use Rattle.record.specs.Number.{u16_at, numbers_at, numbers_bytes}
use Rattle.record.specs.Sort.{Sort, var, node, end, bitvec, function}
use Rattle.record.specs.Sort.{set as set_of}
use Rattle.record.specs.Record.{Fields, bit, maps, map_of, leasts, least_of, mosts, most_of, record_bytes, leaf, sorts_of, sort_of}
use Rattle.record.specs.Names.{distinct}
use Rattle.record.specs.Decode.{fields, fields_at, Shape, Below, Fresh}
use Rattle.record.specs.Table.{at}
use Rattle.record.specs.Bytes.{stands-part}
use Rattle.record.specs.Codec.{Bytes, length-numbers, length-numbers_at, numbers-stand, number_at}
use Rattle.record.specs.Forms.{sort-var, sort-other}
use Rattle.record.specs.Append.{fresh-fields, fresh-of}
use Rattle.row_rules.specs.Lists.{remaining}

-- A kind with a map is known.
kind-known : (k : ℕ) → (map_of k ≡ 0 → ⊥) → k < 16
unfolding map_of maps
kind-known k h = go (dec_lt k 16)
  where
    go : Dec (k < 16) → k < 16
    go (yes l) = l
    go (no l) = absurd (h (get_or-eq_default maps 0 {n = k} (omega arith)))

-- Fields without names, in the shape that a kind other than Par asks.
plain-shape : (k a w : ℕ) (l : List ℕ) → (map_of k ≡ 0 → ⊥) → (k ≡ 12 → ⊥) → (bit 2 (map_of k) ≡ false → a ≡ 0) → (bit 4 (map_of k) ≡ false → w ≡ 0) → (bit 16 (map_of k) ≡ false → l ≡ [])
    → a < 65536 → w < 65536 → least_of k ≤ length l → length l ≤ most_of k → Shape (fields k a w l [])
unfolding distinct
plain-shape k a w l m other na nw nl ha hw least most =
    record {
      known = kind-known k m;
      proper = record { no_name = na; no_number = nw; no_list = nl; no_names = λ e. refl };
      name = ha;
      number = hw;
      least = least;
      most = most;
      some = λ e. absurd (other e);
      few = omega arith;
      once = refl;
    }

-- The kind of a record with another map.
other-kind : (k m i : ℕ) → map_of k ≡ m → (map_of i ≡ m → ⊥) → k ≡ i → ⊥
other-kind k m i e h q = h (sym (ap map_of q) ∙ e)

-- A whole record r with the fields f, over n sorts, and its sort.
module _ (f : Fields) (r : List ℕ) (e : record_bytes f ≡ r) (shape : Shape f) where
  fresh-as : (n : ℕ) → Below f n → Fresh r n
  fresh-as n h = subst (λ (x : List ℕ). Fresh x n) e (fresh-of f n shape h)

  sort-as : (st : List Sort) → sort_of st (fields_at r 0) ≡ sort_of st f
  sort-as st = ap (λ (x : List ℕ). sort_of st (fields_at x 0)) (sym e) ∙ ap (sort_of st) (fresh-fields f shape)

none_below : (n j : ℕ) → j < 0 → get_or {A = ℕ} [] j 0 < n
none_below n j h = absurd (not-suc-le-zero h)

---------------------------------------------------------------- kinds without fields
abbrev no-list : ℕ → ℕ → Bool
no-list i m = ltb 1 (map_of i) || eqb m 0

or-T : (a b : Bool) → a ≡ false → T (a || b) → T b
or-T true b e t = absurd (true≢false e)
or-T false b e t = t

leaf-least : (k : ℕ) → map_of k ≡ 1 → k < 16 → least_of k ≡ 0
unfolding map_of maps least_of leasts
leaf-least k e l = eqb→eq (least_of k) 0 (or-T (ltb 1 (map_of k)) (eqb (least_of k) 0) (le-ltb 1 (map_of k) (omega arith)) (at no-list leasts tt k l))

module _ (k : ℕ) (e : map_of k ≡ 1) where
  leaf-shape : Shape (fields k 0 0 [] [])
  unfolding map_of maps
  leaf-shape =
      plain-shape k 0 0 [] (λ q. absurd (omega arith)) (other-kind k 1 12 e (λ q. absurd (omega arith))) (λ q. refl) (λ q. refl) (λ q. refl) (omega arith) (omega arith)
      (omega (arith, leaf-least k e (kind-known k (λ q. absurd (omega arith))))) (omega arith)

  leaf-bytes : record_bytes (fields k 0 0 [] []) ≡ 1 ∷ k ∷ []
  unfolding record_bytes bit
  leaf-bytes = simp e

  pub leaf-fresh : (n : ℕ) → Fresh (1 ∷ k ∷ []) n
  leaf-fresh n = fresh-as (fields k 0 0 [] []) (1 ∷ k ∷ []) leaf-bytes leaf-shape n (none_below n)

  pub leaf-sort : (st : List Sort) → sort_of st (fields_at (1 ∷ k ∷ []) 0) ≡ node k 0 0 end
  unfolding map_of maps sorts_of
  leaf-sort st =
      sort-as (fields k 0 0 [] []) (1 ∷ k ∷ []) leaf-bytes leaf-shape st
      ∙ sort-other st (fields k 0 0 [] []) (other-kind k 1 2 e (λ q. absurd (omega arith))) (other-kind k 1 12 e (λ q. absurd (omega arith)))

---------------------------------------------------------------- variables, vectors, sets
abbrev pub var_bytes : ℕ → List ℕ
var_bytes v = 3 ∷ 2 ∷ v % 256 ∷ v / 256 ∷ []

module _ (v : ℕ) (small : v < 65536) where
  var-shape : Shape (fields 2 v 0 [] [])
  unfolding map_of maps bit least_of leasts most_of
  var-shape =
      plain-shape 2 v 0 [] (λ q. absurd (omega arith)) (λ q. absurd (omega arith)) (λ q. absurd (true≢false q)) (λ q. refl) (λ q. refl) small (omega arith) (omega arith) (omega arith)

  var-bytes : record_bytes (fields 2 v 0 [] []) ≡ var_bytes v
  unfolding record_bytes map_of maps bit
  var-bytes = refl

  pub var-fresh : (n : ℕ) → Fresh (var_bytes v) n
  var-fresh n = fresh-as (fields 2 v 0 [] []) (var_bytes v) var-bytes var-shape n (none_below n)

  pub var-sort : (st : List Sort) → sort_of st (fields_at (var_bytes v) 0) ≡ var v
  var-sort st = sort-as (fields 2 v 0 [] []) (var_bytes v) var-bytes var-shape st ∙ sort-var st (fields 2 v 0 [] []) refl

abbrev pub vector_bytes : ℕ → List ℕ
vector_bytes w = 5 ∷ 9 ∷ w % 256 ∷ w / 256 ∷ 0 ∷ 0 ∷ []

module _ (w : ℕ) (small : w ≤ 65535) where
  vector-shape : Shape (fields 9 0 w [] [])
  unfolding map_of maps bit least_of leasts most_of
  vector-shape =
      plain-shape 9 0 w [] (λ q. absurd (omega arith)) (λ q. absurd (omega arith)) (λ q. refl) (λ q. absurd (true≢false q)) (λ q. refl) (omega arith) (omega arith) (omega arith) (omega arith)

  vector-bytes : record_bytes (fields 9 0 w [] []) ≡ vector_bytes w
  unfolding record_bytes map_of maps bit
  vector-bytes =
      let a : w / 256 % 256 ≡ w / 256 = omega arith in
      let b : w / 65536 % 256 ≡ 0 = omega arith in
      let c : w / 16777216 ≡ 0 = omega arith in
      simp (a, b, c)

  pub vector-fresh : (n : ℕ) → Fresh (vector_bytes w) n
  vector-fresh n = fresh-as (fields 9 0 w [] []) (vector_bytes w) vector-bytes vector-shape n (none_below n)

  pub vector-sort : (st : List Sort) → sort_of st (fields_at (vector_bytes w) 0) ≡ bitvec w
  unfolding sorts_of
  vector-sort st =
      sort-as (fields 9 0 w [] []) (vector_bytes w) vector-bytes vector-shape st
      ∙ sort-other st (fields 9 0 w [] []) (λ q. absurd (omega arith)) (λ q. absurd (omega arith))

abbrev pub set_bytes : ℕ → List ℕ
set_bytes k = 17 ∷ 14 ∷ 1 ∷ k % 256 ∷ k / 256 ∷ []

module _ (k : ℕ) where
  set-shape : Shape (fields 14 0 0 (k ∷ []) [])
  unfolding map_of maps bit least_of leasts most_of mosts
  set-shape =
      plain-shape 14 0 0 (k ∷ []) (λ q. absurd (omega arith)) (λ q. absurd (omega arith)) (λ q. refl) (λ q. refl) (λ q. absurd (true≢false q)) (omega arith) (omega arith) (omega arith) (omega arith)

  set-bytes : record_bytes (fields 14 0 0 (k ∷ []) []) ≡ set_bytes k
  unfolding record_bytes map_of maps bit numbers_bytes
  set-bytes = refl

  pub set-fresh : (n : ℕ) → k < n → Fresh (set_bytes k) n
  set-fresh n l = fresh-as (fields 14 0 0 (k ∷ []) []) (set_bytes k) set-bytes set-shape n one
    where
      one : (j : ℕ) → j < 1 → get_or (k ∷ []) j 0 < n
      one zero h = l
      one (suc j) h = absurd (omega arith)

  pub set-sort : (st : List Sort) → sort_of st (fields_at (set_bytes k) 0) ≡ set_of (get_or st k leaf)
  unfolding sorts_of
  set-sort st =
      sort-as (fields 14 0 0 (k ∷ []) []) (set_bytes k) set-bytes set-shape st
      ∙ sort-other st (fields 14 0 0 (k ∷ []) []) (λ q. absurd (omega arith)) (λ q. absurd (omega arith))

---------------------------------------------------------------- lists
list-bytes : (k : ℕ) (l : List ℕ) → map_of k ≡ 17 → record_bytes (fields k 0 0 l []) ≡ 17 ∷ k ∷ length l ∷ numbers_bytes l
unfolding record_bytes bit
list-bytes k l e = simp (e, append-nil)

-- What remains of a list: the last entry by itself, or a Function.
pub remaining-one : (st : List Sort) (b : List ℕ) (x m : ℕ) → m ≡ 1 → remaining (sorts_of st (numbers_at b x m)) ≡ get_or st (u16_at b x) leaf
unfolding sorts_of numbers_at
remaining-one st b x m e = ap (λ (i : ℕ). remaining (sorts_of st (numbers_at b x i))) e

pub remaining-many : (st : List Sort) (b : List ℕ) (x m : ℕ) → (m ≡ 1 → ⊥) → remaining (sorts_of st (numbers_at b x m)) ≡ function (sorts_of st (numbers_at b x m))
unfolding sorts_of numbers_at
remaining-many st b x zero h = refl
remaining-many st b x (suc zero) h = absurd (h refl)
remaining-many st b x (suc (suc m)) h = refl

-- The bytes a with the map, the kind and the length of a list of m sorts before it.
abbrev pub listed_record : List ℕ → ℕ → ℕ → List ℕ
listed_record a k m = take (3 + 2 * m) (set (set (set a 0 17) 1 k) 2 m)

listed-bytes : (a : List ℕ) (k m : ℕ) → Bytes a → 3 + 2 * m ≤ length a → listed_record a k m ≡ 17 ∷ k ∷ m ∷ numbers_bytes (numbers_at a 3 m)
listed-bytes [] k m h l = absurd (omega arith)
listed-bytes (x ∷ []) k m h l = absurd (omega arith)
listed-bytes (x ∷ y ∷ []) k m h l = absurd (omega arith)
listed-bytes (x ∷ y ∷ z ∷ t) k m h l =
    let a = x ∷ y ∷ z ∷ t in
    let n = length (numbers_bytes (numbers_at a 3 m)) in
    let e : 3 + 2 * m ≡ suc (suc (suc (2 * m))) = omega arith in
    let q : n ≡ 2 * m = length-numbers (numbers_at a 3 m) ∙ ap (λ (i : ℕ). 2 * i) (length-numbers_at a 3 m) in
    ap (λ (i : ℕ). take i (17 ∷ k ∷ m ∷ t)) e
    ∙ ap (λ (r : List ℕ). 17 ∷ k ∷ m ∷ r)
    (ap (λ (i : ℕ). take i t) (sym q) ∙ sym (stands-part (numbers_bytes (numbers_at a 3 m)) a 3 (omega (arith, q)) (numbers-stand a h 3 m)))

module _ (a : List ℕ) (k m : ℕ) (map : map_of k ≡ 17) (least : least_of k ≤ m) (most : m ≤ most_of k) (bytes : Bytes a) (long : 3 + 2 * m ≤ length a) where
  list-shape : Shape (fields k 0 0 (numbers_at a 3 m) [])
  unfolding map_of maps bit
  list-shape =
      let n = length-numbers_at a 3 m in
      plain-shape k 0 0 (numbers_at a 3 m) (λ q. absurd (omega arith)) (other-kind k 17 12 map (λ q. absurd (omega arith))) (λ q. refl) (λ q. refl)
      (λ q. absurd (true≢false (sym (ap (bit 16) map) ∙ q))) (omega arith) (omega arith) (omega (arith, n)) (omega (arith, n))

  list-whole : record_bytes (fields k 0 0 (numbers_at a 3 m) []) ≡ listed_record a k m
  list-whole =
      list-bytes k (numbers_at a 3 m) map
      ∙ ap (λ (i : ℕ). 17 ∷ k ∷ i ∷ numbers_bytes (numbers_at a 3 m)) (length-numbers_at a 3 m) ∙ sym (listed-bytes a k m bytes long)

  pub list-fresh : (n : ℕ) → ((j : ℕ) → j < m → u16_at a (3 + 2 * j) < n) → Fresh (listed_record a k m) n
  list-fresh n h =
      fresh-as (fields k 0 0 (numbers_at a 3 m) []) (listed_record a k m) list-whole list-shape n
      (λ j l. let o : j < m = omega (arith, length-numbers_at a 3 m) in omega (arith, number_at a 3 m j o, h j o))

  pub list-sort : (st : List Sort) → sort_of st (fields_at (listed_record a k m) 0) ≡ node k 0 0 (sorts_of st (numbers_at a 3 m))
  unfolding map_of maps
  list-sort st =
      sort-as (fields k 0 0 (numbers_at a 3 m) []) (listed_record a k m) list-whole list-shape st
      ∙ sort-other st (fields k 0 0 (numbers_at a 3 m) []) (other-kind k 17 2 map (λ q. absurd (omega arith))) (other-kind k 17 12 map (λ q. absurd (omega arith)))
