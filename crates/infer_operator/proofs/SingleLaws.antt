-- One argument, by its place; Real among the arguments; the element of an Array; the constants that arguments are.
use Prim.Native.Nat.{ℕ, zero, suc, ◌+◌, ◌*◌, ◌-◌, ◌≤◌, ◌<◌}
use mathlib.Core.Path.{◌≡◌, refl, sym, ap, subst, ◌∙◌}
use mathlib.Core.Bool.{Bool, true, false, ◌||◌}
use mathlib.Core.List.{List, [], ◌∷◌}
use mathlib.Core.Option.{Option}
use mathlib.Core.Logic.{◌⊎◌, inl, inr, ⊎_elim}
use native.Mathlib.Omega.{arith}
use native.Mathlib.Nat.{not-suc-le-zero}
use lib.ListN.{length, get_or}
use lib.Dec.{eqb}
use borrow.Author.Tests.{ne_eqb, eqb-true}
use Rattle.std.proofs.lemmas.Bool.{eqb-false}
use denote.Enum.Bare.{sameb}
use Rattle.std.specs.Prelude.{Result, Ok, Err, Option as Found, Some, None, ok_or, slice_get}
use Rattle.std.specs.List.{list_any}
use Rattle.record.specs.Number.{u16_at, numbers_at}
use Rattle.record.specs.Kinds.{sort_number}
use Rattle.record.specs.contracts.kinds.SortKind.{the_type}
use Rattle.record.specs.declared.kinds.SortKind.{SortKind}
use Rattle.record.specs.declared.kinds.SortKind.TheVariants.{Real}
use Rattle.record.specs.Sort.{Sort, Sorts, var, par, node, end, ◌then◌, real, kind_of, count, same}
use Rattle.record.specs.Record.{Fields, leaf, maps, map_of, bit, leasts, least_of, sorts_of}
use Rattle.record.specs.Decode.{fields_at, store_of, sort_at, Stored}
use Rattle.record.specs.Codec.{length-numbers_at}
use Rattle.record.specs.declared.SortRecord.{SortRecord}
use Rattle.store.specs.Entry.{EntryIs, EntryHas, KindHas}
use Rattle.store.specs.Walk.{walk-node}
use Rattle.record.specs.Store.{fields_of}
use Rattle.record.specs.Sizes.{Formed, sort-formed, length-indices}
use Rattle.record.specs.StoreLaws.{sort-node}
use Rattle.matching_tables.specs.KindTests.{same-kinds}
use Rattle.row_rules.specs.declared.Cause.{Cause}
use Rattle.row_rules.specs.declared.Cause.TheVariants.{Panics}
use Rattle.row_rules.specs.Verdict.{sort, refused}
use Rattle.row_rules.specs.Lists.{last_of}
use Rattle.infer_rules.specs.Inferred.{final_of, some_real, selected, element_of, constant_width}
use Rattle.row_answer.specs.AnswerLaws.{judged-as, answered-as, answer-known, made-refused}
use Rattle.row_answer.specs.Arguments.{integer_of, index_at, IndexIs, constants_from, constants_in}
use Rattle.infer_operator.specs.Asks.{Referring, sorts_in, args-refer}
use Rattle.infer_operator.specs.Vectors.{vector_of}
use Rattle.infer_operator.specs.Single.{nth_of, last_from, ArgumentHas, LastHas, ElementHas}

---------------------------------------------------------------- by place
module _ (b p : List ℕ) (n : ℕ) (a : List ℕ) where
  pub nth-none : (x m i : ℕ) → m ≤ i → nth_of i (sorts_in b p n a x m) ≡ refused Panics
  unfolding nth_of sorts_of numbers_at
  nth-none x zero i h = refl
  nth-none x (suc m) zero h = absurd (not-suc-le-zero h)
  nth-none x (suc m) (suc i) h = nth-none (x + 2) m i (omega arith)

  pub nth-some : (x m i : ℕ) → i < m → nth_of i (sorts_in b p n a x m) ≡ sort (sort_at b p n (u16_at a (x + 2 * i)))
  unfolding nth_of sorts_of numbers_at sort_at
  nth-some x zero i h = absurd (not-suc-le-zero h)
  nth-some x (suc m) zero h = let e : x ≡ x + 2 * 0 = omega arith in ap (λ (y : ℕ). sort (get_or (store_of b p n) (u16_at a y) leaf)) e
  nth-some x (suc m) (suc i) h =
      let e : x + 2 + 2 * i ≡ x + 2 * suc i = omega arith in
      nth-some (x + 2) m i (omega arith) ∙ ap (λ (y : ℕ). sort (get_or (store_of b p n) (u16_at a y) leaf)) e

  final-some : (x m : ℕ) → final_of (sorts_in b p n a x (suc m)) ≡ sort (sort_at b p n (u16_at a (x + 2 * m)))
  unfolding sorts_of numbers_at sort_at last_of
  final-some x zero = let e : x ≡ x + 2 * 0 = omega arith in ap (λ (y : ℕ). sort (get_or (store_of b p n) (u16_at a y) leaf)) e
  final-some x (suc m) =
      let e : x + 2 + 2 * m ≡ x + 2 * suc m = omega arith in
      final-some (x + 2) m ∙ ap (λ (y : ℕ). sort (get_or (store_of b p n) (u16_at a y) leaf)) e

  pub last_none : (x m i : ℕ) → m ≤ i → last_from i (sorts_in b p n a x m) ≡ refused Panics
  unfolding last_from sorts_of numbers_at
  last_none x zero zero h = refl
  last_none x zero (suc i) h = refl
  last_none x (suc m) zero h = absurd (not-suc-le-zero h)
  last_none x (suc m) (suc i) h = last_none (x + 2) m i (omega arith)

  last-behind : (x m i : ℕ) → i < suc m → last_from i (sorts_in b p n a x (suc m)) ≡ sort (sort_at b p n (u16_at a (x + 2 * m)))
  unfolding last_from sorts_of numbers_at sort_at
  last-behind x m zero h = final-some x m
  last-behind x zero (suc i) h = absurd (omega arith)
  last-behind x (suc m) (suc i) h =
      let e : x + 2 + 2 * m ≡ x + 2 * suc m = omega arith in
      last-behind (x + 2) m i (omega arith) ∙ ap (λ (y : ℕ). sort (get_or (store_of b p n) (u16_at a y) leaf)) e

  -- The last argument stands two bytes before the end.
  pub last_found : (m i : ℕ) → i < m → last_from i (sorts_in b p n a 3 m) ≡ sort (sort_at b p n (u16_at a (1 + 2 * m)))
  last_found zero i h = absurd (not-suc-le-zero h)
  last_found (suc m) i h =
      let e : 3 + 2 * m ≡ 1 + 2 * suc m = omega arith in
      last-behind 3 m i h ∙ ap (λ (y : ℕ). sort (sort_at b p n (u16_at a y))) e

pub last-known : {b p : List ℕ} {n : ℕ} {a : List ℕ} {m : ℕ} → Referring b p n a 3 m → 0 < m → u16_at a (1 + 2 * m) < n
last-known {b} {p} {n} {a} {m} h more =
    let e : 3 + 2 * (m - 1) ≡ 1 + 2 * m = omega arith in
    subst (λ (y : ℕ). u16_at a y < n) e (h.below (m - 1) (omega arith))

-- THE ARGUMENT that was found in a place, or none; and the last one.
nth-slice : (a : List ℕ) (x m i : ℕ) → (m ≤ i) × (slice_get (numbers_at a x m) i ≡ None) ⊎ (i < m) × (slice_get (numbers_at a x m) i ≡ Some (u16_at a (x + 2 * i)))
unfolding numbers_at
nth-slice a x zero i = inl (omega arith, refl)
nth-slice a x (suc m) zero = let e : x ≡ x + 2 * 0 = omega arith in inr (omega arith, ap (λ (y : ℕ). Some (u16_at a y)) e)
nth-slice a x (suc m) (suc i) =
    let e : x + 2 + 2 * i ≡ x + 2 * suc i = omega arith in
    ⊎_elim (λ (h : (m ≤ i) × (slice_get (numbers_at a (x + 2) m) i ≡ None)). inl (omega (arith, h.0), h.1))
    (λ (h : (i < m) × (slice_get (numbers_at a (x + 2) m) i ≡ Some (u16_at a (x + 2 + 2 * i)))). inr (omega (arith, h.0), h.1 ∙ ap (λ (y : ℕ). Some (u16_at a y)) e))
    (nth-slice a (x + 2) m i)

pub argument-has : (a : List ℕ) (m i : ℕ) {r : Result ℕ Cause} → r ≡ ok_or (slice_get (numbers_at a 3 m) i) Panics → ArgumentHas a m i r
argument-has a m i {r} e b p ix n u h =
    ⊎_elim
    (λ (g : (m ≤ i) × (slice_get (numbers_at a 3 m) i ≡ None)).
    answered-as (ap (λ (o : Result ℕ Cause). record { verdict = o; count = n; used = u }) (e ∙ ap (λ (o : Found ℕ). ok_or o Panics) g.1))
    (judged-as (nth-none b p n a 3 m i g.0) (made-refused b p ix n u h.good Panics)))
    (λ (g : (i < m) × (slice_get (numbers_at a 3 m) i ≡ Some (u16_at a (3 + 2 * i)))).
    answered-as (ap (λ (o : Result ℕ Cause). record { verdict = o; count = n; used = u }) (e ∙ ap (λ (o : Found ℕ). ok_or o Panics) g.1))
    (judged-as (nth-some b p n a 3 m i g.0) (answer-known b p ix n u h.good (u16_at a (3 + 2 * i)) (h.below i g.0))))
    (nth-slice a 3 m i)

pub last-none : (a : List ℕ) (m i : ℕ) → m ≤ i → LastHas a m i (Err Panics)
last-none a m i l b p ix n u h = judged-as (last_none b p n a 3 m i l) (made-refused b p ix n u h.good Panics)

pub last-has : (a : List ℕ) (m i : ℕ) {k : ℕ} → i < m → k ≡ u16_at a (3 + 2 * (m - 1)) → LastHas a m i (Ok k)
last-has a m i {k} l e b p ix n u h =
    let o : 3 + 2 * (m - 1) ≡ 1 + 2 * m = omega arith in
    let q : k ≡ u16_at a (1 + 2 * m) = e ∙ ap (u16_at a) o in
    judged-as (last_found b p n a m i l ∙ ap (λ (j : ℕ). sort (sort_at b p n j)) (sym q))
    (answer-known b p ix n u h.good k (omega (arith, q, last-known (args-refer b p ix n u a m h) (omega arith))))

---------------------------------------------------------------- Real
-- A sort of the store of the kind Real is Real.
pub no-parts : (ss : Sorts) → count ss ≡ 0 → ss ≡ end
unfolding count
no-parts end h = refl
no-parts (s then ss) h = absurd (omega arith)

real-plain : (s : Sort) → Formed s → kind_of s ≡ 5 → s ≡ real
unfolding map_of maps bit fields_of
real-plain (var v) f h = absurd (omega arith)
real-plain (par ns b) f h = absurd (omega arith)
real-plain (node k a w ss) f h =
    let one : map_of k ≡ 1 = ap map_of h in
    let na : a ≡ 0 = f.shape.proper.no_name (ap (bit 2) one) in
    let nw : w ≡ 0 = f.shape.proper.no_number (ap (bit 4) one) in
    let nl : ss ≡ end = no-parts ss (sym (length-indices ss []) ∙ ap length (f.shape.proper.no_list (ap (bit 16) one))) in
    ap (λ (i : ℕ). node i a w ss) h ∙ ap (λ (i : ℕ). node 5 i w ss) na ∙ ap (λ (i : ℕ). node 5 0 i ss) nw ∙ ap (λ (i : Sorts). node 5 0 0 i) nl

real_same : {s : Sort} → Formed s → kind_of s ≡ 5 → same s real ≡ true
unfolding same
real_same {s} f h = ap (λ (t : Sort). same t real) (real-plain s f h)

real-other : (s : Sort) → (kind_of s ≡ 5 → ⊥) → same s real ≡ false
unfolding same
real-other (var v) h = refl
real-other (par ns b) h = refl
real-other (node k a w ss) h = rw (ne_eqb k 5 h) refl

stored-formed : {b p : List ℕ} {n : ℕ} (k : ℕ) → Stored b p n → k < n → Formed (sort_at b p n k)
stored-formed {b} {p} {n} k st l = subst Formed (sym (sort-node b p n k st l)) (sort-formed (store_of b p n) (fields_at b (get_or p k 0)) (st.each k l).shape)

real-test : (s : Sort) → Formed s → same s real ≡ eqb (kind_of s) 5
real-test s f = go (eqb (kind_of s) 5) refl
  where
    go : (t : Bool) → eqb (kind_of s) 5 ≡ t → same s real ≡ t
    go true e = real_same f (eqb-true (kind_of s) 5 e)
    go false e = real-other s (eqb-false (kind_of s) 5 e)

-- The test of a kind that was read.
pub is-real : (b p : List ℕ) (n k : ℕ) → Stored b p n → k < n → (r : SortKind) → KindHas b p k (sort_number r) → sameb the_type r Real ≡ same (sort_at b p n k) real
is-real b p n k st l r h = same-kinds r Real ∙ ap (λ (i : ℕ). eqb i 5) (h n st l) ∙ sym (real-test (sort_at b p n k) (stored-formed k st l))

pub some-any : (b p : List ℕ) (n : ℕ) (ks : List ℕ) → some_real (sorts_of (store_of b p n) ks) ≡ list_any (λ k. same (sort_at b p n k) real) ks
unfolding some_real sorts_of sort_at
some-any b p n [] = refl
some-any b p n (k ∷ ks) = ap (λ (t : Bool). same (get_or (store_of b p n) k leaf) real || t) (some-any b p n ks)

---------------------------------------------------------------- Select
-- The answer, by what is selected of whatever store.
module _ {b p a : List ℕ} {m : ℕ} where
  pub element-panics : ((n : ℕ) → Referring b p n a 3 m → selected (sorts_in b p n a 3 m) ≡ refused Panics) → ElementHas b p a m (Err Panics)
  element-panics g ix n u h = judged-as (g n (args-refer b p ix n u a m h)) (made-refused b p ix n u h.good Panics)

  pub element-found : {v : ℕ} → ((n : ℕ) → Referring b p n a 3 m → (v < n) × (selected (sorts_in b p n a 3 m) ≡ sort (sort_at b p n v))) → ElementHas b p a m (Ok v)
  element-found {v} g ix n u h = let is = g n (args-refer b p ix n u a m h) in judged-as is.1 (answer-known b p ix n u h.good v is.0)

-- The second part of the Array k, by what was read of it; another sort has none.
module _ {b p : List ℕ} {n k : ℕ} (st : Stored b p n) (known : k < n) (r : SortRecord) (q : EntryHas b p k r) where
  read : EntryIs b p n k r
  read = q n st known

  two-parts : sort_number r.kind ≡ 8 → 2 ≤ r.parts.count
  unfolding least_of leasts
  two-parts i =
      let f = fields_at b (get_or p k 0) in
      let kind : f.kind ≡ 8 = ap (λ (g : Fields). g.kind) read.place.same ∙ i in
      let least : 2 ≤ length f.list = subst (λ (j : ℕ). least_of j ≤ length f.list) kind (st.each k known).shape.least in
      omega (arith, ap (λ (g : Fields). length g.list) read.place.same, length-numbers_at b r.parts.at r.parts.count)

  pub element-in : sort_number r.kind ≡ 8 → r.parts.at + 2 * 1 + 2 ≤ length b
  element-in i = omega (arith, two-parts i, read.place.list)

  pub element-known : sort_number r.kind ≡ 8 → {v : ℕ} → v ≡ u16_at b (r.parts.at + 2 * 1) → v < n
  element-known i {v} z = omega (arith, z, read.below 1 (two-parts i), known)

  element-of : (ss : List Sort) (x c : ℕ) → 2 ≤ c → element_of (node 8 r.name r.number (sorts_of ss (numbers_at b x c))) ≡ sort (get_or ss (u16_at b (x + 2)) leaf)
  unfolding sorts_of numbers_at
  element-of ss x zero l = absurd (not-suc-le-zero l)
  element-of ss x (suc zero) l = absurd (omega arith)
  element-of ss x (suc (suc c)) l = refl

  pub element-is : (i : sort_number r.kind ≡ 8) {v : ℕ} → v ≡ u16_at b (r.parts.at + 2 * 1) → element_of (sort_at b p n k) ≡ sort (sort_at b p n v)
  unfolding sort_at
  element-is i {v} z =
      let o : r.parts.at + 2 * 1 ≡ r.parts.at + 2 = omega arith in
      ap element_of (walk-node b p n k st known r read (λ y. absurd (omega arith)) (λ y. absurd (omega arith))
      ∙ ap (λ (j : ℕ). node j r.name r.number (sorts_of (store_of b p n) (numbers_at b r.parts.at r.parts.count))) i)
      ∙ element-of (store_of b p n) r.parts.at r.parts.count (two-parts i)
      ∙ ap (λ (j : ℕ). sort (get_or (store_of b p n) j leaf)) (sym (z ∙ ap (u16_at b) o))

  not-array : (s : Sort) → (kind_of s ≡ 8 → ⊥) → element_of s ≡ refused Panics
  not-array (var v) d = refl
  not-array (par ns t) d = refl
  not-array (node c g w end) d = refl
  not-array (node c g w (x then end)) d = refl
  not-array (node c g w (x then (y then ss))) d = rw (ne_eqb c 8 d) refl

  pub element-none : (sort_number r.kind ≡ 8 → ⊥) → element_of (sort_at b p n k) ≡ refused Panics
  element-none d = not-array (sort_at b p n k) (λ z. d (read.kind ∙ z))

---------------------------------------------------------------- constants
module _ (sheet starts : List ℕ) (x : ℕ) where
  pub written_none : (m : ℕ) → m < 2 → constant_width (constants_in sheet starts x m) ≡ refused Panics
  unfolding constants_from numbers_at
  written_none zero l = refl
  written_none (suc zero) l = refl
  written_none (suc (suc i)) l = absurd (omega arith)

  pub width-second : (i : ℕ) → 2 ≤ i → {r : Found ℕ} → IndexIs sheet starts (x + 2) r → constant_width (constants_in sheet starts x i) ≡ vector_of r
  unfolding constants_from numbers_at
  width-second zero l h = absurd (not-suc-le-zero l)
  width-second (suc zero) l h = absurd (omega arith)
  width-second (suc (suc i)) l {r} h =
      let cs = constants_from sheet starts (numbers_at sheet (x + 2 + 2) i) in
      ap (λ (o : Option ℕ). constant_width (index_at sheet starts x ∷ (o ∷ cs))) (sym h.is) ∙ go r cs
    where
      go : (o : Found ℕ) (cs : List (Option ℕ)) → constant_width (index_at sheet starts x ∷ (integer_of o ∷ cs)) ≡ vector_of o
      go None cs = refl
      go (Some w) cs = refl
