-- The law of the store: each sort is the sort of its record over the whole store, and two sorts of a store of
-- distinct records are equal exactly when their numbers are.
use Prim.Native.Nat.{ℕ, zero, suc, ◌+◌, ◌-◌, ◌<◌}
use Rattle.std.proofs.Math.Path.{◌≡◌, refl, ap₂}
use Rattle.std.proofs.Common.{sym, ap, subst, ◌∙◌, ⊎_elim, arith, not-suc-le-zero, eq-or-lt_of_le, le_of_suc-le-suc, lt_trans, length-append}
use mathlib.Core.List.{List, [], ◌∷◌}
use Rattle.std.specs.Prelude.{length}
use Rattle.std.proofs.Math.ListN.{get_or, get_or-append}
use Rattle.std.proofs.lemmas.List.{get_or_at}
use Rattle.record.specs.Number.{u16_at, numbers_at}
use Rattle.record.specs.Sort.{Sort, var, par, node, end, ◌then◌}
use Rattle.record.specs.Record.{Fields, leaf, sorts_of, sort_of}
use Rattle.record.specs.Decode.{fields_at, Shape, Below, store_of, sort_at, Stored, Distinct}
use Rattle.record.specs.Codec.{fields-equal}
use Rattle.record.specs.Forms.{Which, is_var, is_par, is_node, which, sort-var, sort-par, sort-other, var-number, var-list, var-names, par-name, par-number, par-one, other-names, one-element}

-- Sorts of references that two stores agree on.
below_rest : (r : ℕ) (rs : List ℕ) (k : ℕ) → ((j : ℕ) → j < length (r ∷ rs) → get_or (r ∷ rs) j 0 < k) → (j : ℕ) → j < length rs → get_or rs j 0 < k
below_rest r rs k h j l = h (suc j) (omega arith)

pub sorts-agree : (st st' : List Sort) (k : ℕ) → ((i : ℕ) → i < k → get_or st i leaf ≡ get_or st' i leaf)
    → (rs : List ℕ) → ((j : ℕ) → j < length rs → get_or rs j 0 < k) → sorts_of st rs ≡ sorts_of st' rs
unfolding sorts_of
sorts-agree st st' k same [] h = refl
sorts-agree st st' k same (r ∷ rs) h = ap₂ ◌then◌ (same r (h 0 (omega arith))) (sorts-agree st st' k same rs (below_rest r rs k h))

pub sort-agree : (st st' : List Sort) (k : ℕ) → ((i : ℕ) → i < k → get_or st i leaf ≡ get_or st' i leaf)
    → (f : Fields) → Shape f → Below f k → sort_of st f ≡ sort_of st' f
sort-agree st st' k same f s h = go (which f.kind)
  where
    go : Which f.kind → sort_of st f ≡ sort_of st' f
    go (is_var e) = sort-var st f e ∙ sym (sort-var st' f e)
    go (is_par e) =
        sort-par st f e
        ∙ ap (par f.names) (same (get_or f.list 0 0) (h 0 (omega (arith, par-one f s e))))
        ∙ sym (sort-par st' f e)
    go (is_node a c) =
        sort-other st f a c
        ∙ ap (node f.kind f.name f.number) (sorts-agree st st' k same f.list h)
        ∙ sym (sort-other st' f a c)

pub store_of-length : (b p : List ℕ) (n : ℕ) → length (store_of b p n) ≡ n
unfolding store_of
store_of-length b p zero = refl
store_of-length b p (suc n) =
    omega (arith, length-append (store_of b p n) (sort_of (store_of b p n) (fields_at b (get_or p n 0)) ∷ []), store_of-length b p n)

-- The sort k was made over the sorts before it.
pub sort-made : (b p : List ℕ) (k n : ℕ) → k < n → sort_at b p n k ≡ sort_of (store_of b p k) (fields_at b (get_or p k 0))
unfolding store_of sort_at
sort-made b p k zero h = absurd (not-suc-le-zero h)
sort-made b p k (suc n) h =
    ⊎_elim
    (λ (e : k ≡ n).
    subst (λ (i : ℕ). get_or (store_of b p (suc n)) i leaf ≡ sort_of (store_of b p i) (fields_at b (get_or p i 0))) (sym e)
    (get_or_at (store_of b p n) (sort_of (store_of b p n) (fields_at b (get_or p n 0))) [] leaf n (store_of-length b p n)))
    (λ (l : k < n).
    get_or-append (store_of b p n) (sort_of (store_of b p n) (fields_at b (get_or p n 0)) ∷ []) leaf k
    (subst (λ (i : ℕ). k < i) (sym (store_of-length b p n)) l)
    ∙ sort-made b p k n l)
    (eq-or-lt_of_le (le_of_suc-le-suc h))

-- THE LAW OF THE STORE: the sort k is the sort of its record over the whole store.
pub sort-node : (b p : List ℕ) (n k : ℕ) → Stored b p n → k < n → sort_at b p n k ≡ sort_of (store_of b p n) (fields_at b (get_or p k 0))
unfolding sort_at
sort-node b p n k s h =
    sort-made b p k n h
    ∙ sort-agree (store_of b p k) (store_of b p n) k
    (λ i l. sort-made b p i k l ∙ sym (sort-made b p i n (lt_trans l h)))
    (fields_at b (get_or p k 0)) (s.each k h).shape (s.each k h).below

-- The law of a list of references.
pub parts-end : (st : List Sort) (b : List ℕ) (at n : ℕ) → n ≡ 0 → sorts_of st (numbers_at b at n) ≡ end
unfolding sorts_of numbers_at
parts-end st b at n e = rw e

pub parts_more : (st : List Sort) (b : List ℕ) (x n : ℕ) → 0 < n → sorts_of st (numbers_at b x n) ≡ get_or st (u16_at b x) leaf then sorts_of st (numbers_at b (x + 2) (n - 1))
unfolding sorts_of numbers_at
parts_more st b x zero h = absurd (not-suc-le-zero h)
parts_more st b x (suc n) h =
    let e : n ≡ suc n - 1 = omega arith in
    ap (λ (i : ℕ). get_or st (u16_at b x) leaf then sorts_of st (numbers_at b (x + 2) i)) e

-- Equal sorts have equal records, where the sorts that they refer to are numbered one to one.
module _ (st : List Sort) (k n : ℕ) (one : (r s : ℕ) → r < k → s < n → get_or st r leaf ≡ get_or st s leaf → r ≡ s) where
  lists-one : (rs ss : List ℕ) → ((j : ℕ) → j < length rs → get_or rs j 0 < k) → ((j : ℕ) → j < length ss → get_or ss j 0 < n) → sorts_of st rs ≡ sorts_of st ss → rs ≡ ss
  unfolding sorts_of
  lists-one [] [] h l e = refl
  lists-one [] (s ∷ ss) h l e = let z : ◌≡◌ {A = ℕ} 0 1 = cc in absurd (omega arith)
  lists-one (r ∷ rs) [] h l e = let z : ◌≡◌ {A = ℕ} 0 1 = cc in absurd (omega arith)
  lists-one (r ∷ rs) (s ∷ ss) h l e =
      let first : get_or st r leaf ≡ get_or st s leaf = cc in
      let others : sorts_of st rs ≡ sorts_of st ss = cc in
      ap₂ (λ (i : ℕ) (is : List ℕ). i ∷ is) (one r s (h 0 (omega arith)) (l 0 (omega arith)) first)
      (lists-one rs ss (below_rest r rs k h) (below_rest s ss n l) others)

module _ (st : List Sort) (k n : ℕ) (one : (r s : ℕ) → r < k → s < n → get_or st r leaf ≡ get_or st s leaf → r ≡ s)
    (f g : Fields) (sf : Shape f) (sg : Shape g) (bf : Below f k) (bg : Below g n) (e : sort_of st f ≡ sort_of st g) where
  one-by : Which f.kind → Which g.kind → f ≡ g
  one-by (is_var p) (is_var q) =
      let d : var f.name ≡ var g.name = sym (sort-var st f p) ∙ e ∙ sort-var st g q in
      let a : f.name ≡ g.name = cc in
      fields-equal f.kind f.name f.number f.list f.names g.kind g.name g.number g.list g.names
      (p ∙ sym q) a (var-number f sf.proper p ∙ sym (var-number g sg.proper q))
      (var-list f sf.proper p ∙ sym (var-list g sg.proper q)) (var-names f sf.proper p ∙ sym (var-names g sg.proper q))
  one-by (is_var p) (is_par q) = let d = sym (sort-var st f p) ∙ e ∙ sort-par st g q in let z : ◌≡◌ {A = ℕ} 0 1 = cc in absurd (omega arith)
  one-by (is_var p) (is_node q r) = let d = sym (sort-var st f p) ∙ e ∙ sort-other st g q r in let z : ◌≡◌ {A = ℕ} 0 1 = cc in absurd (omega arith)
  one-by (is_par p) (is_var q) = let d = sym (sort-par st f p) ∙ e ∙ sort-var st g q in let z : ◌≡◌ {A = ℕ} 0 1 = cc in absurd (omega arith)
  one-by (is_par p) (is_par q) =
      let d : par f.names (get_or st (get_or f.list 0 0) leaf) ≡ par g.names (get_or st (get_or g.list 0 0) leaf) = sym (sort-par st f p) ∙ e ∙ sort-par st g q in
      let a : f.names ≡ g.names = cc in
      let body : get_or st (get_or f.list 0 0) leaf ≡ get_or st (get_or g.list 0 0) leaf = cc in
      let number : get_or f.list 0 0 ≡ get_or g.list 0 0 =
      one (get_or f.list 0 0) (get_or g.list 0 0) (bf 0 (omega (arith, par-one f sf p))) (bg 0 (omega (arith, par-one g sg q))) body in
      fields-equal f.kind f.name f.number f.list f.names g.kind g.name g.number g.list g.names
      (p ∙ sym q) (par-name f sf.proper p ∙ sym (par-name g sg.proper q)) (par-number f sf.proper p ∙ sym (par-number g sg.proper q))
      (one-element f.list (par-one f sf p) ∙ ap (λ (i : ℕ). i ∷ []) number ∙ sym (one-element g.list (par-one g sg q))) a
  one-by (is_par p) (is_node q r) = let d = sym (sort-par st f p) ∙ e ∙ sort-other st g q r in let z : ◌≡◌ {A = ℕ} 0 1 = cc in absurd (omega arith)
  one-by (is_node p o) (is_var q) = let d = sym (sort-other st f p o) ∙ e ∙ sort-var st g q in let z : ◌≡◌ {A = ℕ} 0 1 = cc in absurd (omega arith)
  one-by (is_node p o) (is_par q) = let d = sym (sort-other st f p o) ∙ e ∙ sort-par st g q in let z : ◌≡◌ {A = ℕ} 0 1 = cc in absurd (omega arith)
  one-by (is_node p o) (is_node q r) =
      let d : node f.kind f.name f.number (sorts_of st f.list) ≡ node g.kind g.name g.number (sorts_of st g.list) = sym (sort-other st f p o) ∙ e ∙ sort-other st g q r in
      let d1 : f.kind ≡ g.kind = cc in
      let d2 : f.name ≡ g.name = cc in
      let d3 : f.number ≡ g.number = cc in
      let d4 : sorts_of st f.list ≡ sorts_of st g.list = cc in
      fields-equal f.kind f.name f.number f.list f.names g.kind g.name g.number g.list g.names
      d1 d2 d3 (lists-one st k n one f.list g.list bf bg d4)
      (other-names f sf.proper sf.known o ∙ sym (other-names g sg.proper sg.known r))

  pub fields-one : f ≡ g
  fields-one = one-by (which f.kind) (which g.kind)

module _ (b p : List ℕ) (n : ℕ) (stored : Stored b p n) (distinct : Distinct b p n) where
  one_below : (m i j : ℕ) → i < m → i < n → j < n → sort_at b p n i ≡ sort_at b p n j → i ≡ j
  unfolding Distinct sort_at
  one_below zero i j h hi hj e = absurd (not-suc-le-zero h)
  one_below (suc m) i j h hi hj e =
      distinct i j hi hj
      (fields-one (store_of b p n) i n (λ r s hr hs q. one_below m r s (omega arith) (omega arith) hs q)
      (fields_at b (get_or p i 0)) (fields_at b (get_or p j 0)) (stored.each i hi).shape (stored.each j hj).shape
      (stored.each i hi).below (λ l q. omega (arith, (stored.each j hj).below l q))
      (sym (sort-node b p n i stored hi) ∙ e ∙ sort-node b p n j stored hj))

  -- TWO SORTS ARE EQUAL EXACTLY WHEN THEIR NUMBERS ARE.
  pub sorts-one : (i j : ℕ) → i < n → j < n → sort_at b p n i ≡ sort_at b p n j → i ≡ j
  sorts-one i j hi hj e = one_below (suc i) i j (omega arith) hi hj e

  -- A sort of the store that a record stands for has the record's fields.
  pub same-record : (f : Fields) → Shape f → Below f n → (k : ℕ) → k < n → sort_at b p n k ≡ sort_of (store_of b p n) f → fields_at b (get_or p k 0) ≡ f
  unfolding sort_at
  same-record f s h k l e =
      fields-one (store_of b p n) n n (λ i j hi hj q. sorts-one i j hi hj q)
      (fields_at b (get_or p k 0)) f (stored.each k l).shape s
      (λ j q. omega (arith, (stored.each k l).below j q)) h
      (sym (sort-node b p n k stored l) ∙ e)
