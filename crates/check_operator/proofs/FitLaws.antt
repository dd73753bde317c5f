-- The fits of the rules, by what the scans and the entries of the store told.
use Prim.Native.Nat.{ℕ, zero, suc, ◌+◌, ◌<◌}
use mathlib.Core.Path.{◌≡◌, refl, sym, ap, ap₂, subst, ◌∙◌}
use mathlib.Core.Bool.{Bool, true, false, cond, ◌&&◌, ◌||◌, false≢true}
use mathlib.Core.List.{List}
use native.Mathlib.Omega.{arith}
use lib.ListN.{length, get_or}
use lib.Dec.{eqb, leb}
use borrow.Author.Tests.{eq-eqb, eqb-true, ne_eqb, leb-true}
use Rattle.std.specs.Bool.{then_some}
use Rattle.std.specs.Option.{unwrap_or}
use Rattle.std.specs.Prelude.{Option, Some, None}
use Rattle.record.specs.Number.{u16_at, numbers_at}
use Rattle.record.specs.Kinds.{sort_number}
use Rattle.record.specs.KindLaws.{sort_number-same}
use Rattle.record.specs.declared.kinds.SortKind.{SortKind}
use Rattle.record.specs.declared.kinds.SortKind.TheVariants.{Bool as SortBool, BitVec as SortBitVec}
use Rattle.record.specs.Sort.{Sort, Sorts, node, end, ◌then◌, bool, array, bitvec, kind_of, number_in, same, same_all}
use Rattle.record.specs.SortLaws.{same-sound, same-complete, same-swap}
use Rattle.record.specs.Record.{Fields, maps, map_of, leasts, least_of, mosts, most_of, sorts_of}
use Rattle.record.specs.Decode.{fields_at, store_of, sort_at, Stored, Distinct}
use Rattle.record.specs.Codec.{length-numbers_at}
use Rattle.record.specs.StoreLaws.{sorts-one}
use Rattle.record.specs.Cases.{and_left, and_right, both_ways, false-second}
use Rattle.record.specs.declared.SortRecord.{SortRecord}
use Rattle.store.specs.Entry.{EntryIs, EntryHas}
use Rattle.row_rules.specs.declared.Cause.TheVariants.{Misfit}
use Rattle.row_rules.specs.Verdict.{sort, need}
use Rattle.check_rules.specs.Forms.{all_same}
use Rattle.check_rules.specs.Rank.{vector}
use Rattle.check_rules.specs.Checked.{only_of}
use Rattle.check_operator.specs.declared.op.Fit.{Fit}
use Rattle.check_operator.specs.declared.op.Fit.TheVariants.{Known, Plain, Width}
use Rattle.check_operator.specs.Rule.{Rule, All, Equal, Choose, Vectors, Concat, plain_sort, numbers_result, vectors_result, choosing, concatenated, fitted, plain_kind, one_or_two, well_rule, counts_for}
use Rattle.check_operator.specs.Numbered.{kind_in, plain_result, result_number, fixed_numbers}
use Rattle.check_operator.specs.Contract.{Over, args_of, KindIs, SameHas, fit_verdict, fits_verdict, FitOk, FitsOk, FitIs, FitAsks, FitHas}
use Rattle.row_answer.specs.StoredKinds.{kind-parts}
use Rattle.check_operator.specs.KindLaws.{vector-small, kind-vector, kind-same}
use Rattle.check_operator.proofs.ArgumentLaws.{plain_sorts, fixed-plain}

---------------------------------------------------------------- a test by which a rule fits
module _ {n : ℕ} {st : List Sort} {ts : Sorts} (f : Fit) {x : Option Fit} (t : Bool) (e : x ≡ then_some t f) where
  -- The test s of the definition is the one that the code made; where it holds, f is the fit.
  pub by_test : {s : Bool} (v : Sort) → t ≡ s → fit_verdict st ts f ≡ sort v → (t ≡ true → FitOk n f) → FitIs n st ts (need s Misfit (sort v)) x
  by_test {s} v q h ok = subst (λ (c : Bool). FitIs n st ts (need c Misfit (sort v)) x) q (go t e ok)
    where
      go : (c : Bool) → x ≡ then_some c f → (c ≡ true → FitOk n f) → FitIs n st ts (need c Misfit (sort v)) x
      go true g k = record { is = ap (fits_verdict st ts) g ∙ h; ok = subst (FitsOk n) (sym g) (k refl) }
      go false g k = record { is = ap (fits_verdict st ts) g; ok = subst (FitsOk n) (sym g) tt }

-- The same of one fit, and of none.
pub fits : {n : ℕ} {st : List Sort} {ts : Sorts} {f : Fit} {s : Bool} (v : Sort) → true ≡ s → fit_verdict st ts f ≡ sort v → FitOk n f → FitIs n st ts (need s Misfit (sort v)) (Some f)
fits {f = f} v q h ok = by_test f true refl v q h (λ e. ok)

pub no_fit : {n : ℕ} {st : List Sort} {ts : Sorts} {s : Bool} (v : Sort) → false ≡ s → FitIs n st ts (need s Misfit (sort v)) None
no_fit {n} {st} {ts} {s} v q = subst (λ (c : Bool). FitIs n st ts (need c Misfit (sort v)) None) q (record { is = refl; ok = tt })

-- The value of `t && x`, by the way that was taken.
pub and_then : (t x : Bool) {f : Bool} → t ≡ true → f ≡ x → f ≡ (t && x)
and_then t x e h = h ∙ sym (ap (◌&& x) e)

pub and_else : (t x : Bool) {f : Bool} → t ≡ false → f ≡ t → f ≡ (t && x)
and_else t x e h = h ∙ e ∙ sym (ap (◌&& x) e)

plain_map : (k : ℕ) → plain_kind k ≡ true → map_of k ≡ 1
plain_map k e = eqb-true (map_of k) 1 e

-- Two numbers of a store are the same sort where they are equal.
pub numbers-same : {b p : List ℕ} {n : ℕ} (i j : ℕ) → Stored b p n → Distinct b p n → i < n → j < n → same (sort_at b p n i) (sort_at b p n j) ≡ eqb i j
numbers-same {b} {p} {n} i j s d hi hj =
    both_ways (same (sort_at b p n i) (sort_at b p n j)) (eqb i j)
    (λ e. eq-eqb i j (sorts-one b p n s d i j hi hj (same-sound (sort_at b p n i) (sort_at b p n j) e)))
    (λ e. same-complete (sort_at b p n i) (sort_at b p n j) (ap (sort_at b p n) (eqb-true i j e)))

---------------------------------------------------------------- three arguments or fewer
module _ (b p : List ℕ) (n : ℕ) (a : List ℕ) where
  pub one-arg : {m : ℕ} → m ≡ 1 → args_of b p n a m ≡ sort_at b p n (u16_at a 3) then end
  unfolding sort_at sorts_of numbers_at
  one-arg {m} e = ap (args_of b p n a) e

  pub two-args : {m : ℕ} → m ≡ 2 → args_of b p n a m ≡ sort_at b p n (u16_at a 3) then sort_at b p n (u16_at a 5) then end
  unfolding sort_at sorts_of numbers_at
  two-args {m} e = ap (args_of b p n a) e

  pub three-args : {m : ℕ} → m ≡ 3 → args_of b p n a m ≡ sort_at b p n (u16_at a 3) then sort_at b p n (u16_at a 5) then sort_at b p n (u16_at a 7) then end
  unfolding sort_at sorts_of numbers_at
  three-args {m} e = ap (args_of b p n a) e

  pub first-arg : (m : ℕ) → 0 < m → only_of (args_of b p n a m) ≡ sort_at b p n (u16_at a 3)
  unfolding sort_at sorts_of numbers_at
  first-arg zero l = absurd (omega arith)
  first-arg (suc m) l = refl

---------------------------------------------------------------- the kind of a result
pub result-is : (o : Option SortKind) (k : SortKind) → map_of (sort_number k) ≡ 1 → eqb (result_number o) 0 || plain_kind (result_number o) ≡ true
    → (map_of (sort_number (unwrap_or o k)) ≡ 1) × (plain_sort (sort_number (unwrap_or o k)) ≡ numbers_result (result_number o) (plain_sort (sort_number k)))
unfolding map_of maps
result-is None k e h = (e, refl)
result-is (Some i) k e h = go (sort_number i) h
  where
    go : (j : ℕ) → eqb (plain_result j) 0 || plain_kind (plain_result j) ≡ true → (map_of j ≡ 1) × (plain_sort j ≡ numbers_result (plain_result j) (plain_sort (sort_number k)))
    go zero w = absurd (false≢true w)
    go (suc j) w = (plain_map (suc j) (sym (ap (λ (c : Bool). c || plain_kind (suc j)) (ne_eqb (suc j) 0 (λ e. absurd (omega arith)))) ∙ w), refl)

kind-result : (i : SortKind) → (i ≡ SortBitVec → ⊥) → eqb (result_number (Some i)) 0 || eqb (result_number (Some i)) 9 || plain_kind (result_number (Some i)) ≡ true → (s : Sort)
    → (map_of (sort_number i) ≡ 1) × (sort (vectors_result (result_number (Some i)) s) ≡ sort (plain_sort (sort_number i)))
unfolding map_of maps
kind-result i y h s = go (sort_number i) (λ e. y (sort_number-same i SortBitVec e)) h
  where
    go : (j : ℕ) → (j ≡ 9 → ⊥) → eqb (plain_result j) 0 || eqb (plain_result j) 9 || plain_kind (plain_result j) ≡ true → (map_of j ≡ 1) × (sort (vectors_result (plain_result j) s) ≡ sort (plain_sort j))
    go zero d w = absurd (false≢true w)
    go (suc j) d w =
        let z = ne_eqb (suc j) 0 (λ e. absurd (omega arith)) in
        let e = ne_eqb (suc j) 9 d in (
          plain_map (suc j) (sym (ap₂ (λ (c f : Bool). c || f || plain_kind (suc j)) z e) ∙ w),
          ap₂ (λ (c f : Bool). sort (cond c s (cond f (bitvec 1) (plain_sort (suc j))))) z e,
        )

---------------------------------------------------------------- the rules
-- What is asked and promised, of one store of n sorts.
pub record FitOver (b p : List ℕ) (n : ℕ) (a : List ℕ) (m : ℕ) (r : Rule) : Type 0 where
  pub over : Over b p n a m
  pub well : well_rule r ≡ true
  pub counted : counts_for r m ≡ true

pub fit-over : {b p a : List ℕ} {m : ℕ} {r : Rule} → FitAsks b p a m r → {n : ℕ} → Over b p n a m → FitOver b p n a m r
fit-over f o = record { over = o; well = f.well; counted = f.counted }

abbrev pub FitFor : List ℕ → List ℕ → ℕ → List ℕ → ℕ → Rule → Option Fit → Type 0
FitFor b p n a m rule r = FitIs n (store_of b p n) (args_of b p n a m) (fitted rule (args_of b p n a m)) r

abbrev KindsAre : List ℕ → List ℕ → ℕ → List ℕ → ℕ → ℕ → Bool → Type 0
KindsAre b p n a m k r = map_of k ≡ 1 → r ≡ all_same (plain_sort k) (args_of b p n a m)

module _ {b p : List ℕ} {n : ℕ} {a : List ℕ} {m : ℕ} where
  pub all-fits : (k : ℕ) (r : SortKind) → FitOver b p n a m (All k (sort_number r)) → (t : Bool) → KindsAre b p n a m k t → {x : Option Fit} → x ≡ then_some t (Plain r)
      → FitFor b p n a m (All k (sort_number r)) x
  unfolding fitted well_rule
  all-fits k r f t h e =
      by_test (Plain r) t e (plain_sort (sort_number r)) (h (plain_map k (and_left (plain_kind k) (plain_kind (sort_number r)) f.well))) refl
      (λ q. plain_map (sort_number r) (and_right (plain_kind k) (plain_kind (sort_number r)) f.well))

  -- Fixed kinds.
  module _ (ks : List SortKind) (r : SortKind) (f : FitOver b p n a m (fixed_numbers ks r)) where
    pub fixed-many : length ks ≡ m
    fixed-many = sym (eqb-true m (length ks) f.counted)

    rest : plain_kind (kind_in ks 0) && (plain_kind (kind_in ks 1) && (plain_kind (kind_in ks 2) && plain_kind (sort_number r))) ≡ true
    unfolding well_rule
    rest = and_right (leb (length ks) 3) _ f.well

    few : leb (length ks) 3 ≡ true
    unfolding well_rule
    few = and_left (leb (length ks) 3) _ f.well

    pub fixed-kinds : (j : ℕ) → j < m → map_of (kind_in ks j) ≡ 1
    fixed-kinds j l = go j (omega (arith, leb-true (length ks) 3 few, fixed-many))
      where
        go : (i : ℕ) → i < 3 → map_of (kind_in ks i) ≡ 1
        go zero o = plain_map (kind_in ks 0) (and_left (plain_kind (kind_in ks 0)) _ rest)
        go (suc zero) o = plain_map (kind_in ks 1) (and_left (plain_kind (kind_in ks 1)) _ (and_right (plain_kind (kind_in ks 0)) _ rest))
        go (suc (suc zero)) o = plain_map (kind_in ks 2) (and_left (plain_kind (kind_in ks 2)) _ (and_right (plain_kind (kind_in ks 1)) _ (and_right (plain_kind (kind_in ks 0)) _ rest)))
        go (suc (suc (suc i))) o = absurd (omega arith)

    pub fixed-fits : (t : Bool) → t ≡ same_all (plain_sorts ks) (args_of b p n a m) → {x : Option Fit} → x ≡ then_some t (Plain r) → FitFor b p n a m (fixed_numbers ks r) x
    unfolding fitted
    fixed-fits t h e =
        by_test (Plain r) t e (plain_sort (sort_number r)) (h ∙ sym (ap (λ (ss : Sorts). same_all ss (args_of b p n a m)) (fixed-plain ks few))) refl
        (λ q. plain_map (sort_number r) (and_right (plain_kind (kind_in ks 2)) _ (and_right (plain_kind (kind_in ks 1)) _ (and_right (plain_kind (kind_in ks 0)) _ rest))))

  -- Bool A A.
  pub choose-fits : Over b p n a m → m ≡ 3 → (c : ℕ) → c ≡ u16_at a 5 → {i j : ℕ} → i ≡ u16_at a 3 → j ≡ u16_at a 7 → (t : Bool) → t ≡ (eqb (kind_of (sort_at b p n i)) 3 && eqb j c) → (x : Option Fit) → x ≡ then_some t (Known c)
      → FitFor b p n a m Choose x
  unfolding fitted map_of maps sort_at
  choose-fits o three c ec {i} {j} ei ej t h x e =
      let B = sort_at b p n (u16_at a 5) in
      let D = sort_at b p n (u16_at a 7) in
      subst (λ (ts : Sorts). FitIs n (store_of b p n) (args_of b p n a m) (choosing ts) x) (sym (three-args b p n a three))
      (by_test (Known c) t e B
      (h ∙ ap₂ ◌&&◌ (ap (λ (k : ℕ). eqb (kind_of (sort_at b p n k)) 3) ei ∙ sym (kind-same b p n (u16_at a 3) o.stored (o.below 0 (omega arith)) 3 refl))
      (ap₂ eqb ej ec ∙ sym (numbers-same (u16_at a 7) (u16_at a 5) o.stored o.distinct (o.below 2 (omega arith)) (o.below 1 (omega arith))) ∙ same-swap D B))
      (ap (λ (k : ℕ). sort (sort_at b p n k)) ec)
      (λ q. subst (λ (k : ℕ). k < n) (sym ec) (o.below 1 (omega arith))))

-- All of one sort.
pub equal-fits : (b p a : List ℕ) (m : ℕ) (t : Bool) → SameHas b p a m t → {x : Option Fit} → x ≡ then_some t (Plain SortBool) → FitHas b p a m Equal x
unfolding fitted map_of maps
equal-fits b p a m t h e n o = by_test (Plain SortBool) t e bool (h n o) refl (λ q. refl)

---------------------------------------------------------------- vectors and arrays
-- What the record of an Array stands for.
module _ {b p : List ℕ} {n k : ℕ} (s : Stored b p n) (l : k < n) {r : SortRecord} (e : EntryIs b p n k r) where
  read-kind : (fields_at b (get_or p k 0)).kind ≡ sort_number r.kind
  read-kind = ap (λ (f : Fields). f.kind) e.place.same

  pub array-two : sort_number r.kind ≡ 8 → r.parts.count ≡ 2
  unfolding least_of leasts most_of mosts
  array-two h =
      let q : length (fields_at b (get_or p k 0)).list ≡ r.parts.count = ap (λ (f : Fields). length f.list) e.place.same ∙ length-numbers_at b r.parts.at r.parts.count in
      let x : least_of (fields_at b (get_or p k 0)).kind ≡ 2 = ap least_of (read-kind ∙ h) in
      let y : most_of (fields_at b (get_or p k 0)).kind ≡ 2 = ap most_of (read-kind ∙ h) in
      omega (arith, (s.each k l).shape.least, (s.each k l).shape.most, q, x, y)

  pub array-sort : sort_number r.kind ≡ 8 → sort_at b p n k ≡ array (sort_at b p n (u16_at b r.parts.at)) (sort_at b p n (u16_at b (r.parts.at + 2)))
  unfolding map_of maps sorts_of numbers_at sort_at
  array-sort h =
      kind-parts b p n k s l 8 refl (sym e.kind ∙ h)
      ∙ ap (λ (ss : Sorts). node 8 0 0 ss) (sym e.parts ∙ ap (λ (i : ℕ). sorts_of (store_of b p n) (numbers_at b r.parts.at i)) (array-two h))

-- A sort is a vector by its kind.
pub kind-is-vector : (b p : List ℕ) (n k : ℕ) → Stored b p n → k < n → vector (sort_at b p n k) ≡ eqb (kind_of (sort_at b p n k)) 9
kind-is-vector b p n k s l =
    let v = sort_at b p n k in
    both_ways (vector v) (eqb (kind_of v) 9)
    (λ e. eq-eqb (kind_of v) 9 (ap kind_of (same-sound v (bitvec (number_in v)) e)))
    (λ e. kind-vector b p n k s l (eqb-true (kind_of v) 9 e))

-- Vectors of one width.
module _ {b p : List ℕ} {n : ℕ} {a : List ℕ} {m : ℕ} (r : Option SortKind) (f : FitOver b p n a m (Vectors 1 1 (result_number r))) where
  pub vectors-some : 0 < m
  vectors-some = leb-true 1 m f.counted

  -- The first argument is a vector, and the others are it.
  module _ {k : ℕ} (ek : k ≡ u16_at a 3) (t : Bool) (told : KindIs b p k 9 t) where
    first-below : k < n
    first-below = subst (λ (i : ℕ). i < n) (sym ek) (f.over.below 0 vectors-some)

    only : only_of (args_of b p n a m) ≡ sort_at b p n k
    only = first-arg b p n a m vectors-some ∙ ap (sort_at b p n) (sym ek)

    first-vector : vector (only_of (args_of b p n a m)) ≡ t
    first-vector = ap vector only ∙ kind-is-vector b p n k f.over.stored first-below ∙ sym (told n f.over.stored first-below)

    pub vectors-other : t ≡ false → FitFor b p n a m (Vectors 1 1 (result_number r)) None
    unfolding fitted
    vectors-other e =
        let ts = args_of b p n a m in
        no_fit (vectors_result (result_number r) (only_of ts)) (sym (ap (◌&& all_same (only_of ts) ts) (first-vector ∙ e)))

    module _ (u : Bool) (g : SameHas b p a m u) where
      vectors-on : (vector (only_of (args_of b p n a m)) && all_same (only_of (args_of b p n a m)) (args_of b p n a m)) ≡ (t && u)
      vectors-on = ap₂ ◌&&◌ first-vector (sym (g n f.over))

      pub vectors-differ : u ≡ false → FitFor b p n a m (Vectors 1 1 (result_number r)) None
      unfolding fitted
      vectors-differ e = no_fit (vectors_result (result_number r) (only_of (args_of b p n a m))) (sym (vectors-on ∙ ap (t &&◌) e ∙ false-second t false refl))

      module _ (d : t ≡ true) (e : u ≡ true) where
        both : true ≡ (vector (only_of (args_of b p n a m)) && all_same (only_of (args_of b p n a m)) (args_of b p n a m))
        both = sym (vectors-on ∙ ap₂ ◌&&◌ d e)

        pub vectors-same : r ≡ None → FitFor b p n a m (Vectors 1 1 (result_number r)) (Some (Known k))
        unfolding fitted sort_at
        vectors-same z =
            fits (vectors_result (result_number r) (only_of (args_of b p n a m))) both
            (sym (ap₂ (λ (o : Option SortKind) (s : Sort). sort (vectors_result (result_number o) s)) z only)) first-below

        pub vectors-bit : r ≡ Some SortBitVec → FitFor b p n a m (Vectors 1 1 (result_number r)) (Some (Width 1))
        unfolding fitted
        vectors-bit z =
            fits (vectors_result (result_number r) (only_of (args_of b p n a m))) both
            (sym (ap (λ (o : Option SortKind). sort (vectors_result (result_number o) (only_of (args_of b p n a m)))) z)) tt

        pub vectors-kind : (i : SortKind) → r ≡ Some i → (i ≡ SortBitVec → ⊥) → FitFor b p n a m (Vectors 1 1 (result_number r)) (Some (Plain i))
        unfolding fitted well_rule
        vectors-kind i z y =
            let w = subst (λ (o : Option SortKind). one_or_two 1 && (eqb (result_number o) 0 || eqb (result_number o) 9 || plain_kind (result_number o)) ≡ true) z f.well in
            let g = kind-result i y (and_right (one_or_two 1) _ w) (only_of (args_of b p n a m)) in
            fits (vectors_result (result_number r) (only_of (args_of b p n a m))) both
            (sym (ap (λ (o : Option SortKind). sort (vectors_result (result_number o) (only_of (args_of b p n a m)))) z ∙ g.1)) g.0

-- Two vectors joined.
module _ {b p : List ℕ} {n : ℕ} {a : List ℕ} {m : ℕ} (f : FitOver b p n a m Concat) where
  pub concat-two : m ≡ 2
  concat-two = eqb-true m 2 f.counted

  module _ {i j : ℕ} (ei : i ≡ u16_at a 3) (ej : j ≡ u16_at a 5) (x y : SortRecord) (hx : EntryHas b p i x) (hy : EntryHas b p j y) where
    first-known : i < n
    first-known = subst (λ (k : ℕ). k < n) (sym ei) (f.over.below 0 (omega (arith, concat-two)))

    second-known : j < n
    second-known = subst (λ (k : ℕ). k < n) (sym ej) (f.over.below 1 (omega (arith, concat-two)))

    pub concat-fits : (t : Bool) → t ≡ (eqb (kind_of (sort_at b p n i)) 9 && eqb (kind_of (sort_at b p n j)) 9) → (z : Option Fit) → z ≡ then_some t (Width (x.number + y.number)) → FitFor b p n a m Concat z
    unfolding fitted
    concat-fits t h z e =
        subst (λ (ts : Sorts). FitIs n (store_of b p n) (args_of b p n a m) (concatenated ts) z) (sym (two-args b p n a concat-two ∙ ap₂ (λ (c d : ℕ). sort_at b p n c then sort_at b p n d then end) (sym ei) (sym ej)))
        (by_test (Width (x.number + y.number)) t e (bitvec (number_in (sort_at b p n i) + number_in (sort_at b p n j)))
        (h ∙ ap₂ ◌&&◌ (sym (kind-is-vector b p n i f.over.stored first-known)) (sym (kind-is-vector b p n j f.over.stored second-known)))
        (ap₂ (λ (c d : ℕ). sort (bitvec (c + d))) (hx n f.over.stored first-known).number (hy n f.over.stored second-known).number) (λ q. tt))

    pub concat-small : x.number + y.number < 200000
    concat-small =
        omega (
          arith,
          vector-small b p n i f.over.stored first-known x (hx n f.over.stored first-known),
          vector-small b p n j f.over.stored second-known y (hy n f.over.stored second-known),
        )
