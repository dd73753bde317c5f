-- The fit of an array, of any rule, and the answer to an operator.
use Prim.Native.Nat.{ℕ, ◌+◌, ◌*◌, ◌≤◌, ◌<◌}
use mathlib.Core.Path.{◌≡◌, refl, sym, ap, ap₂, subst, ◌∙◌}
use mathlib.Core.Logic.{◌⊎◌, ⊎_elim}
use mathlib.Core.Bool.{Bool, true, false, cond, ◌&&◌, ◌||◌}
use mathlib.Core.List.{List}
use native.Mathlib.Omega.{arith}
use lib.ListN.{length}
use lib.Dec.{eqb, leb}
use borrow.Author.Tests.{eq-eqb, eqb-true, eqb-false, ne_eqb, leb-true, le-leb}
use Rattle.std.specs.Bool.{then_some}
use Rattle.std.specs.Prelude.{Option, Some, None}
use Rattle.record.specs.Number.{u16_at, numbers_at}
use Rattle.record.specs.Kinds.{sort_number}
use Rattle.record.specs.declared.kinds.SortKind.{SortKind}
use Rattle.record.specs.Sort.{Sort, var, par, node, end, ◌then◌, array, kind_of, count, same}
use Rattle.record.specs.Decode.{store_of, sort_at}
use Rattle.record.specs.Codec.{length-numbers_at}
use Rattle.record.specs.Sizes.{count-sorts}
use Rattle.record.specs.Cases.{and_left, and_right, or_cases, eqb_swap}
use Rattle.record.specs.declared.SortRecord.{SortRecord}
use Rattle.store.specs.Entry.{EntryIs, EntryHas}
use Rattle.row_rules.specs.declared.Cause.TheVariants.{NoRank, Count, Misfit}
use Rattle.row_rules.specs.Verdict.{Verdict, sort, refused, need}
use Rattle.check_rules.specs.Ranks.{smt_lib}
use Rattle.check_rules.specs.Checked.{values, operated}
use Rattle.check_operator.specs.declared.rule.Rule.{Rule as Given}
use Rattle.check_operator.specs.declared.rule.Arity.{Arity}
use Rattle.check_operator.specs.declared.rule.Arity.TheVariants.{Exactly, AtLeast}
use Rattle.check_operator.specs.declared.op.Fit.{Fit}
use Rattle.check_operator.specs.declared.op.Fit.TheVariants.{Known}
use Rattle.check_operator.specs.Rule.{Rule, Unranked, Numbers, Select, Store, Vectors, counts_for, selecting, storing, ruled_select, stored, fitted, is_ranked, ruled, rule_of, plain_kind, one_or_two, well_rule}
use Rattle.check_operator.specs.Numbered.{result_number, vectors_numbers, rule_numbers}
use Rattle.check_operator.specs.RuleLaws.{operated-ruled, well-rule}
use Rattle.check_operator.specs.Contract.{Over, args_of, KindIs, fit_verdict, fits_verdict, FitIs, FitAsks, FitHas, TestsValues, ArrayAsks, ArrayIs}
use Rattle.infer_operator.specs.Asks.{ArgsAsks}
use Rattle.check_operator.proofs.FitLaws.{by_test, numbers-same, two-args, three-args, array-two, array-sort}

---------------------------------------------------------------- arrays
select-other : (s j : Sort) → (kind_of s ≡ 8 → ⊥) → selecting s j ≡ refused Misfit
select-other (var v) j h = refl
select-other (par ns b) j h = refl
select-other (node k n w end) j h = refl
select-other (node k n w (i then end)) j h = refl
select-other (node k n w (i then (e then end))) j h = ap (λ (c : Bool). need (c && eqb 0 n && eqb 0 w && same i j) Misfit (sort e)) (ne_eqb 8 k (λ q. h (sym q)))
select-other (node k n w (i then (e then (r then rs)))) j h = refl

store_other : (s j d : Sort) → (kind_of s ≡ 8 → ⊥) → storing s j d ≡ refused Misfit
store_other (var v) j d h = refl
store_other (par ns b) j d h = refl
store_other (node k n w end) j d h = refl
store_other (node k n w (i then end)) j d h = refl
store_other (node k n w (i then (e then end))) j d h =
    ap (λ (c : Bool). need (c && eqb 0 n && eqb 0 w && (same i j && same e d)) Misfit (sort (array i e))) (ne_eqb 8 k (λ q. h (sym q)))
store_other (node k n w (i then (e then (r then rs)))) j d h = refl

-- What is asked and promised, of one store of n sorts.
pub record ArrayOver (b p : List ℕ) (n : ℕ) (a : List ℕ) (m : ℕ) : Type 0 where
  pub over : Over b p n a m
  pub few : (m ≡ 2) ⊎ (m ≡ 3)

pub array-over : {b p a : List ℕ} {m : ℕ} → ArrayAsks b p a m → {n : ℕ} → Over b p n a m → ArrayOver b p n a m
array-over f o = record { over = o; few = f.few }

abbrev pub ArrayFor : List ℕ → List ℕ → ℕ → List ℕ → ℕ → Option Fit → Type 0
ArrayFor b p n a m r = ArrayIs n (store_of b p n) (args_of b p n a m) m r

module _ {b p : List ℕ} {n : ℕ} {a : List ℕ} {m : ℕ} (f : ArrayOver b p n a m) where
  pub array-many : 2 ≤ m
  array-many = ⊎_elim (λ (e : m ≡ 2). omega arith) (λ (e : m ≡ 3). omega arith) f.few

  pub array-rest : (m ≡ 2 → ⊥) → m ≡ 3
  array-rest h = ⊎_elim (λ (e : m ≡ 2). absurd (h e)) (λ (e : m ≡ 3). e) f.few

  module _ {k : ℕ} (ek : k ≡ u16_at a 3) where
    pub array_known : k < n
    array_known = subst (λ (i : ℕ). i < n) (sym ek) (f.over.below 0 (omega (arith, array-many)))

    select-is : m ≡ 2 → fitted Select (args_of b p n a m) ≡ selecting (sort_at b p n k) (sort_at b p n (u16_at a 5))
    unfolding fitted
    select-is e = ap ruled_select (two-args b p n a e) ∙ ap (λ (i : ℕ). selecting (sort_at b p n i) (sort_at b p n (u16_at a 5))) (sym ek)

    store_is : m ≡ 3 → fitted Store (args_of b p n a m) ≡ storing (sort_at b p n k) (sort_at b p n (u16_at a 5)) (sort_at b p n (u16_at a 7))
    unfolding fitted
    store_is e = ap stored (three-args b p n a e) ∙ ap (λ (i : ℕ). storing (sort_at b p n i) (sort_at b p n (u16_at a 5)) (sort_at b p n (u16_at a 7))) (sym ek)

    pub array-other : {t : Bool} → KindIs b p k 8 t → t ≡ false → ArrayFor b p n a m None
    array-other {t} told d =
        let g = eqb-false (kind_of (sort_at b p n k)) 8 (sym (told n f.over.stored array_known) ∙ d) in
        record {
          two = λ e. record { is = sym (select-is e ∙ select-other (sort_at b p n k) (sort_at b p n (u16_at a 5)) g); ok = tt };
          three = λ e. record { is = sym (store_is e ∙ store_other (sort_at b p n k) (sort_at b p n (u16_at a 5)) (sort_at b p n (u16_at a 7)) g); ok = tt };
        }

    module _ {t : Bool} (told : KindIs b p k 8 t) (on : t ≡ true) (r : SortRecord) (h : EntryHas b p k r) where
      read : EntryIs b p n k r
      read = h n f.over.stored array_known

      kind : sort_number r.kind ≡ 8
      kind = read.kind ∙ eqb-true (kind_of (sort_at b p n k)) 8 (sym (told n f.over.stored array_known) ∙ on)

      parts-two : r.parts.count ≡ 2
      parts-two = array-two f.over.stored array_known read kind

      pub array_place : r.parts.at + 4 ≤ length b
      array_place = omega (arith, read.place.list, parts-two)

      module _ {i e v : ℕ} (ei : i ≡ u16_at b (r.parts.at + 0)) (ee : e ≡ u16_at b (r.parts.at + 2)) (ev : v ≡ u16_at a 5) where
        front : r.parts.at ≡ r.parts.at + 0
        front = omega arith

        sort-is : sort_at b p n k ≡ array (sort_at b p n i) (sort_at b p n e)
        sort-is =
            array-sort f.over.stored array_known read kind
            ∙ ap₂ (λ (x y : ℕ). array (sort_at b p n x) (sort_at b p n y)) (ap (u16_at b) front ∙ sym ei) (sym ee)

        index-known : i < n
        index-known =
            let q : r.parts.at + 2 * 0 ≡ r.parts.at + 0 = omega arith in
            omega (arith, ei, ap (u16_at b) q, read.below 0 (omega (arith, parts-two)), array_known)

        element-known : e < n
        element-known =
            let q : r.parts.at + 2 * 1 ≡ r.parts.at + 2 = omega arith in
            omega (arith, ee, ap (u16_at b) q, read.below 1 (omega (arith, parts-two)), array_known)

        index_same : same (sort_at b p n i) (sort_at b p n (u16_at a 5)) ≡ eqb i v
        index_same =
            numbers-same i (u16_at a 5) f.over.stored f.over.distinct index-known (f.over.below 1 (omega (arith, array-many))) ∙ ap (eqb i) (sym ev)

        selects : m ≡ 2 → fitted Select (args_of b p n a m) ≡ need (eqb i v) Misfit (sort (sort_at b p n e))
        selects q =
            select-is q ∙ ap (λ (s : Sort). selecting s (sort_at b p n (u16_at a 5))) sort-is
            ∙ ap (λ (c : Bool). need c Misfit (sort (sort_at b p n e))) index_same

        stores : m ≡ 3 → fitted Store (args_of b p n a m)
            ≡ need (eqb i v && same (sort_at b p n e) (sort_at b p n (u16_at a 7))) Misfit (sort (array (sort_at b p n i) (sort_at b p n e)))
        stores q =
            store_is q ∙ ap (λ (s : Sort). storing s (sort_at b p n (u16_at a 5)) (sort_at b p n (u16_at a 7))) sort-is
            ∙ ap (λ (c : Bool). need (c && same (sort_at b p n e) (sort_at b p n (u16_at a 7))) Misfit (sort (array (sort_at b p n i) (sort_at b p n e)))) index_same

        pub array-differs : (v ≡ i → ⊥) → ArrayFor b p n a m None
        array-differs d =
            let g = ne_eqb i v (λ q. d (sym q)) in
            record {
              two = λ q. record { is = sym (selects q ∙ ap (λ (c : Bool). need c Misfit (sort (sort_at b p n e))) g); ok = tt };
              three = λ q. record {
                is = sym (stores q ∙ ap (λ (c : Bool). need (c && same (sort_at b p n e) (sort_at b p n (u16_at a 7))) Misfit (sort (array (sort_at b p n i) (sort_at b p n e)))) g);
                ok = tt;
              };
            }

        pub array-selects : v ≡ i → m ≡ 2 → ArrayFor b p n a m (Some (Known e))
        unfolding sort_at
        array-selects d two =
            record {
              two = λ q. record { is = sym (selects q ∙ ap (λ (c : Bool). need c Misfit (sort (sort_at b p n e))) (eq-eqb i v (sym d))); ok = element-known };
              three = λ q. absurd (omega arith);
            }

        pub array-stores : v ≡ i → m ≡ 3 → {x : ℕ} → x ≡ u16_at a 7 → (t : Bool) → t ≡ eqb x e → (z : Option Fit) → z ≡ then_some t (Known k) → ArrayFor b p n a m z
        unfolding sort_at
        array-stores d h3 {x} ex t et z ez =
            record {
              two = λ q. absurd (omega arith);
              three = λ q.
                  subst (λ (w : Verdict). FitIs n (store_of b p n) (args_of b p n a m) w z) (sym (stores q))
                  (by_test (Known k) t ez (array (sort_at b p n i) (sort_at b p n e))
                  (et ∙ ap₂ (λ (y : ℕ) (c : Bool). c) ex (eqb_swap x e) ∙ ap (eqb e) ex
                  ∙ sym (numbers-same e (u16_at a 7) f.over.stored f.over.distinct element-known (f.over.below 2 (omega arith)))
                  ∙ ap (◌&& same (sort_at b p n e) (sort_at b p n (u16_at a 7))) (sym (eq-eqb i v (sym d))))
                  (ap sort sort-is) (λ c. array_known));
            }

---------------------------------------------------------------- any rule
module _ (b p a : List ℕ) (m : ℕ) where
  some-least : (l : ℕ) → one_or_two l ≡ true → l ≤ m → 1 ≤ m
  some-least l w h =
      or_cases (eqb l 1) (eqb l 2) w (λ e. let z = eqb-true l 1 e in omega arith) (λ e. let z = eqb-true l 2 e in omega arith)

  pub numbers_asks : (l r : ℕ) → FitAsks b p a m (Numbers l r) → FitAsks b p a m (Numbers 1 r)
  unfolding well_rule
  numbers_asks l r f =
      record {
        args = f.args;
        well = and_right (one_or_two l) (eqb r 0 || plain_kind r) f.well;
        counted = le-leb 1 m (some-least l (and_left (one_or_two l) (eqb r 0 || plain_kind r) f.well) (leb-true l m f.counted));
      }

  pub numbers_has : (l r : ℕ) (t : Option Fit) → FitHas b p a m (Numbers 1 r) t → FitHas b p a m (Numbers l r) t
  unfolding fitted
  numbers_has l r t h = h

  at_least : (c : Bool) (l : ℕ) → cond c (leb l m) (eqb m l) ≡ true → l ≤ m
  at_least true l e = leb-true l m e
  at_least false l e = let z = eqb-true m l e in omega arith

  more-asks : (l o r : ℕ) → FitAsks b p a m (Vectors l o r) → FitAsks b p a m (Vectors 1 1 r)
  unfolding well_rule
  more-asks l o r f =
      record {
        args = f.args;
        well = and_right (one_or_two l) (eqb r 0 || eqb r 9 || plain_kind r) f.well;
        counted = le-leb 1 m (some-least l (and_left (one_or_two l) (eqb r 0 || eqb r 9 || plain_kind r) f.well) (at_least (eqb o 1) l f.counted));
      }

  pub vectors_asks : (y : Arity) (o : Option SortKind) → FitAsks b p a m (vectors_numbers y o) → FitAsks b p a m (Vectors 1 1 (result_number o))
  vectors_asks (Exactly l) o f = more-asks l 0 (result_number o) f
  vectors_asks (AtLeast l) o f = more-asks l 1 (result_number o) f

  pub vectors_has : (y : Arity) (o : Option SortKind) (t : Option Fit) → FitHas b p a m (Vectors 1 1 (result_number o)) t → FitHas b p a m (vectors_numbers y o) t
  unfolding fitted
  vectors_has (Exactly l) o t h = h
  vectors_has (AtLeast l) o t h = h

---------------------------------------------------------------- the answer
-- A rule of the code has ranks.
ranked : (r : Given) → is_ranked (rule_numbers r) ≡ true
ranked (Given.All k r) = refl
ranked (Given.Fixed ks r) = refl
ranked (Given.Numbers l r) = refl
ranked Given.Equal = refl
ranked Given.Choose = refl
ranked Given.Select = refl
ranked Given.Store = refl
ranked (Given.Vectors (Exactly l) r) = refl
ranked (Given.Vectors (AtLeast l) r) = refl
ranked Given.Concat = refl
ranked (Given.Sets r) = refl

module _ {b p ix : List ℕ} {n u : ℕ} {a : List ℕ} {m : ℕ} (f : ArgsAsks b p ix n u a m) (op : ℕ) where
  args_over : Over b p n a m
  args_over = record { stored = f.good.stored; distinct = f.good.distinct; below = f.below }

  args_count : count (args_of b p n a m) ≡ m
  args_count = count-sorts (store_of b p n) (numbers_at a 3 m) ∙ length-numbers_at a 3 m

  operated-by : {r : Rule} → r ≡ rule_of op
      → operated smt_lib op (args_of b p n a m) ≡ need (is_ranked r) NoRank (need (counts_for r m) Count (need (values (args_of b p n a m)) Misfit (fitted r (args_of b p n a m))))
  unfolding ruled
  operated-by {r} er =
      operated-ruled op (args_of b p n a m) ∙ ap (λ (x : Rule). ruled x (args_of b p n a m)) (sym er)
      ∙ ap (λ (c : ℕ). need (is_ranked r) NoRank (need (counts_for r c) Count (need (values (args_of b p n a m)) Misfit (fitted r (args_of b p n a m))))) args_count

  -- An operator without a rule has no rank.
  pub no-rank : Unranked ≡ rule_of op → operated smt_lib op (args_of b p n a m) ≡ refused NoRank
  no-rank e = operated-by e

  module _ (g : Given) (er : rule_numbers g ≡ rule_of op) where
    by-count : operated smt_lib op (args_of b p n a m) ≡ need (counts_for (rule_numbers g) m) Count (need (values (args_of b p n a m)) Misfit (fitted (rule_numbers g) (args_of b p n a m)))
    by-count =
        operated-by er
        ∙ ap (λ (c : Bool). need c NoRank (need (counts_for (rule_numbers g) m) Count (need (values (args_of b p n a m)) Misfit (fitted (rule_numbers g) (args_of b p n a m))))) (ranked g)

    module _ {t : Bool} (et : t ≡ counts_for (rule_numbers g) m) where
      pub no-count : t ≡ false → operated smt_lib op (args_of b p n a m) ≡ refused Count
      no-count e = by-count ∙ ap (λ (c : Bool). need c Count (need (values (args_of b p n a m)) Misfit (fitted (rule_numbers g) (args_of b p n a m)))) (sym et ∙ e)

      module _ (on : t ≡ true) where
        pub rule-asks : FitAsks b p a m (rule_numbers g)
        rule-asks =
            record {
              args = record { within = omega (arith, f.few, f.room); many = n; over = args_over };
              well = ap well_rule er ∙ well-rule op;
              counted = sym et ∙ on;
            }

        module _ (v : Bool) (ev : TestsValues b p a m (rule_numbers g) v) where
          by_values : operated smt_lib op (args_of b p n a m) ≡ need v Misfit (fitted (rule_numbers g) (args_of b p n a m))
          by_values =
              by-count
              ∙ ap (λ (c : Bool). need c Count (need (values (args_of b p n a m)) Misfit (fitted (rule_numbers g) (args_of b p n a m)))) (sym et ∙ on)
              ∙ ev n args_over

          pub no_value : v ≡ false → operated smt_lib op (args_of b p n a m) ≡ refused Misfit
          no_value e = by_values ∙ ap (λ (x : Bool). need x Misfit (fitted (rule_numbers g) (args_of b p n a m))) e

          module _ (all : v ≡ true) (x : Option Fit) (h : FitHas b p a m (rule_numbers g) x) where
            by-fit : operated smt_lib op (args_of b p n a m) ≡ fits_verdict (store_of b p n) (args_of b p n a m) x
            by-fit = by_values ∙ ap (λ (y : Bool). need y Misfit (fitted (rule_numbers g) (args_of b p n a m))) all ∙ sym (h n args_over).is

            pub misfit : x ≡ None → operated smt_lib op (args_of b p n a m) ≡ refused Misfit
            misfit e = by-fit ∙ ap (fits_verdict (store_of b p n) (args_of b p n a m)) e

            pub fit_is : (y : Fit) → x ≡ Some y → operated smt_lib op (args_of b p n a m) ≡ fit_verdict (store_of b p n) (args_of b p n a m) y
            fit_is y e = by-fit ∙ ap (fits_verdict (store_of b p n) (args_of b p n a m)) e
