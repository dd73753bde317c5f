-- The fits of the rules on sets, tuples and relations, by what was read of the arguments.
use Rattle.std.specs.Prelude.{ℕ, zero, suc, ◌+◌, ◌*◌, ◌-◌, ◌≤◌, ◌<◌, ◌≡◌, refl, Bool, true, false, ◌&&◌, ◌||◌, List, length, get_or, eqb, Option, Some, None}
use Rattle.std.proofs.Common.{sym, ap, ap₂, subst, ◌∙◌, arith, eqb-true}
use Rattle.std.specs.Bool.{then_some}
use Rattle.std.proofs.Math.Option.{Option as Opt, none}
use Rattle.record.specs.Number.{u16_at, numbers_at}
use Rattle.record.specs.Kinds.{sort_number}
use Rattle.record.specs.declared.kinds.SortKind.{SortKind}
use Rattle.record.specs.declared.kinds.SortKind.TheVariants.{Bool as SortBool}
use Rattle.record.specs.declared.span.Span.{Span}
use Rattle.record.specs.Sort.{Sort, Sorts, end, ◌then◌, bool, set, tuple, count, same}
use Rattle.record.specs.SortLaws.{same-sound, same-complete, same-other, same-swap, same_refl}
use Rattle.record.specs.Record.{maps, map_of, sorts_of, leaf}
use Rattle.record.specs.Decode.{store_of, sort_at, Stored}
use Rattle.record.specs.Sizes.{count-sorts}
use Rattle.record.specs.Codec.{length-numbers_at}
use Rattle.record.specs.Cases.{and_left, and_right, both_ways, false-second, clash, by_test as test}
use Rattle.row_rules.specs.declared.Cause.TheVariants.{Misfit}
use Rattle.row_rules.specs.Verdict.{Verdict, sort, refused, need, or_cause}
use Rattle.row_rules.specs.Lists.{joined, appended, last_of, all_but_last}
use Rattle.infer_rules.specs.declared.Family.{Family}
use Rattle.infer_rules.specs.declared.Family.TheVariants.{Singleton as SetOf, Tuple as TupleOf, UnitTuple, Transpose as Backwards, Join as Joining, Product as SideBySide}
use Rattle.infer_rules.specs.Inferred.{operated_by}
use Rattle.infer_operator.specs.Asks.{sorts_in}
use Rattle.infer_operator.specs.Operators.{no_constants, makes}
use Rattle.infer_operator.specs.Relations.{ColumnsStand, ColumnsHas}
use Rattle.judge_rules.proofs.FormsInferred.{tuple-inferred, transpose-inferred, join-inferred, product-inferred}
use Rattle.check_rules.specs.Forms.{Form, tupling, transpose, join, product, Computes, computes, when, relation, backwards, touch, all_same, elements, insertion, first_part, element_of, all_but_first, columns}
use Rattle.check_rules.specs.FormLaws.{computes-when, touch-only}
use Rattle.check_rules.specs.Checked.{only_of}
use Rattle.check_operator.specs.declared.op.Fit.{Fit}
use Rattle.check_operator.specs.declared.op.Fit.TheVariants.{Known, Plain, Gathered}
use Rattle.check_operator.specs.Rule.{Sets, fitted, well_rule, plain_sort, numbers_result, one_or_two}
use Rattle.check_operator.specs.SetRule.{Alike, Member, Insert, Closure, Singleton, Tuple, TupleUnit, Transpose, Join, Product, pairs, is_set, set_computes, well_set}
use Rattle.check_operator.specs.SetLaws.{by_result, few_or_many}
use Rattle.check_operator.specs.SetContract.{AlikeAsks, ElementHas, TouchHas}
use Rattle.check_operator.specs.Numbered.{plain_result}
use Rattle.store.specs.declared.entries.Entries.{Entries}
use Rattle.row_answer.specs.declared.arguments.Args.{Args}
use Rattle.check_operator.specs.Contract.{RuleAsks, Over, args_of, KindIs, SameHas, fit_verdict, FitOk, FitIs}
use Rattle.check_operator.proofs.SetEntries.{kind-is-set, relation-read, relation-none}
use mathlib.Core.Bool.{and-true, and_assoc}
use Rattle.row_answer.specs.Arguments.{sorts-joined}
use Rattle.check_operator.proofs.FitLaws.{one-arg, by_test, no_fit, numbers-same, two-args, first-arg, FitFor}

---------------------------------------------------------------- from an answer to a verdict
or_when : (c : Bool) (v : Sort) → or_cause (when c v) Misfit ≡ need c Misfit (sort v)
or_when true v = refl
or_when false v = refl

module _ {n : ℕ} {st : List Sort} {ts : Sorts} where
  -- A test by which a rule fits, where the rule gives what stands behind a test.
  by_when : {s : Bool} (f : Fit) (t : Bool) {x : Option Fit} (v : Sort) → x ≡ then_some t f → t ≡ s → fit_verdict st ts f ≡ sort v → (t ≡ true → FitOk n f)
      → FitIs n st ts (or_cause (when s v) Misfit) x
  by_when {s} f t {x} v e q h ok = subst (λ (w : Verdict). FitIs n st ts w x) (sym (or_when s v)) (by_test f t e v q h ok)

  no-when : {s : Bool} (v : Sort) → s ≡ false → FitIs n st ts (or_cause (when s v) Misfit) None
  no-when {s} v e = subst (λ (w : Verdict). FitIs n st ts w None) (sym (or_when s v)) (no_fit v (sym e))

  -- What a family makes, where a form gives the same.
  by_form : (f : Form) (g : Family) (v : Sort) → ((us : Sorts) (s : Sort) (cs : List (_)) → Computes f us s → operated_by g us cs ≡ sort s) → makes g ≡ true → Computes f ts v
      → FitIs n st ts (or_cause (computes f ts) Misfit) (Some (Gathered g))
  by_form f g v h m c =
      record { is = h ts v no_constants c ∙ sym (ap (λ (o : _). or_cause o Misfit) (computes-when f ts v c)); ok = m }

---------------------------------------------------------------- one and two arguments
first-more : (b p : List ℕ) (n : ℕ) (a : List ℕ) (i : ℕ) → args_of b p n a (suc i) ≡ sort_at b p n (u16_at a 3) then sorts_of (store_of b p n) (numbers_at a 5 i)
unfolding sort_at sorts_of numbers_at
first-more b p n a i = refl

same-sets : (s t : Sort) → same (set s) (set t) ≡ same s t
same-sets s t =
    both_ways (same (set s) (set t)) (same s t)
    (λ e. let z = same-sound (set s) (set t) e in let y : s ≡ t = cc in same-complete s t y)
    (λ e. same-complete (set s) (set t) (ap (λ (x : Sort). set x) (same-sound s t e)))

tuple-inj : {ss ts : Sorts} → set (tuple ss) ≡ set (tuple ts) → ss ≡ ts
tuple-inj e = cc

-- A set of pairs is one of pairs of one sort where both are one.
pair-same : (s r : Sort) → same (set (tuple (s then r then end))) (pairs s) ≡ same s r
pair-same s r =
    both_ways (same (set (tuple (s then r then end))) (pairs s)) (same s r)
    (λ e. let z = tuple-inj (same-sound (set (tuple (s then r then end))) (pairs s) e) in let y : s ≡ r = cc in same-complete s r y)
    (λ e. let z = same-sound s r e in same-complete (set (tuple (s then r then end))) (pairs s) (ap (λ (t : Sort). set (tuple (s then t then end))) (sym z)))

-- Relations that do not touch have no join.
joins-not : (as' bs : Sorts) → touch as' bs ≡ false → or_cause (computes join (set (tuple as') then set (tuple bs) then end)) Misfit ≡ refused Misfit
unfolding computes
joins-not as' bs e = ap (λ (c : Bool). or_cause (when (relation (set (tuple as')) && relation (set (tuple bs)) && c) (set (tuple (appended (all_but_last as') (all_but_first bs))))) Misfit) e
    ∙ ap (λ (c : Bool). or_cause (when c (set (tuple (appended (all_but_last as') (all_but_first bs))))) Misfit) (false-second (relation (set (tuple as')) && relation (set (tuple bs))) false refl)

---------------------------------------------------------------- equal sets
module _ {b p : List ℕ} {n : ℕ} {a : List ℕ} {m : ℕ} (o : Over b p n a m) (some : 0 < m) (i : ℕ) {k : ℕ} (ek : k ≡ u16_at a 3) (t : Bool) (told : KindIs b p k 14 t) where
  first-below : k < n
  first-below = subst (λ (i : ℕ). i < n) (sym ek) (o.below 0 some)

  only : only_of (args_of b p n a m) ≡ sort_at b p n k
  only = first-arg b p n a m some ∙ ap (sort_at b p n) (sym ek)

  -- The first is a Set by its kind.
  set-first : is_set (only_of (args_of b p n a m)) ≡ t
  set-first = ap is_set only ∙ kind-is-set b p n k o.stored first-below ∙ sym (told n o.stored first-below)

  pub alike-first : t ≡ false → (many : ℕ) → FitFor b p n a m (Sets (Alike many i)) None
  unfolding fitted set_computes
  alike-first e many =
      let ts = args_of b p n a m in
      no-when (numbers_result i (only_of ts)) (ap (λ (c : Bool). c && all_same (only_of ts) ts) (set-first ∙ e))

  module _ (u : Bool) (g : SameHas b p a m u) (many : ℕ) where
    abbrev value : ℕ → Sort
    value r = numbers_result r (only_of (args_of b p n a m))

    on : (is_set (only_of (args_of b p n a m)) && all_same (only_of (args_of b p n a m)) (args_of b p n a m)) ≡ (t && u)
    on = ap₂ ◌&&◌ set-first (sym (g n o))

    pub alike-rest : u ≡ false → FitFor b p n a m (Sets (Alike many i)) None
    unfolding fitted set_computes
    alike-rest e = no-when (value i) (on ∙ ap (t &&◌) e ∙ false-second t false refl)

    pub alike-same : t ≡ true → u ≡ true → i ≡ 0 → FitFor b p n a m (Sets (Alike many i)) (Some (Known k))
    unfolding fitted set_computes sort_at
    alike-same d e z = by_when (Known k) true (value i) refl (sym (on ∙ ap₂ ◌&&◌ d e)) (sym (ap₂ (λ (r : ℕ) (s : Sort). sort (numbers_result r s)) z only)) (λ q. first-below)

    pub alike-kind : t ≡ true → u ≡ true → (r : SortKind) → i ≡ plain_result (sort_number r) → eqb i 0 || (eqb i 3 || eqb i 4) ≡ true → FitFor b p n a m (Sets (Alike many i)) (Some (Plain r))
    unfolding fitted set_computes map_of maps
    alike-kind d e r z w = go (sort_number r) refl
      where
        go : (c : ℕ) → sort_number r ≡ c → FitIs n (store_of b p n) (args_of b p n a m) (or_cause (when (is_set (only_of (args_of b p n a m)) && all_same (only_of (args_of b p n a m)) (args_of b p n a m)) (value i)) Misfit) (Some (Plain r))
        go zero q = by_result i w (λ x. absurd (omega (arith, x, z ∙ ap plain_result q))) (λ x. absurd (omega (arith, x, z ∙ ap plain_result q))) (λ x. absurd (omega (arith, x, z ∙ ap plain_result q)))
        go (suc c) q =
            let y : i ≡ suc c = z ∙ ap plain_result q in
            by_when (Plain r) true (value i) refl (sym (on ∙ ap₂ ◌&&◌ d e)) (ap (λ (j : ℕ). sort (plain_sort j)) q ∙ sym (ap (λ (j : ℕ). sort (value j)) y))
            (λ h. by_result i w (λ x. absurd (omega (arith, x, y))) (λ x. ap map_of (q ∙ sym y ∙ x)) (λ x. ap map_of (q ∙ sym y ∙ x)))

---------------------------------------------------------------- elements, then their set
elements-joined : (x : Sort) (fs : Sorts) (s : Sort) → elements x (joined fs s) ≡ (all_same x fs && same s (set x))
unfolding elements joined all_same
elements-joined x end s = refl
elements-joined x (t then end) s = ap₂ ◌&&◌ (same-swap t x ∙ sym (and-true (same x t))) refl
elements-joined x (t then (u then us)) s = ap₂ ◌&&◌ (same-swap t x) (elements-joined x (u then us) s) ∙ sym (and_assoc (same x t) (all_same x (u then us)) (same s (set x)))

insert-other : (x : Sort) (fs : Sorts) (s : Sort) → is_set s ≡ false → insertion (joined (x then fs) s) ≡ none
unfolding joined
insert-other x fs s h =
    ap (λ (c : Bool). when c (set x)) (elements-joined x fs s)
    ∙ ap (λ (c : Bool). when (all_same x fs && c) (set x)) (same-other s (set x) (λ e. clash (same-complete s (set (element_of s)) (e ∙ ap (λ (r : Sort). set (element_of r)) (sym e))) h))
    ∙ ap (λ (c : Bool). when c (set x)) (false-second (all_same x fs) false refl)

insert-set : (e x : Sort) (fs : Sorts) → insertion (joined (x then fs) (set e)) ≡ when (all_same e (x then fs)) (set e)
unfolding joined all_same
insert-set e x fs =
    ap (λ (c : Bool). when c (set x)) (elements-joined x fs (set e) ∙ ap (all_same x fs &&◌) (same-sets e x))
    ∙ test (same e x)
    (λ q. let z = same-sound e x q in
    ap (λ (s : Sort). when (all_same s fs && same e s) (set s)) (sym z)
    ∙ ap (λ (c : Bool). when c (set e)) (ap (all_same e fs &&◌) (same_refl e) ∙ and-true (all_same e fs) ∙ sym (ap (◌&& all_same e fs) q)))
    (λ q. ap (λ (c : Bool). when c (set x)) (ap (all_same x fs &&◌) q ∙ false-second (all_same x fs) false refl) ∙ sym (ap (λ (c : Bool). when c (set e)) (ap (◌&& all_same e fs) q)))

module _ {b p : List ℕ} {n : ℕ} {a : List ℕ} {m : ℕ} (o : Over b p n a m) (many : 1 < m) {d k : ℕ} (ed : d ≡ m - 1) (ek : k ≡ u16_at a (3 + 2 * d)) where
  pub last-below : k < n
  last-below = subst (λ (j : ℕ). j < n) (sym ek) (o.below d (omega arith))

  -- The arguments before the last.
  pub front-over : Over b p n a d
  front-over = record { stored = o.stored; distinct = o.distinct; below = λ j l. o.below j (omega arith) }

  front-last : (x : Sort) × (fs : Sorts) × (args_of b p n a d ≡ x then fs) × (args_of b p n a m ≡ joined (x then fs) (sort_at b p n k))
  unfolding sorts_of numbers_at sort_at
  front-last = split d (omega arith) (omega arith) (ap (λ (i : ℕ). get_or (store_of b p n) i leaf) ek)
    where
      split : (i : ℕ) → 0 < i → m ≡ suc i → get_or (store_of b p n) k leaf ≡ get_or (store_of b p n) (u16_at a (3 + 2 * i)) leaf
          → (x : Sort) × (fs : Sorts) × (args_of b p n a i ≡ x then fs) × (args_of b p n a m ≡ joined (x then fs) (get_or (store_of b p n) k leaf))
      split zero l e q = absurd (omega arith)
      split (suc i) l e q = (
        get_or (store_of b p n) (u16_at a 3) leaf,
        sorts_of (store_of b p n) (numbers_at a 5 i),
        refl,
        ap (args_of b p n a) e ∙ sorts-joined (store_of b p n) a 3 (suc i) ∙ ap (joined (args_of b p n a (suc i))) (sym q),
      )

  pub insert-not : ElementHas b p k None → FitFor b p n a m (Sets Insert) None
  unfolding fitted set_computes computes
  insert-not h =
      let (x, fs, f, e) = front-last in
      record { is = sym (ap (λ (c : Opt Sort). or_cause c Misfit) (ap insertion e ∙ insert-other x fs (sort_at b p n k) (h n o.stored last-below))); ok = tt }

  pub insert-fits : {j : ℕ} → ElementHas b p k (Some j) → (t : Bool) → t ≡ all_same (sort_at b p n j) (args_of b p n a d) → {z : Option Fit} → z ≡ then_some t (Known k)
      → FitFor b p n a m (Sets Insert) z
  unfolding fitted set_computes computes sort_at
  insert-fits {j} h t et {z} q =
      let (x, fs, f, e) = front-last in
      let (l, s) = h n o.stored last-below in
      let g : insertion (args_of b p n a m) ≡ when (all_same (sort_at b p n j) (args_of b p n a d)) (set (sort_at b p n j)) =
      ap insertion (e ∙ ap (joined (x then fs)) s) ∙ insert-set (sort_at b p n j) x fs
      ∙ ap (λ (ts : Sorts). when (all_same (sort_at b p n j) ts) (set (sort_at b p n j))) (sym f) in
      subst (λ (c : Opt Sort). FitIs n (store_of b p n) (args_of b p n a m) (or_cause c Misfit) z) (sym g)
      (by_when (Known k) t (set (sort_at b p n j)) q et (ap sort s) (λ w. last-below))

---------------------------------------------------------------- one argument or more, and none
pub alike-asks : {e : Entries} {a : Args} (m r : ℕ) → RuleAsks e a (Sets (Alike m r)) → AlikeAsks e a r
unfolding well_rule well_set
alike-asks m r f =
    record {
      args = f.args;
      some = few_or_many m (and_left (one_or_two m) _ f.well) (λ e. omega (arith, e, eqb-true _ m f.counted)) (λ e. omega (arith, e, eqb-true _ m f.counted));
      well = and_right (one_or_two m) _ f.well;
    }

module _ {b p : List ℕ} {n : ℕ} {a : List ℕ} {m : ℕ} (o : Over b p n a m) where
  pub singleton-fits : m ≡ 1 → FitFor b p n a m (Sets Singleton) (Some (Gathered SetOf))
  unfolding fitted set_computes operated_by
  singleton-fits e =
      let s = sort_at b p n (u16_at a 3) in
      subst (λ (ts : Sorts). FitIs n (store_of b p n) ts (or_cause (set_computes Singleton ts) Misfit) (Some (Gathered SetOf))) (sym (one-arg b p n a e))
      (record { is = refl; ok = refl })

  pub tuple-fits : 0 < m → FitFor b p n a m (Sets Tuple) (Some (Gathered TupleOf))
  unfolding fitted set_computes
  tuple-fits l =
      let (s, ss, e) = split m l in
      by_form tupling TupleOf (tuple (args_of b p n a m)) tuple-inferred refl (s, ss, e, refl)
    where
      split : (i : ℕ) → 0 < i → (s : Sort) × (ss : Sorts) × (args_of b p n a i ≡ s then ss)
      split zero k = absurd (omega arith)
      split (suc i) k = (sort_at b p n (u16_at a 3), sorts_of (store_of b p n) (numbers_at a 5 i), first-more b p n a i)

  pub unit-fits : FitFor b p n a m (Sets TupleUnit) (Some (Gathered UnitTuple))
  unfolding fitted set_computes operated_by
  unit-fits = record { is = refl; ok = refl }

-- The columns that were read stand within the bytes.
pub columns-within : {b p : List ℕ} {n k : ℕ} → Stored b p n → k < n → {c : Span} → ColumnsHas b p k (Some c) → c.at + 2 * c.count ≤ length b
columns-within {b} {p} {n} {k} s l h = (relation-read b p n k s l h).1.within

---------------------------------------------------------------- relations
module _ {b p : List ℕ} {n : ℕ} {a : List ℕ} {m : ℕ} (o : Over b p n a m) (one : m ≡ 1) {k : ℕ} (ek : k ≡ u16_at a 3) where
  pub only-below : k < n
  only-below = subst (λ (j : ℕ). j < n) (sym ek) (o.below 0 (omega arith))

  the-arg : args_of b p n a m ≡ sort_at b p n k then end
  the-arg = one-arg b p n a one ∙ ap (λ (j : ℕ). sort_at b p n j then end) (sym ek)

  pub transpose-not : ColumnsHas b p k None → FitFor b p n a m (Sets Transpose) None
  unfolding fitted set_computes computes
  transpose-not h =
      subst (λ (ts : Sorts). FitIs n (store_of b p n) (args_of b p n a m) (or_cause (set_computes Transpose ts) Misfit) None) (sym the-arg)
      (no-when (set (tuple (backwards (columns (sort_at b p n k))))) (relation-none b p n k o.stored only-below h))

  pub transpose-fits : {c : Span} → ColumnsHas b p k (Some c) → FitFor b p n a m (Sets Transpose) (Some (Gathered Backwards))
  unfolding fitted set_computes
  transpose-fits {c} h =
      let (e, st) = relation-read b p n k o.stored only-below h in
      let cs = sorts_in b p n b c.at c.count in
      by_form transpose Backwards (set (tuple (backwards cs))) transpose-inferred refl (cs, the-arg ∙ ap (λ (s : Sort). s then end) e, refl)

  -- A set of pairs of one sort.
  pub closure-not : ColumnsHas b p k None → FitFor b p n a m (Sets Closure) None
  unfolding fitted set_computes
  closure-not h =
      subst (λ (ts : Sorts). FitIs n (store_of b p n) (args_of b p n a m) (or_cause (set_computes Closure ts) Misfit) None) (sym the-arg)
      (no-when (sort_at b p n k) (same-other (sort_at b p n k) (pairs (first_part (columns (sort_at b p n k))))
      (λ e. clash (ap relation e ∙ same_refl (pairs (first_part (columns (sort_at b p n k))))) (relation-none b p n k o.stored only-below h))))

  module _ {c : Span} (h : ColumnsHas b p k (Some c)) where
    listed : sort_at b p n k ≡ set (tuple (sorts_in b p n b c.at c.count))
    listed = (relation-read b p n k o.stored only-below h).0

    pub stand : ColumnsStand b n c.at c.count
    stand = (relation-read b p n k o.stored only-below h).1

    pub closure-many : (c.count ≡ 2 → ⊥) → FitFor b p n a m (Sets Closure) None
    unfolding fitted set_computes count
    closure-many d =
        let cs = sorts_in b p n b c.at c.count in
        let f = first_part (columns (sort_at b p n k)) in
        subst (λ (ts : Sorts). FitIs n (store_of b p n) (args_of b p n a m) (or_cause (set_computes Closure ts) Misfit) None) (sym the-arg)
        (no-when (sort_at b p n k) (same-other (sort_at b p n k) (pairs f)
        (λ e. let z : cs ≡ f then f then end = tuple-inj (sym listed ∙ e) in
        d (sym (count-sorts (store_of b p n) (numbers_at b c.at c.count) ∙ length-numbers_at b c.at c.count) ∙ ap count z))))

    pub closure-fits : c.count ≡ 2 → {i j : ℕ} → i ≡ u16_at b (c.at + 0) → j ≡ u16_at b (c.at + 2) → (t : Bool) → t ≡ eqb i j → {x : Option Fit} → x ≡ then_some t (Known k)
        → FitFor b p n a m (Sets Closure) x
    unfolding fitted set_computes sort_at sorts_of numbers_at
    closure-fits two {i} {j} ei ej t e {x} q =
        let z : c.at + 0 ≡ c.at = omega arith in
        let s = sort_at b p n i in
        let r = sort_at b p n j in
        let cs : sorts_in b p n b c.at c.count ≡ s then r then end =
        ap (λ (m : ℕ). sorts_in b p n b c.at m) two ∙ ap₂ (λ (x y : ℕ). sort_at b p n x then sort_at b p n y then end) (sym (ei ∙ ap (u16_at b) z)) (sym ej) in
        let y : c.at + 2 * 0 ≡ c.at + 0 = omega arith in
        let w : c.at + 2 * 1 ≡ c.at + 2 = omega arith in
        let li : i < n = omega (arith, ei, ap (u16_at b) y, stand.below 0 (omega (arith, two))) in
        let lj : j < n = omega (arith, ej, ap (u16_at b) w, stand.below 1 (omega (arith, two))) in
        let g : sort_at b p n k ≡ set (tuple (s then r then end)) = listed ∙ ap (λ (ss : Sorts). set (tuple ss)) cs in
        subst (λ (ts : Sorts). FitIs n (store_of b p n) (args_of b p n a m) (or_cause (set_computes Closure ts) Misfit) x) (sym the-arg)
        (by_when (Known k) t (sort_at b p n k) q
        (e ∙ sym (numbers-same i j o.stored o.distinct li lj) ∙ sym (ap (λ (u : Sort). same u (pairs (first_part (columns u)))) g ∙ pair-same s r)) refl (λ h. only-below))

---------------------------------------------------------------- two relations
touch-joined : (as' : Sorts) (c d : Sort) (bs : Sorts) → touch (joined as' c) (d then bs) ≡ same c d
unfolding touch joined last_of
touch-joined end c d bs = refl
touch-joined (a then end) c d bs = refl
touch-joined (a then (e then es)) c d bs = touch-joined (e then es) c d bs

-- Whether two lists of numbers touch.
module _ (b : List ℕ) (l r : Span) where
  pub touch-left : l.count ≡ 0 → TouchHas b l r false
  unfolding touch sorts_of numbers_at
  touch-left e p n s d left right = sym (ap (λ (m : ℕ). touch (sorts_of (store_of b p n) (numbers_at b l.at m)) (sorts_of (store_of b p n) (numbers_at b r.at r.count))) e)

  pub touch-right : r.count ≡ 0 → TouchHas b l r false
  unfolding touch sorts_of numbers_at
  touch-right e p n s d left right =
      let ss = sorts_of (store_of b p n) (numbers_at b l.at l.count) in
      sym (ap (λ (m : ℕ). touch ss (sorts_of (store_of b p n) (numbers_at b r.at m))) e ∙ none-right ss)
    where
      none-right : (ss : Sorts) → touch ss end ≡ false
      none-right end = refl
      none-right (s then ss) = refl

  pub touch-ends : (l.count ≡ 0 → ⊥) → (r.count ≡ 0 → ⊥) → {i j : ℕ} → i ≡ u16_at b (l.at + 2 * (l.count - 1)) → j ≡ u16_at b (r.at + 0) → TouchHas b l r (eqb i j)
  unfolding sorts_of numbers_at sort_at
  touch-ends nl nr {i} {j} ei ej p n s d left right = go l.count r.count refl refl
    where
      at-numbers : i < n → j < n → same (get_or (store_of b p n) i leaf) (get_or (store_of b p n) j leaf) ≡ eqb i j
      at-numbers li lj = numbers-same i j s d li lj

      go : (x y : ℕ) → l.count ≡ x → r.count ≡ y → eqb i j ≡ touch (sorts_of (store_of b p n) (numbers_at b l.at x)) (sorts_of (store_of b p n) (numbers_at b r.at y))
      go zero y e f = absurd (nl e)
      go (suc x) zero e f = absurd (nr f)
      go (suc x) (suc y) e f =
          let u : l.at + 2 * (l.count - 1) ≡ l.at + 2 * x = omega (arith, e) in
          let v : r.at + 0 ≡ r.at = omega arith in
          let w : r.at + 2 * 0 ≡ r.at = omega arith in
          let gi = ei ∙ ap (u16_at b) u in
          let gj = ej ∙ ap (u16_at b) v in
          let li : i < n = omega (arith, gi, left.below x (omega (arith, e))) in
          let lj : j < n = omega (arith, gj, ap (u16_at b) w, right.below 0 (omega (arith, f))) in
          sym (ap (λ (ss : Sorts). touch ss (sorts_of (store_of b p n) (numbers_at b r.at (suc y)))) (sorts-joined (store_of b p n) b l.at x)
          ∙ touch-joined (sorts_of (store_of b p n) (numbers_at b l.at x)) (get_or (store_of b p n) (u16_at b (l.at + 2 * x)) leaf) (get_or (store_of b p n) (u16_at b r.at) leaf) (sorts_of (store_of b p n) (numbers_at b (r.at + 2) y))
          ∙ ap₂ (λ (c f : ℕ). same (get_or (store_of b p n) c leaf) (get_or (store_of b p n) f leaf)) (sym gi) (sym gj)
          ∙ at-numbers li lj)

---------------------------------------------------------------- two arguments
module _ {b p : List ℕ} {n : ℕ} {a : List ℕ} {m : ℕ} (o : Over b p n a m) (two : m ≡ 2) {i k : ℕ} (ei : i ≡ u16_at a 3) (ek : k ≡ u16_at a 5) where
  left-below : i < n
  left-below = subst (λ (j : ℕ). j < n) (sym ei) (o.below 0 (omega arith))

  right-below : k < n
  right-below = subst (λ (j : ℕ). j < n) (sym ek) (o.below 1 (omega arith))

  the-args : args_of b p n a m ≡ sort_at b p n i then sort_at b p n k then end
  the-args = two-args b p n a two ∙ ap₂ (λ (x y : ℕ). sort_at b p n x then sort_at b p n y then end) (sym ei) (sym ek)

  -- An element and its set.
  pub member-not : ElementHas b p k None → FitFor b p n a m (Sets Member) None
  unfolding fitted set_computes
  member-not h =
      subst (λ (ts : Sorts). FitIs n (store_of b p n) (args_of b p n a m) (or_cause (set_computes Member ts) Misfit) None) (sym the-args)
      (no-when bool (same-other (sort_at b p n k) (set (sort_at b p n i))
      (λ e. clash (same-complete (sort_at b p n k) (set (element_of (sort_at b p n k))) (e ∙ ap (λ (s : Sort). set (element_of s)) (sym e))) (h n o.stored right-below))))

  pub member-fits : {j : ℕ} → ElementHas b p k (Some j) → (t : Bool) → t ≡ eqb i j → {x : Option Fit} → x ≡ then_some t (Plain SortBool) → FitFor b p n a m (Sets Member) x
  unfolding fitted set_computes map_of maps
  member-fits {j} h t e {x} q =
      let (l, z) = h n o.stored right-below in
      subst (λ (ts : Sorts). FitIs n (store_of b p n) (args_of b p n a m) (or_cause (set_computes Member ts) Misfit) x) (sym the-args)
      (by_when (Plain SortBool) t bool q
      (e ∙ sym (ap (λ (s : Sort). same s (set (sort_at b p n i))) z ∙ same-sets (sort_at b p n j) (sort_at b p n i) ∙ same-swap (sort_at b p n j) (sort_at b p n i)
      ∙ numbers-same i j o.stored o.distinct left-below l))
      refl (λ w. refl))

  -- One of the two is no relation.
  pub left-not : ColumnsHas b p i None → FitFor b p n a m (Sets Join) None × FitFor b p n a m (Sets Product) None
  unfolding fitted set_computes computes
  left-not h =
      let z = relation-none b p n i o.stored left-below h in
      let s = sort_at b p n i in
      let t = sort_at b p n k in (
        subst (λ (ts : Sorts). FitIs n (store_of b p n) (args_of b p n a m) (or_cause (set_computes Join ts) Misfit) None) (sym the-args)
            (no-when _ (ap (λ (c : Bool). c && relation t && touch (columns s) (columns t)) z)),
        subst (λ (ts : Sorts). FitIs n (store_of b p n) (args_of b p n a m) (or_cause (set_computes Product ts) Misfit) None) (sym the-args)
            (no-when _ (ap (λ (c : Bool). c && relation t) z)),
      )

  pub right-not : ColumnsHas b p k None → FitFor b p n a m (Sets Join) None × FitFor b p n a m (Sets Product) None
  unfolding fitted set_computes computes
  right-not h =
      let z = relation-none b p n k o.stored right-below h in
      let s = sort_at b p n i in
      let t = sort_at b p n k in (
        subst (λ (ts : Sorts). FitIs n (store_of b p n) (args_of b p n a m) (or_cause (set_computes Join ts) Misfit) None) (sym the-args)
            (no-when _ (ap (λ (c : Bool). c && touch (columns s) (columns t)) (ap (relation s &&◌) z ∙ false-second (relation s) false refl))),
        subst (λ (ts : Sorts). FitIs n (store_of b p n) (args_of b p n a m) (or_cause (set_computes Product ts) Misfit) None) (sym the-args)
            (no-when _ (ap (relation s &&◌) z ∙ false-second (relation s) false refl)),
      )

  module _ {c d : Span} (hc : ColumnsHas b p i (Some c)) (hd : ColumnsHas b p k (Some d)) where
    both : args_of b p n a m ≡ set (tuple (sorts_in b p n b c.at c.count)) then set (tuple (sorts_in b p n b d.at d.count)) then end
    both = the-args ∙ ap₂ (λ (s t : Sort). s then t then end) (relation-read b p n i o.stored left-below hc).0 (relation-read b p n k o.stored right-below hd).0

    pub product-fits : FitFor b p n a m (Sets Product) (Some (Gathered SideBySide))
    unfolding fitted set_computes
    product-fits =
        let as' = sorts_in b p n b c.at c.count in
        let bs = sorts_in b p n b d.at d.count in
        by_form product SideBySide (set (tuple (appended as' bs))) product-inferred refl (as', bs, both, refl)

    pub join-fits : (t : Bool) → TouchHas b c d t → {x : Option Fit} → x ≡ then_some t (Gathered Joining) → FitFor b p n a m (Sets Join) x
    unfolding fitted set_computes
    join-fits t h {x} q = go t (h p n o.stored o.distinct (relation-read b p n i o.stored left-below hc).1 (relation-read b p n k o.stored right-below hd).1) q
      where
        go : (t : Bool) → t ≡ touch (sorts_in b p n b c.at c.count) (sorts_in b p n b d.at d.count) → x ≡ then_some t (Gathered Joining)
            → FitIs n (store_of b p n) (args_of b p n a m) (or_cause (computes join (args_of b p n a m)) Misfit) x
        go true e f =
            let (w, z, y) = touch-only (sorts_in b p n b c.at c.count) (sorts_in b p n b d.at d.count) (sym e) in
            subst (λ (v : Option Fit). FitIs n (store_of b p n) (args_of b p n a m) (or_cause (computes join (args_of b p n a m)) Misfit) v) (sym f)
            (by_form join Joining _ join-inferred refl (
              all_but_last (sorts_in b p n b c.at c.count),
              w,
              all_but_first (sorts_in b p n b d.at d.count),
              both ∙ ap₂ (λ (ss ts : Sorts). set (tuple ss) then set (tuple ts) then end) z y,
              refl,
            ))
        go false e f =
            subst (λ (v : Option Fit). FitIs n (store_of b p n) (args_of b p n a m) (or_cause (computes join (args_of b p n a m)) Misfit) v) (sym f)
            (record { is = sym (ap (λ (ts : Sorts). or_cause (computes join ts) Misfit) both ∙ joins-not (sorts_in b p n b c.at c.count) (sorts_in b p n b d.at d.count) (sym e)); ok = tt })
