-- An App by its head: the verdicts by what the head is, the size of its list, and what is asked of the functions for each.
use Prim.Native.Nat.{ℕ, zero, suc, ◌+◌, ◌*◌, ◌-◌, ◌≤◌, ◌<◌}
use mathlib.Core.Path.{◌≡◌, refl, sym, ap, ap₂, subst, ◌∙◌}
use mathlib.Core.Bool.{Bool, true, false, cond}
use mathlib.Core.List.{List, [], ◌∷◌}
use mathlib.Core.Option.{none, some}
use native.Mathlib.Omega.{arith}
use lib.Dec.{eqb, leb}
use borrow.Author.Tests.{le-leb, lt-leb}
use Rattle.record.specs.Names.{member}
use Rattle.record.specs.Number.{u16_at, numbers_at}
use Rattle.record.specs.Sort.{Sort, Sorts, var, par, node, ◌then◌, count, size, sizes}
use Rattle.record.specs.Decode.{store_of, sort_at}
use Rattle.substitution.specs.Substitution.{empty}
use Rattle.substitution.specs.Matching.{listed_in}
use Rattle.substitution.specs.MatchWith.{match_all_with}
use Rattle.matching_tables.specs.Tables.{Blank}
use Rattle.matching_tables.specs.Usable.{Refs, sorts_at}
use Rattle.matching_tables.specs.Entered.{sorts-end, sorts-more}
use Rattle.row_rules.specs.declared.Cause.TheVariants.{Panics, Count, Misfit}
use Rattle.row_rules.specs.Verdict.{Verdict, sort, refused, need}
use Rattle.row_rules.specs.Lists.{firsts, others, remaining}
use Rattle.row_rules.specs.Outcome.{outcome}
use Rattle.infer_rules.specs.Inferred.{substituted, plain_app, parametric_app, head_app, inferred_app}
use Rattle.check_rules.specs.Checked.{parameters, function_list, called, checked_app}
use Rattle.row_answer.specs.declared.heads.Callee.{Callee}
use Rattle.std.specs.Prelude.{Option, Some, None}
use Rattle.row_answer.specs.Heads.{Headed, plain_head, par_head, other, head_in, head_over, callee_names, callee_sorts, FunctionIs, HeadIs, HeadHas}
use Rattle.row_answer.specs.Asks.{RemainingAsks}
use Rattle.row_answer.specs.Lent.{lent-under}
use Rattle.row_application.specs.Contract.{AppAsks, AppCrowded, CalledAsks, CalledCrowded, ParametricAsks, rest_at, substituted_at}
use Rattle.row_application.proofs.ListLaws.{count_at, firsts_at, others-at, refs-behind, refs-args}

---------------------------------------------------------------- the checked verdict by the head
abbrev called_of : Headed → Sorts → Verdict
called_of (plain_head ss) ts = called (λ v. false) (some ss) ts
called_of (par_head ns ss) ts = called (listed_in ns) (some ss) ts
called_of other ts = refused Misfit

plain-called : (t : Bool) (ss ts : Sorts) → called (λ v. false) (cond t (some ss) none) ts ≡ called_of (cond t (plain_head ss) other) ts
unfolding called
plain-called true ss ts = refl
plain-called false ss ts = refl

under-called : (t : Bool) (ns : List ℕ) (ss ts : Sorts) → called (listed_in ns) (cond t (some ss) none) ts ≡ called_of (cond t (par_head ns ss) other) ts
unfolding called
under-called true ns ss ts = refl
under-called false ns ss ts = refl

called-head : (h : Sort) (ts : Sorts) → called (λ v. parameters h v) (function_list h) ts ≡ called_of (head_in h) ts
unfolding called
called-head (var v) ts = refl
called-head (par ns (var v)) ts = refl
called-head (par ns (par ms b)) ts = refl
called-head (par ns (node k a w ss)) ts = under-called (eqb k 0) ns ss ts
called-head (node k a w ss) ts = plain-called (eqb k 0) ss ts

called-over : (vs : List ℕ) (ss ts : Sorts) → called_of (head_over vs ss) ts ≡ called (listed_in vs) (some ss) ts
unfolding member
called-over [] ss ts = refl
called-over (v ∷ vs) ss ts = refl

---------------------------------------------------------------- the inferred verdict by the head
abbrev applied_of : Headed → Sorts → Verdict
applied_of (plain_head ss) ts = plain_app ss ts
applied_of (par_head ns ss) ts = parametric_app ns ss ts
applied_of other ts = refused Panics

plain-applied : (t : Bool) (ss ts : Sorts) → cond t (plain_app ss ts) (refused Panics) ≡ applied_of (cond t (plain_head ss) other) ts
plain-applied true ss ts = refl
plain-applied false ss ts = refl

under-applied : (t : Bool) (ns : List ℕ) (ss ts : Sorts) → cond t (parametric_app ns ss ts) (refused Panics) ≡ applied_of (cond t (par_head ns ss) other) ts
under-applied true ns ss ts = refl
under-applied false ns ss ts = refl

applied-head : (h : Sort) (ts : Sorts) → head_app h ts ≡ applied_of (head_in h) ts
applied-head (var v) ts = refl
applied-head (par ns (var v)) ts = refl
applied-head (par ns (par ms b)) ts = refl
applied-head (par ns (node k a w ss)) ts = under-applied (eqb k 0) ns ss ts
applied-head (node k a w ss) ts = plain-applied (eqb k 0) ss ts

applied_plain : (b : List ℕ) (y q : ℕ) (ss ts : Sorts) → q ≡ 0 → applied_of (head_over (numbers_at b y q) ss) ts ≡ plain_app ss ts
unfolding numbers_at
applied_plain b y zero ss ts e = refl
applied_plain b y (suc q) ss ts e = absurd (omega arith)

applied-under : (b : List ℕ) (y q : ℕ) (ss ts : Sorts) → (q ≡ 0 → ⊥) → applied_of (head_over (numbers_at b y q) ss) ts ≡ parametric_app (numbers_at b y q) ss ts
unfolding numbers_at
applied-under b y zero ss ts d = absurd (d refl)
applied-under b y (suc q) ss ts d = refl

---------------------------------------------------------------- the size of the head's list
abbrev sizes_in : Headed → ℕ
sizes_in (plain_head ss) = sizes ss
sizes_in (par_head ns ss) = sizes ss
sizes_in other = 0

plain-sizes : (t : Bool) (ss : Sorts) → sizes_in (cond t (plain_head ss) other) ≤ sizes ss
plain-sizes true ss = omega arith
plain-sizes false ss = omega arith

under-sizes : (t : Bool) (ns : List ℕ) (ss : Sorts) → sizes_in (cond t (par_head ns ss) other) ≤ sizes ss
under-sizes true ns ss = omega arith
under-sizes false ns ss = omega arith

head-sizes : (h : Sort) → sizes_in (head_in h) ≤ size h
unfolding size
head-sizes (var v) = omega arith
head-sizes (par ns (var v)) = omega arith
head-sizes (par ns (par ms b)) = omega arith
head-sizes (par ns (node k a w ss)) = omega (arith, under-sizes (eqb k 0) ns ss)
head-sizes (node k a w ss) = omega (arith, plain-sizes (eqb k 0) ss)

over-sizes : (vs : List ℕ) (ss : Sorts) → sizes_in (head_over vs ss) ≡ sizes ss
over-sizes [] ss = refl
over-sizes (v ∷ vs) ss = refl

---------------------------------------------------------------- an App
module _ {b p ix : List ℕ} {n u : ℕ} {prm imgs bnd a : List ℕ} {m : ℕ} (h : AppAsks b p ix n u prm imgs bnd a m) where
  pub app-count : m < 2 → checked_app (sorts_at b p n a 3 m) ≡ refused Count
  unfolding checked_app
  app-count l = go m l
    where
      go : (i : ℕ) → i < 2 → checked_app (sorts_at b p n a 3 i) ≡ refused Count
      go zero o = ap checked_app (sorts-end b p n a 3 0 refl)
      go (suc zero) o =
          ap checked_app (sorts-more b p n a 3 1 (omega arith) ∙ ap (sort_at b p n (u16_at a 3) then◌) (sorts-end b p n a 5 0 refl))
      go (suc (suc i)) o = absurd (omega arith)

  pub applied-none : m ≡ 0 → inferred_app (sorts_at b p n a 3 m) ≡ refused Panics
  applied-none e = ap inferred_app (sorts-end b p n a 3 m e)

-- An App with a head of the store number i, and what `head_of` gave of it.
pub record HeadFound (b p ix : List ℕ) (n u : ℕ) (prm imgs bnd a : List ℕ) (m i : ℕ) (r : Option Callee) : Type 0 where
  pub asks : AppAsks b p ix n u prm imgs bnd a m
  pub more : 0 < m
  pub number : i ≡ u16_at a 3
  pub head : HeadHas b p i r

-- With a head, by its number.
module _ {b p ix : List ℕ} {n u : ℕ} {prm imgs bnd a : List ℕ} {m i : ℕ} {r : Option Callee} (o : HeadFound b p ix n u prm imgs bnd a m i r) where
  known : i < n
  known = subst (◌< n) (sym o.number) (o.asks.below 0 o.more)

  abbrev ts : Sorts
  ts = sorts_at b p n a 5 (m - 1)

  sorts-head : sorts_at b p n a 3 m ≡ sort_at b p n i then ts
  sorts-head = sorts-more b p n a 3 m o.more ∙ ap (λ (j : ℕ). sort_at b p n j then ts) (sym o.number)

  by-applied : inferred_app (sorts_at b p n a 3 m) ≡ applied_of (head_in (sort_at b p n i)) ts
  by-applied = ap inferred_app sorts-head ∙ applied-head (sort_at b p n i) ts

  by-called : 2 ≤ m → checked_app (sorts_at b p n a 3 m) ≡ called_of (head_in (sort_at b p n i)) ts
  unfolding checked_app
  by-called l =
      let next : ts ≡ sort_at b p n (u16_at a 5) then sorts_at b p n a 7 (m - 1 - 1) = sorts-more b p n a 5 (m - 1) (omega arith) in
      ap checked_app (sorts-head ∙ ap (sort_at b p n i then◌) next)
      ∙ ap (called (λ v. parameters (sort_at b p n i) v) (function_list (sort_at b p n i))) (sym next) ∙ called-head (sort_at b p n i) ts

  is : HeadIs b p n i r
  is = o.head n o.asks.good.stored known

  pub app-other : 2 ≤ m → r ≡ None → checked_app (sorts_at b p n a 3 m) ≡ refused Misfit
  app-other l g = by-called l ∙ ap (λ (z : Headed). called_of z ts) (subst (HeadIs b p n i) g is)

  pub applied-other : r ≡ None → inferred_app (sorts_at b p n a 3 m) ≡ refused Panics
  applied-other g = by-applied ∙ ap (λ (z : Headed). applied_of z ts) (subst (HeadIs b p n i) g is)

  module _ {f : Callee} (g : r ≡ Some f) where
    function : FunctionIs b p n i f
    function = subst (HeadIs b p n i) g is

    abbrev ss : Sorts
    ss = callee_sorts b p n f

    refs : Refs b f.list.at f.list.count n
    refs = record { within = function.list; below = λ j l. omega (arith, function.below j l, known) }

    -- A head with parameters is a Par of the store, so the tables have all names.
    named_blank : (q : ℕ) → head_in (sort_at b p n i) ≡ head_over (numbers_at b f.names.at q) ss → (q ≡ 0 → ⊥) → Blank prm imgs bnd
    unfolding numbers_at
    named_blank zero e d = absurd (d refl)
    named_blank (suc q) e d = lent-under o.asks.tables i (numbers_at b f.names.at (suc q)) ss e

    pub called-asks : CalledAsks b p ix n u prm imgs bnd f a (m - 1)
    called-asks =
        record {
          good = o.asks.good;
          blank = named_blank f.names.count function.head;
          list = refs;
          few = function.few;
          names = function.names;
          named = function.named;
          args = refs-args a n m o.asks.few o.asks.room o.asks.below;
        }

    pub app-called : 2 ≤ m → checked_app (sorts_at b p n a 3 m) ≡ called (listed_in (callee_names b f)) (some ss) ts
    app-called l = by-called l ∙ ap (λ (z : Headed). called_of z ts) function.head ∙ called-over (callee_names b f) ss ts

    -- More arguments than sorts, a plain head, a head under a Par.
    counted : (v : Verdict) → need (leb (count ts) (count ss)) Panics v ≡ need (leb (m - 1) f.list.count) Panics v
    counted v =
        ap₂ (λ (i j : ℕ). need (leb i j) Panics v) (count_at (store_of b p n) a 5 (m - 1)) (count_at (store_of b p n) b f.list.at f.list.count)

    by-head : inferred_app (sorts_at b p n a 3 m) ≡ applied_of (head_over (callee_names b f) ss) ts
    by-head = by-applied ∙ ap (λ (z : Headed). applied_of z ts) function.head

    over-many : (vs : List ℕ) → f.list.count < m - 1 → applied_of (head_over vs ss) ts ≡ refused Panics
    unfolding plain_app parametric_app
    over-many [] l =
        counted (sort (remaining (others ss ts)))
        ∙ ap (λ (t : Bool). need t Panics (sort (remaining (others ss ts)))) (lt-leb (m - 1) f.list.count l)
    over-many (v ∷ vs) l =
        let s = substituted (remaining (others ss ts)) (match_all_with (v ∷ vs) (firsts ss ts) ts empty) in
        counted s ∙ ap (λ (t : Bool). need t Panics s) (lt-leb (m - 1) f.list.count l)

    pub applied-many : f.list.count < m - 1 → inferred_app (sorts_at b p n a 3 m) ≡ refused Panics
    applied-many l = by-head ∙ over-many (callee_names b f) l

    module _ (l : m - 1 ≤ f.list.count) where
      pub remaining-asks : RemainingAsks b p ix n u a (f.list.at + 2 * (m - 1)) (f.list.count - (m - 1))
      remaining-asks =
          let behind = refs-behind (m - 1) refs l in
          record {
            good = o.asks.good;
            room = omega (arith, o.asks.room);
            within = behind.within;
            below = behind.below;
            few = omega (arith, function.few);
          }

      pub applied-rest : f.names.count ≡ 0 → inferred_app (sorts_at b p n a 3 m) ≡ sort (rest_at b p n f.list.at f.list.count (m - 1))
      unfolding plain_app
      applied-rest z =
          by-head ∙ applied_plain b f.names.at f.names.count ss ts z ∙ counted (sort (remaining (others ss ts)))
          ∙ ap (λ (t : Bool). need t Panics (sort (remaining (others ss ts)))) (le-leb (m - 1) f.list.count l)
          ∙ ap (λ (o : Sorts). sort (remaining o)) (others-at (store_of b p n) b f.list.at f.list.count a 5 (m - 1) l)

      pub parametric-asks : (f.names.count ≡ 0 → ⊥) → ParametricAsks b p ix n u prm imgs bnd f a (m - 1)
      parametric-asks d =
          record {
            called = called-asks;
            parameters = d;
            fewer = l;
            small =
                omega (
                  arith,
                  over-sizes (callee_names b f) ss,
                  ap sizes_in function.head,
                  head-sizes (sort_at b p n i),
                  o.asks.good.sized.small i known,
                );
          }

      pub applied-parametric : (f.names.count ≡ 0 → ⊥) → inferred_app (sorts_at b p n a 3 m) ≡ substituted_at b p n f a (m - 1)
      unfolding parametric_app
      applied-parametric z =
          let vs = callee_names b f in
          let s = substituted (remaining (others ss ts)) (match_all_with vs (firsts ss ts) ts empty) in
          by-head ∙ applied-under b f.names.at f.names.count ss ts z ∙ counted s ∙ ap (λ (t : Bool). need t Panics s) (le-leb (m - 1) f.list.count l)
          ∙ ap₂ (λ (o e : Sorts). substituted (remaining o) (match_all_with vs e ts empty))
          (others-at (store_of b p n) b f.list.at f.list.count a 5 (m - 1) l)
          (firsts_at (store_of b p n) b f.list.at f.list.count a 5 (m - 1) l)

    -- No room for the inferred verdict is none for the head's.
    pub app-crowded : (t : Bool) → AppCrowded t b p n a m → CalledCrowded t b p n f a (m - 1)
    app-crowded t x e d l ln y z = ap (outcome ln (store_of b p n)) (sym (applied-parametric l d)) ∙ x e ln y z
