-- The checked App without parameters: what its steps ask, and that each way through them gives the definition's verdict.
use Prim.Native.Nat.{ℕ, zero, suc, ◌+◌, ◌*◌, ◌-◌, ◌≤◌, ◌<◌}
use mathlib.Core.Path.{◌≡◌, refl, sym, ap, ap₂, subst, ◌∙◌}
use mathlib.Core.Bool.{Bool, true, false, ◌&&◌}
use mathlib.Core.List.{List, [], ◌∷◌}
use Rattle.std.proofs.Common.{◌⊎◌, inl, inr}
use Rattle.std.proofs.lemmas.List.{nil_from_length}
use mathlib.Core.Option.{Option, none, some}
use Rattle.std.specs.Prelude.{Option as Maybe, Some, None}
use native.Mathlib.Omega.{arith}
use native.Mathlib.Nat.{not-suc-le-zero}
use lib.ListN.{length, get_or}
use Rattle.record.specs.Number.{u16_at, numbers_at}
use Rattle.record.specs.Codec.{length-numbers_at, number_at}
use Rattle.record.specs.Sort.{Sort, Sorts, var, par, node, end, ◌then◌, size}
use Rattle.record.specs.Record.{Fields, leaf, sorts_of, sort_of}
use Rattle.record.specs.Decode.{Shape, Below, store_of, sort_at, Stored}
use Rattle.record.specs.Forms.{Which, is_var, is_par, is_node, which, sort-var, sort-par, sort-other, par-one}
use Rattle.record.specs.Cases.{and_left}
use Rattle.record.specs.StoreLaws.{sort-node, sorts-one}
use Rattle.store.specs.Walk.{size-pos}
use Rattle.substitution.specs.Substitution.{Map, empty}
use Rattle.substitution.proofs.SubstitutionLaws.{apply-empty}
use Rattle.substitution.specs.Premises.{parless, any_name, named, named_all}
use Rattle.substitution.specs.Matching.{and_then, matches, matches_all}
use Rattle.matching_tables.specs.Usable.{Usable, sorts_at}
use Rattle.row_rules.specs.declared.Cause.TheVariants.{Misfit, Unassigned}
use Rattle.row_rules.specs.Verdict.{Verdict, sort, refused, need}
use Rattle.row_rules.specs.Lists.{remaining}
use Rattle.check_rules.specs.Checked.{values, delivered, called}
use Rattle.row_answer.specs.Answer.{Answer}
use Rattle.row_answer.specs.Answer.{AnswerIs, refusing}
use Rattle.row_answer.specs.AnswerLaws.{judged-as, answered-as, made-refused}
use Rattle.row_answer.specs.Asks.{RemainingAsks}
use Rattle.row_application.specs.Contract.{NoNames, ExactAsks, ExactIs, PlainAppAsks, PlainAppIs, rest_at, delivered_at}
use Rattle.row_answer.proofs.ValueLaws.{refs-all}
use Rattle.row_application.proofs.ListLaws.{refs-behind}
use Rattle.row_application.proofs.PlainLaws.{fits-itself, fits-other, fits-par, values-fit, settled_plain}
use Rattle.row_application.proofs.CalledLaws.{called-under}

---------------------------------------------------------------- a sort of tree size 1
-- It has no parts.
small-parless : (s : Sort) → size s ≡ 1 → true ≡ parless s
unfolding size parless
small-parless (var v) e = refl
small-parless (par ns b) e = let z = size-pos b in absurd (omega arith)
small-parless (node k a w end) e = refl
small-parless (node k a w (s then ss)) e = let z = size-pos s in absurd (omega arith)

pub leaf-parless : (s : Sort) {v : ℕ} → v ≡ size s → v ≡ 1 → true ≡ parless s
leaf-parless s {v} h e = small-parless s (sym h ∙ e)

-- The sort that was asked about last, if one was, is free of Par.
abbrev pub LastFree : List ℕ → List ℕ → ℕ → Maybe ℕ → Type 0
LastFree b p n None = Unit {0}
LastFree b p n (Some k) = parless (sort_at b p n k) ≡ true

pub last-free : (b p : List ℕ) (n : ℕ) {o : Maybe ℕ} {k : ℕ} → LastFree b p n o → o ≡ Some k → parless (sort_at b p n k) ≡ true
last-free b p n h e = subst (LastFree b p n) e h

---------------------------------------------------------------- the arguments, one after another
-- What is left, the numbers xs and ys, decides the whole.
pub record ExactRun (b p : List ℕ) (n x : ℕ) (a : List ℕ) (k : ℕ) (xs ys : List ℕ) : Type 0 where
  pub usable : Usable b p n
  pub even : length xs ≡ length ys
  pub sorts : (j : ℕ) → j < length xs → get_or xs j 0 < n
  pub arguments : (j : ℕ) → j < length ys → get_or ys j 0 < n
  pub rest : (f : ℕ → Bool) → NoNames f
      → matches_all f (sorts_of (store_of b p n) xs) (sorts_of (store_of b p n) ys) empty ≡ matches_all f (sorts_at b p n b x k) (sorts_at b p n a 5 k) empty

pub exact-start : {b p : List ℕ} {n u x : ℕ} {a : List ℕ} {k : ℕ} → ExactAsks b p n u x a k → ExactRun b p n x a k (numbers_at b x k) (numbers_at a 5 k)
exact-start {b} {p} {n} {u} {x} {a} {k} h =
    record {
      usable = h.pairs.usable;
      even = length-numbers_at b x k ∙ sym (length-numbers_at a 5 k);
      sorts = refs-all b x k n h.pairs.left;
      arguments = refs-all a 5 k n h.pairs.right;
      rest = λ f q. refl;
    }

module _ {b p : List ℕ} {n x : ℕ} {a : List ℕ} {k : ℕ} {xs ys : List ℕ} (h : ExactRun b p n x a k xs ys) where
  exact-ended : (xs ≡ []) → (ys ≡ []) → ExactIs b p n x a k true
  unfolding matches sorts_of
  exact-ended ex ey f q = sym (h.rest f q) ∙ ap₂ (λ (r s : List ℕ). matches_all f (sorts_of (store_of b p n) r) (sorts_of (store_of b p n) s) empty) ex ey

  pub exact-end : (xs ≡ []) ⊎ (ys ≡ []) → ExactIs b p n x a k true
  exact-end (inl e) = exact-ended e (nil_from_length ys (sym h.even ∙ ap length e))
  exact-end (inr e) = exact-ended (nil_from_length xs (h.even ∙ ap length e)) e

  module _ {i o : ℕ} {xs' ys' : List ℕ} (e : xs ≡ i ∷ xs') (g : ys ≡ o ∷ ys') where
    pub known-first : i < n
    known-first = let z = h.sorts 0 (omega (arith, ap length e)) in omega (arith, z, ap (λ (r : List ℕ). get_or r 0 0) e)

    known-second : o < n
    known-second = let z = h.arguments 0 (omega (arith, ap length g)) in omega (arith, z, ap (λ (r : List ℕ). get_or r 0 0) g)

    -- By what the first argument gives.
    by_first : (f : ℕ → Bool) → NoNames f → (v : Option Map) → matches f (sort_at b p n i) (sort_at b p n o) empty ≡ v
        → and_then v (λ m. matches_all f (sorts_of (store_of b p n) xs') (sorts_of (store_of b p n) ys') m)
        ≡ matches_all f (sorts_at b p n b x k) (sorts_at b p n a 5 k) empty
    unfolding matches sorts_of sort_at
    by_first f q v c =
        ap (λ (u : Option Map). and_then u (λ m. matches_all f (sorts_of (store_of b p n) xs') (sorts_of (store_of b p n) ys') m)) (sym c)
        ∙ ap₂ (λ (r s : List ℕ). matches_all f (sorts_of (store_of b p n) r) (sorts_of (store_of b p n) s) empty) (sym e) (sym g)
        ∙ h.rest f q

    pub exact-differ : (i ≡ o → ⊥) → ExactIs b p n x a k false
    exact-differ d f q =
        sym (by_first f q none (fits-other f q (sort_at b p n i) (sort_at b p n o)
        (λ z. d (sorts-one b p n h.usable.stored h.usable.distinct i o known-first known-second z))))

    module _ {s : Bool} (t : s ≡ parless (sort_at b p n i)) where
      pub exact-par : s ≡ false → ExactIs b p n x a k false
      exact-par z f q = sym (by_first f q none (fits-par f q (sort_at b p n i) (sort_at b p n o) (sym t ∙ z)))

      pub exact-step : i ≡ o → s ≡ true → ExactRun b p n x a k xs' ys'
      exact-step d z =
          record {
            usable = h.usable;
            even = omega (arith, h.even, ap length e, ap length g);
            sorts = λ j l. let y = h.sorts (suc j) (omega (arith, ap length e)) in omega (arith, y, ap (λ (r : List ℕ). get_or r (suc j) 0) e);
            arguments = λ j l. let y = h.arguments (suc j) (omega (arith, ap length g)) in omega (arith, y, ap (λ (r : List ℕ). get_or r (suc j) 0) g);
            rest = λ f q.
                by_first f q (some empty)
                (ap (λ (c : ℕ). matches f (sort_at b p n i) (sort_at b p n c) empty) (sym d) ∙ fits-itself f q (sort_at b p n i) (sym t ∙ z));
          }

---------------------------------------------------------------- each Par of a stored sort has a name
module _ (st : List Sort) (m : ℕ) (each : (i : ℕ) → i < m → named (get_or st i leaf) ≡ true) where
  named-sorts : (rs : List ℕ) → ((j : ℕ) → j < length rs → get_or rs j 0 < m) → named_all (sorts_of st rs) ≡ true
  unfolding named sorts_of
  named-sorts [] h = refl
  named-sorts (r ∷ rs) h = ap₂ ◌&&◌ (each r (h 0 (omega arith))) (named-sorts rs (λ j l. h (suc j) (omega arith)))

  any : (ns : List ℕ) → 1 ≤ length ns → any_name ns ≡ true
  any [] h = absurd (not-suc-le-zero h)
  any (n ∷ ns) h = refl

  named-sort : {f : Fields} → Shape f → Below f m → named (sort_of st f) ≡ true
  unfolding named
  named-sort {f} s h = go (which f.kind)
    where
      go : Which f.kind → named (sort_of st f) ≡ true
      go (is_var e) = ap named (sort-var st f e)
      go (is_par e) =
          ap named (sort-par st f e) ∙ ap₂ ◌&&◌ (any f.names (s.some e)) (each (get_or f.list 0 0) (h 0 (omega (arith, par-one f s e))))
      go (is_node p q) = ap named (sort-other st f p q) ∙ named-sorts f.list h

module _ {b p : List ℕ} {n : ℕ} (stored : Stored b p n) where
  named-below : (j k : ℕ) → k < j → k < n → named (sort_at b p n k) ≡ true
  unfolding sort_at
  named-below zero k h l = absurd (not-suc-le-zero h)
  named-below (suc j) k h l =
      ap named (sort-node b p n k stored l)
      ∙ named-sort (store_of b p n) k (λ i o. named-below j i (omega arith) (omega arith))
      (stored.each k l).shape (stored.each k l).below

  named-list : (x m : ℕ) → ((j : ℕ) → j < m → u16_at b (x + 2 * j) < n) → named_all (sorts_at b p n b x m) ≡ true
  unfolding sort_at
  named-list x m h =
      named-sorts (store_of b p n) n (λ i l. named-below (suc i) i (omega arith) l) (numbers_at b x m)
      (λ j l. let z : j < m = omega (arith, length-numbers_at b x m) in omega (arith, number_at b x m j z, h j z))

named-remaining : (ss : Sorts) → named_all ss ≡ true → named (remaining ss) ≡ true
unfolding named
named-remaining end e = refl
named-remaining (s then end) e = and_left (named s) true e
named-remaining (s then (r then rs)) e = e

---------------------------------------------------------------- a head at its arguments
misfit-either : (t : Bool) → need t Misfit (refused Misfit) ≡ refused Misfit
misfit-either true = refl
misfit-either false = refl

module _ {b p ix : List ℕ} {n u x m : ℕ} {a : List ℕ} {k : ℕ} (h : PlainAppAsks b p ix n u x m a k) where
  pub remaining-asks : (rec : List ℕ) → length rec ≡ 131 → RemainingAsks b p ix n u rec (x + 2 * k) (m - k)
  remaining-asks rec e =
      let r = refs-behind k h.list (omega (arith, h.fewer)) in
      record { good = h.good; room = omega arith; within = r.within; below = r.below; few = omega (arith, h.few) }

  module _ (f : ℕ → Bool) (q : NoNames f) where
    abbrev ts : Sorts
    ts = sorts_at b p n a 5 k

    -- The empty map leaves what remains, which has no name to be bound.
    rest-is : delivered_at f b p n x m a k ≡ delivered f (rest_at b p n x m k) (some empty) → delivered_at f b p n x m a k ≡ sort (rest_at b p n x m k)
    rest-is e =
        let s = rest_at b p n x m k in
        let r = refs-behind k h.list (omega (arith, h.fewer)) in
        e ∙ ap₂ (λ (t : Bool) (o : Sort). need t Unassigned (sort o)) (settled_plain f q empty s)
        (apply-empty s (named-remaining (sorts_at b p n b (x + 2 * k) (m - k)) (named-list h.good.stored (x + 2 * k) (m - k) r.below)))

    pub called-exact : ExactIs b p n x a k true → called f (some (sorts_at b p n b x m)) ts ≡ sort (rest_at b p n x m k)
    called-exact e =
        called-under b p n x m a k f h.fewer
        ∙ ap₂ (λ (t : Bool) (v : Verdict). need t Misfit v) (values-fit f q (sorts_at b p n b x k) ts empty empty (e f q))
        (rest-is (ap (delivered f (rest_at b p n x m k)) (e f q)))

    pub called-other : ExactIs b p n x a k false → called f (some (sorts_at b p n b x m)) ts ≡ refused Misfit
    called-other e =
        called-under b p n x m a k f h.fewer
        ∙ ap (λ (v : Verdict). need (values ts) Misfit v) (ap (delivered f (rest_at b p n x m k)) (e f q)) ∙ misfit-either (values ts)

  module _ (t : Bool) (e : ExactIs b p n x a k t) where
    pub plain-made : t ≡ true → {b' p' ix' : List ℕ} {r : Answer} → AnswerIs b p n (sort (rest_at b p n x m k)) b' p' ix' r
        → PlainAppIs b p n x m a k b' p' ix' r
    plain-made z {b'} {p'} {ix'} {r} g f q = judged-as (called-exact f q (subst (ExactIs b p n x a k) z e)) g

    pub plain-refused : t ≡ false → {r : Answer} → r ≡ refusing Misfit n u → PlainAppIs b p n x m a k b p ix r
    plain-refused z {r} g f q =
        judged-as (called-other f q (subst (ExactIs b p n x a k) z e)) (answered-as g (made-refused b p ix n u h.good Misfit))
