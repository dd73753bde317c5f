-- The verdicts on Binders, by what was read of the pairs and of the body.
use Prim.Native.Nat.{ℕ, zero, suc, ◌+◌, ◌*◌, ◌≤◌, ◌<◌}
use mathlib.Core.Path.{◌≡◌, refl, sym, ap, ap₂, subst, ◌∙◌}
use mathlib.Core.Bool.{Bool, true, false, cond, ◌&&◌}
use mathlib.Core.List.{List}
use mathlib.Core.Logic.{◌⊎◌, inl, inr}
use native.Mathlib.Omega.{arith}
use native.Mathlib.Nat.{not-suc-le-zero}
use lib.ListN.{length, get_or}
use lib.Dec.{eqb, ltb}
use borrow.Author.Tests.{eq-eqb, ne_eqb, lt-ltb}
use Rattle.record.specs.Number.{u16_at, numbers_at, pairs_at}
use Rattle.record.specs.Sort.{Sort, Sorts, end, ◌then◌, bool, function, kind_of, count, same}
use Rattle.record.specs.SortLaws.{same-sound, same-swap}
use Rattle.record.specs.Record.{maps, map_of, leaf, sorts_of}
use Rattle.record.specs.Decode.{store_of, sort_at}
use Rattle.record.specs.Cases.{false-second}
use Rattle.reader.specs.Reader.{pair_sorts_at}
use Rattle.store.specs.Entry.{KindHas}
use Rattle.record.specs.Kinds.{binder_number, BinderDecodes}
use Rattle.record.specs.declared.kinds.Binder.{Binder}
use Rattle.record.specs.declared.kinds.Binder.TheVariants.{Forall as BinderForall}
use Rattle.record.specs.declared.kinds.UnknownKind.{UnknownKind}
use Rattle.std.specs.Prelude.{Result, Ok, Err}
use Rattle.std.specs.Result.{result_unwrap_or}
use Rattle.substitution.specs.Premises.{proper, proper_all}
use Rattle.matching_tables.specs.Usable.{OneAsks}
use Rattle.row_rules.specs.declared.Cause.TheVariants.{Count, Misfit, Barred}
use Rattle.row_rules.specs.Verdict.{sort, refused, need}
use Rattle.row_rules.specs.Lists.{joined}
use Rattle.check_rules.specs.Checked.{value, only_of, bound_body, binder}
use Rattle.row_answer.specs.Arguments.{looked, bound_numbers}
use Rattle.row_answer.specs.Values.{value-kind, stored-value}
use Rattle.check_operator.specs.Contract.{args_of}
use Rattle.check_operator.specs.KindLaws.{kind-same}
use Rattle.check_operator.proofs.ArgumentLaws.{Scanned}
use Rattle.check_row.specs.Bound.{BindingsAsk, BodyAsks, BinderAsks}

---------------------------------------------------------------- the pairs
-- The sorts of m pairs.
abbrev pub pair_sorts : List Sort → List ℕ → List ℕ → ℕ → ℕ → Sorts
pair_sorts st tbl s x m = sorts_of st (bound_numbers tbl s x m)

-- The sort that the pair v names.
abbrev pub pair_proper : List ℕ → List ℕ → ℕ → List ℕ → ℕ × ℕ → Bool
pair_proper b p n tbl v = proper (sort_at b p n (get_or tbl v.1 0))

pairs-proper : (st : List Sort) (tbl s : List ℕ) (x m : ℕ) → ((j : ℕ) (d : ℕ × ℕ) → j < length (pairs_at s x m) → proper (get_or st (get_or tbl (get_or (pairs_at s x m) j d).1 0) leaf) ≡ true)
    → proper_all (pair_sorts st tbl s x m) ≡ true
unfolding proper sorts_of looked pair_sorts_at pairs_at
pairs-proper st tbl s x zero h = refl
pairs-proper st tbl s x (suc m) h = ap₂ ◌&&◌ (h 0 (0, 0) (omega arith)) (pairs-proper st tbl s (x + 4) m (λ j d l. h (suc j) d (omega arith)))

pair-barred : (st : List Sort) (tbl s : List ℕ) (x m j : ℕ) (d : ℕ × ℕ) → j < length (pairs_at s x m) → proper (get_or st (get_or tbl (get_or (pairs_at s x m) j d).1 0) leaf) ≡ false
    → proper_all (pair_sorts st tbl s x m) ≡ false
unfolding proper sorts_of looked pair_sorts_at pairs_at
pair-barred st tbl s x zero j d l h = absurd (not-suc-le-zero l)
pair-barred st tbl s x (suc m) zero d l h = ap (◌&& proper_all (pair_sorts st tbl s (x + 4) m)) h
pair-barred st tbl s x (suc m) (suc j) d l h =
    false-second (proper (get_or st (get_or tbl (u16_at s (x + 2)) 0) leaf)) (proper_all (pair_sorts st tbl s (x + 4) m))
    (pair-barred st tbl s (x + 4) m j d (omega arith) h)

-- The sort number of a pair in its place.
pair-at : (s : List ℕ) (x m j : ℕ) (d : ℕ × ℕ) → j < length (pairs_at s x m) → (j < m) × ((get_or (pairs_at s x m) j d).1 ≡ u16_at s (x + 4 * j + 2))
unfolding pairs_at
pair-at s x zero j d l = absurd (not-suc-le-zero l)
pair-at s x (suc m) zero d l = let e : x + 2 ≡ x + 4 * 0 + 2 = omega arith in (omega arith, ap (u16_at s) e)
pair-at s x (suc m) (suc j) d l =
    let h = pair-at s (x + 4) m j d (omega arith) in
    let e : x + 4 + 4 * j + 2 ≡ x + 4 * suc j + 2 = omega arith in (omega (arith, h.0), h.1 ∙ ap (u16_at s) e)

pair-count : (st : List Sort) (tbl s : List ℕ) (x m : ℕ) → count (pair_sorts st tbl s x m) ≡ m
unfolding count sorts_of looked pair_sorts_at
pair-count st tbl s x zero = refl
pair-count st tbl s x (suc m) = ap suc (pair-count st tbl s (x + 4) m)

pair-only : (st : List Sort) (tbl s : List ℕ) (x : ℕ) → only_of (pair_sorts st tbl s x 1) ≡ get_or st (get_or tbl (u16_at s (x + 2)) 0) leaf
unfolding sorts_of looked pair_sorts_at
pair-only st tbl s x = refl

module _ {b p : List ℕ} {n : ℕ} {s tbl : List ℕ} {x m : ℕ} (f : BindingsAsk b p n s tbl x m) where
  pub pair_in : (v : ℕ × ℕ) (j : ℕ) → j < length (pairs_at s x m) → v ≡ get_or (pairs_at s x m) j v → v.1 < length tbl
  pair_in v j l e = let h = pair-at s x m j v l in omega (arith, ap (λ (y : ℕ × ℕ). y.1) e, h.1, f.each j h.0)

  pub pair_asks : (v : ℕ × ℕ) (j : ℕ) → j < length (pairs_at s x m) → v ≡ get_or (pairs_at s x m) j v → OneAsks b p n (get_or tbl v.1 0)
  pair_asks v j l e =
      let h = pair-at s x m j v l in
      record { usable = f.usable; known = subst (λ (k : ℕ). get_or tbl k 0 < n) (sym (ap (λ (y : ℕ × ℕ). y.1) e ∙ h.1)) (f.below j h.0) }

  pub proper_by : (t : Bool) → Scanned t (λ v. pair_proper b p n tbl v ≡ true) (λ v. pair_proper b p n tbl v ≡ false) (pairs_at s x m) → t ≡ proper_all (pair_sorts (store_of b p n) tbl s x m)
  unfolding sort_at
  proper_by true h = sym (pairs-proper (store_of b p n) tbl s x m (λ j d l. h j d (omega arith) l))
  proper_by false h = sym (pair-barred (store_of b p n) tbl s x m h.0 (0, 0) h.1 (h.2 (0, 0)))

---------------------------------------------------------------- the body
-- What each number of Binder asks, over the count of its bindings.
body-other : (k : ℕ) (bs : Sorts) (t : Sort) → (k ≡ 3 → ⊥) → (k ≡ 2 → ⊥) → bound_body k bs (t then end) ≡ need (ltb 0 (count bs)) Count (need (same t bool) Misfit (sort bool))
body-other k bs t x y = rw (ne_eqb k 3 x, ne_eqb k 2 y) refl

body-choice : {k : ℕ} (bs : Sorts) (t : Sort) → k ≡ 2 → bound_body k bs (t then end) ≡ need (eqb (count bs) 1) Count (need (same t bool) Misfit (sort (only_of bs)))
body-choice {k} bs t e = ap (λ (i : ℕ). bound_body i bs (t then end)) e

body-lambda : {k : ℕ} (bs : Sorts) (t : Sort) → k ≡ 3 → bound_body k bs (t then end) ≡ need (ltb 0 (count bs)) Count (need (value t) Misfit (sort (function (joined bs t))))
body-lambda {k} bs t e = ap (λ (i : ℕ). bound_body i bs (t then end)) e

body-none : (k : ℕ) (bs : Sorts) (t : Sort) → count bs ≡ 0 → bound_body k bs (t then end) ≡ refused Count
body-none k bs t e = go (eqb k 3) (eqb k 2)
  where
    go : (c d : Bool) → cond c (need (ltb 0 (count bs)) Count (need (value t) Misfit (sort (function (joined bs t)))))
        (cond d (need (eqb (count bs) 1) Count (need (same t bool) Misfit (sort (only_of bs))))
        (need (ltb 0 (count bs)) Count (need (same t bool) Misfit (sort bool)))) ≡ refused Count
    go true d = ap (λ (i : ℕ). need (ltb 0 i) Count (need (value t) Misfit (sort (function (joined bs t))))) e
    go false true = ap (λ (i : ℕ). need (eqb i 1) Count (need (same t bool) Misfit (sort (only_of bs)))) e
    go false false = ap (λ (i : ℕ). need (ltb 0 i) Count (need (same t bool) Misfit (sort bool))) e

module _ {b p ix : List ℕ} {n u : ℕ} {s tbl : List ℕ} {x m : ℕ} {a : List ℕ} {body : ℕ} (f : BodyAsks b p ix n u s tbl x m a body) where
  pub bound-none : (k : ℕ) → m ≡ 0 → bound_body k (pair_sorts (store_of b p n) tbl s x m) (sort_at b p n body then end) ≡ refused Count
  bound-none k e = body-none k (pair_sorts (store_of b p n) tbl s x m) (sort_at b p n body) (pair-count (store_of b p n) tbl s x m ∙ e)

  module _ (some : m ≡ 0 → ⊥) (q : ℕ) (h : KindHas b p body q) where
    body-kind : q ≡ kind_of (sort_at b p n body)
    body-kind = h n f.bound.usable.stored f.known

    body-bool : same (sort_at b p n body) bool ≡ eqb q 3
    unfolding map_of maps
    body-bool =
        same-swap (sort_at b p n body) bool ∙ kind-same b p n body f.bound.usable.stored f.known 3 refl ∙ ap (λ (i : ℕ). eqb i 3) (sym body-kind)

    some_pairs : ltb 0 (count (pair_sorts (store_of b p n) tbl s x m)) ≡ true
    some_pairs = ap (ltb 0) (pair-count (store_of b p n) tbl s x m) ∙ lt-ltb 0 m (omega (arith, some))

    -- Forall and Exists.
    module _ {k : ℕ} (three : k ≡ 3 → ⊥) (two : k ≡ 2 → ⊥) where
      quantified-on : bound_body k (pair_sorts (store_of b p n) tbl s x m) (sort_at b p n body then end) ≡ need (eqb q 3) Misfit (sort bool)
      quantified-on =
          body-other k (pair_sorts (store_of b p n) tbl s x m) (sort_at b p n body) three two
          ∙ ap₂ (λ (c d : Bool). need c Count (need d Misfit (sort bool))) some_pairs body-bool

      pub quantified-no : (q ≡ 3 → ⊥) → bound_body k (pair_sorts (store_of b p n) tbl s x m) (sort_at b p n body then end) ≡ refused Misfit
      quantified-no d = quantified-on ∙ ap (λ (c : Bool). need c Misfit (sort bool)) (ne_eqb q 3 d)

      pub quantified-yes : q ≡ 3 → bound_body k (pair_sorts (store_of b p n) tbl s x m) (sort_at b p n body then end) ≡ sort (sort_at b p n body)
      quantified-yes d =
          quantified-on ∙ ap (λ (c : Bool). need c Misfit (sort bool)) (eq-eqb q 3 d)
          ∙ ap sort (sym (same-sound (sort_at b p n body) bool (body-bool ∙ eq-eqb q 3 d)))

    -- Choice.
    module _ {k : ℕ} (two : k ≡ 2) (one : m ≡ 1) where
      choice-on : bound_body k (pair_sorts (store_of b p n) tbl s x m) (sort_at b p n body then end)
          ≡ need (eqb q 3) Misfit (sort (get_or (store_of b p n) (get_or tbl (u16_at s (x + 2)) 0) leaf))
      choice-on =
          body-choice (pair_sorts (store_of b p n) tbl s x m) (sort_at b p n body) two
          ∙ ap₂ (λ (c d : Bool). need c Count (need d Misfit (sort (only_of (pair_sorts (store_of b p n) tbl s x m)))))
          (ap (λ (i : ℕ). eqb i 1) (pair-count (store_of b p n) tbl s x m) ∙ eq-eqb m 1 one) body-bool
          ∙ ap (λ (t : Sort). need (eqb q 3) Misfit (sort t))
          (ap (λ (i : ℕ). only_of (pair_sorts (store_of b p n) tbl s x i)) one ∙ pair-only (store_of b p n) tbl s x)

      pub choice-no : (q ≡ 3 → ⊥) → bound_body k (pair_sorts (store_of b p n) tbl s x m) (sort_at b p n body then end) ≡ refused Misfit
      choice-no d =
          choice-on ∙ ap (λ (c : Bool). need c Misfit (sort (get_or (store_of b p n) (get_or tbl (u16_at s (x + 2)) 0) leaf))) (ne_eqb q 3 d)

      module _ {v : ℕ} (ev : v ≡ u16_at s (x + 2 * 1)) where
        e : v ≡ u16_at s (x + 2)
        e = ev

        only-place : u16_at s (x + 4 * 0 + 2) ≡ v
        only-place = let y : x + 4 * 0 + 2 ≡ x + 2 = omega arith in ap (u16_at s) y ∙ sym e

        pub only-in : v < length tbl
        only-in = subst (λ (i : ℕ). i < length tbl) only-place (f.bound.each 0 (omega arith))

        pub only-known : get_or tbl v 0 < n
        only-known = subst (λ (i : ℕ). get_or tbl i 0 < n) only-place (f.bound.below 0 (omega arith))

        pub choice-yes : q ≡ 3 → bound_body k (pair_sorts (store_of b p n) tbl s x m) (sort_at b p n body then end) ≡ sort (sort_at b p n (get_or tbl v 0))
        unfolding sort_at
        choice-yes d =
            choice-on ∙ ap (λ (c : Bool). need c Misfit (sort (get_or (store_of b p n) (get_or tbl (u16_at s (x + 2)) 0) leaf))) (eq-eqb q 3 d)
            ∙ ap (λ (i : ℕ). sort (get_or (store_of b p n) (get_or tbl i 0) leaf)) (sym e)

    -- Lambda.
    module _ {k : ℕ} (three : k ≡ 3) where
      pub lambda-no : q ≡ 12 → bound_body k (pair_sorts (store_of b p n) tbl s x m) (sort_at b p n body then end) ≡ refused Misfit
      lambda-no d =
          body-lambda (pair_sorts (store_of b p n) tbl s x m) (sort_at b p n body) three
          ∙ ap₂ (λ (c e : Bool). need c Count (need e Misfit (sort (function (joined (pair_sorts (store_of b p n) tbl s x m) (sort_at b p n body)))))) some_pairs
          (stored-value b p n body f.bound.usable.stored f.known (sym body-kind ∙ d))

      pub lambda-yes : (q ≡ 12 → ⊥) → bound_body k (pair_sorts (store_of b p n) tbl s x m) (sort_at b p n body then end)
          ≡ sort (function (joined (pair_sorts (store_of b p n) tbl s x m) (sort_at b p n body)))
      lambda-yes d =
          body-lambda (pair_sorts (store_of b p n) tbl s x m) (sort_at b p n body) three
          ∙ ap₂ (λ (c e : Bool). need c Count (need e Misfit (sort (function (joined (pair_sorts (store_of b p n) tbl s x m) (sort_at b p n body)))))) some_pairs
          (value-kind (sort_at b p n body) (λ e. d (body-kind ∙ e)))

  -- Choice with another count of pairs.
  pub choice-count : {k : ℕ} → k ≡ 2 → (m ≡ 1 → ⊥) → bound_body k (pair_sorts (store_of b p n) tbl s x m) (sort_at b p n body then end) ≡ refused Count
  choice-count e d =
      body-choice (pair_sorts (store_of b p n) tbl s x m) (sort_at b p n body) e
      ∙ ap (λ (c : Bool). need c Count (need (same (sort_at b p n body) bool) Misfit (sort (only_of (pair_sorts (store_of b p n) tbl s x m)))))
      (ap (λ (i : ℕ). eqb i 1) (pair-count (store_of b p n) tbl s x m) ∙ ne_eqb m 1 d)

-- The binders of an arm.
pub plain_binder : (o : Binder) → (o ≡ Binder.Forall) ⊎ (o ≡ Binder.Exists) → (binder_number o ≡ 3 → ⊥) × (binder_number o ≡ 2 → ⊥)
plain_binder o (inl e) = let q = ap binder_number e in ((λ z. absurd (omega (arith, q, z))), (λ z. absurd (omega (arith, q, z))))
plain_binder o (inr e) = let q = ap binder_number e in ((λ z. absurd (omega (arith, q, z))), (λ z. absurd (omega (arith, q, z))))

-- A number that is no Binder's is taken as Forall.
bound-same : (k : ℕ) (bs : Sorts) (t : Sort) → 4 ≤ k → bound_body k bs (t then end) ≡ bound_body 0 bs (t then end)
bound-same k bs t l = body-other k bs t (λ e. absurd (omega arith)) (λ e. absurd (omega arith))

pub binder_number_is : (k : ℕ) (r : Result Binder UnknownKind) → BinderDecodes k r → (bs : Sorts) (t : Sort)
    → bound_body k bs (t then end) ≡ bound_body (binder_number (result_unwrap_or r BinderForall)) bs (t then end)
binder_number_is k (Ok o) e bs t = ap (λ (i : ℕ). bound_body i bs (t then end)) (sym e)
binder_number_is k (Err o) e bs t = bound-same k bs t e.1

---------------------------------------------------------------- the binder
module _ {b p ix : List ℕ} {n u : ℕ} {s tbl : List ℕ} {x m : ℕ} {a : List ℕ} {c : ℕ} (f : BinderAsks b p ix n u s tbl x m a c) (k : ℕ) {t : Bool} (h : t ≡ proper_all (pair_sorts (store_of b p n) tbl s x m)) where
  pub binder-barred : t ≡ false → binder k (pair_sorts (store_of b p n) tbl s x m) (args_of b p n a 1) ≡ refused Barred
  unfolding binder
  binder-barred e = ap (λ (c : Bool). need c Barred (bound_body k (pair_sorts (store_of b p n) tbl s x m) (args_of b p n a 1))) (sym h ∙ e)

  module _ (e : t ≡ true) {body : ℕ} (q : body ≡ u16_at a 3) where
    pub body-asks : BodyAsks b p ix n u s tbl x m a body
    body-asks = record { good = f.good; bound = f.bound; few = f.few; room = f.room; known = subst (λ (i : ℕ). i < n) (sym q) f.known }

    pub binder-is : binder k (pair_sorts (store_of b p n) tbl s x m) (args_of b p n a 1) ≡ bound_body k (pair_sorts (store_of b p n) tbl s x m) (sort_at b p n body then end)
    unfolding binder sort_at sorts_of numbers_at
    binder-is =
        ap (λ (c : Bool). need c Barred (bound_body k (pair_sorts (store_of b p n) tbl s x m) (args_of b p n a 1))) (sym h ∙ e)
        ∙ ap (λ (i : ℕ). bound_body k (pair_sorts (store_of b p n) tbl s x m) (get_or (store_of b p n) i leaf then end)) (sym q)
