-- The verdicts on constants, Vars, Lets and AsOps, by what was read.
use Prim.Native.Nat.{ℕ, zero, suc, ◌+◌, ◌*◌, ◌-◌, ◌≤◌, ◌<◌}
use mathlib.Core.Path.{◌≡◌, refl, sym, ap, ap₂, subst, ◌∙◌}
use mathlib.Core.Bool.{Bool, true, false, not, cond, ◌&&◌}
use mathlib.Core.List.{List, [], ◌∷◌}
use native.Mathlib.Omega.{arith}
use lib.ListN.{length, get_or}
use lib.Dec.{eqb, leb, ltb}
use borrow.Author.Tests.{eq-eqb, eqb-true, eqb-false, ne_eqb, le-leb, lt-ltb, le-ltb}
use Rattle.std.proofs.lemmas.Bool.{lt-leb}
use Rattle.record.specs.Number.{u16_at, numbers_at}
use Rattle.record.specs.Sort.{Sort, Sorts, var, par, node, end, ◌then◌, array, bitvec, kind_of, same}
use Rattle.record.specs.SortLaws.{same_refl}
use Rattle.record.specs.Record.{Fields, leaf, sorts_of}
use Rattle.record.specs.Decode.{store_of, sort_at, Stored}
use Rattle.record.specs.Kinds.{sort_number, term_number}
use Rattle.record.specs.declared.kinds.TermKind.{TermKind}
use Rattle.record.specs.Codec.{length-numbers_at}
use Rattle.record.specs.Sizes.{count-sorts}
use Rattle.record.specs.declared.SortRecord.{SortRecord}
use Rattle.substitution.specs.Premises.{proper}
use Rattle.store.specs.Entry.{EntryIs, EntryHas, KindHas}
use Rattle.store.specs.Walk.{walk-par, walk-one}
use Rattle.matching_tables.specs.Usable.{OneAsks}
use Rattle.row_rules.specs.declared.Cause.TheVariants.{NoRank, Count, Misfit, Barred}
use Rattle.row_rules.specs.Verdict.{Verdict, sort, refused, need}
use Rattle.row_rules.specs.Lists.{last_of}
use Rattle.check_rules.specs.Checked.{carried, values, inner_of, letting, constant_array, whole_set, qualified}
use Rattle.row_answer.specs.Values.{ValuesHave}
use Rattle.row_rules.specs.declared.Cause.{Cause}
use Rattle.row_answer.specs.Answer.{AnswerIs}
use Rattle.row_answer.specs.AnswerLaws.{judged-as, made-refused, answer-known}
use Rattle.std.specs.Prelude.{Result, Ok, Err}
use Rattle.check_operator.specs.Contract.{Over, ArgsAsk, args_of, args-refs}
use Rattle.check_row.specs.Single.{ReadIs, OverAsks, constant_verdict}
use Rattle.check_operator.proofs.SetEntries.{kind-is-set}
use Rattle.check_operator.proofs.FitLaws.{one-arg, numbers-same, array-two, array-sort}

---------------------------------------------------------------- constants
-- The kinds behind the first four.
pub kind_high : (k : TermKind) → (k ≡ TermKind.Integer → ⊥) → (k ≡ TermKind.Real → ⊥) → (k ≡ TermKind.String → ⊥) → (k ≡ TermKind.RegLan → ⊥) → 4 ≤ term_number k
kind_high TermKind.Integer a b c d = absurd (a refl)
kind_high TermKind.Real a b c d = absurd (b refl)
kind_high TermKind.String a b c d = absurd (c refl)
kind_high TermKind.RegLan a b c d = absurd (d refl)
kind_high TermKind.BitVector a b c d = omega arith
kind_high TermKind.Var a b c d = omega arith
kind_high TermKind.App a b c d = omega arith
kind_high TermKind.Op a b c d = omega arith
kind_high TermKind.Binder a b c d = omega arith
kind_high TermKind.Let a b c d = omega arith
kind_high TermKind.Match a b c d = omega arith
kind_high TermKind.ParamOp a b c d = omega arith
kind_high TermKind.AsOp a b c d = omega arith

constant-other : (k w : ℕ) → 4 ≤ k → constant_verdict k w ≡ need (not (eqb w 0)) Barred (sort (bitvec w))
constant-other k w l =
    rw (ne_eqb k 0 (λ e. absurd (omega arith)), ne_eqb k 1 (λ e. absurd (omega arith)), ne_eqb k 2 (λ e. absurd (omega arith)), ne_eqb k 3 (λ e. absurd (omega arith))) refl

pub constant-zero : (k : ℕ) {w : ℕ} → 4 ≤ k → w ≡ 0 → constant_verdict k w ≡ refused Barred
constant-zero k {w} l e = constant-other k w l ∙ ap (λ (c : Bool). need (not c) Barred (sort (bitvec w))) (eq-eqb w 0 e)

---------------------------------------------------------------- Var
carried_other : (s : Sort) → (kind_of s ≡ 12 → ⊥) → proper s ≡ carried s
unfolding proper
carried_other (var v) h = refl
carried_other (par ns b) h = absurd (h refl)
carried_other (node k a w ss) h = refl

carried-body : (ns : List ℕ) (t : Sort) → 1 ≤ length ns → kind_of t ≡ 0 → proper t ≡ carried (par ns t)
carried-body [] t l e = absurd (omega arith)
carried-body (n ∷ ns) (var v) l e = absurd (omega arith)
carried-body (n ∷ ns) (par ms b) l e = absurd (omega arith)
carried-body (n ∷ ns) (node k a w ss) l e = sym (ap (λ (c : Bool). c && proper (node k a w ss)) (eq-eqb k 0 e))

carried_none : (ns : List ℕ) (t : Sort) → (kind_of t ≡ 0 → ⊥) → false ≡ carried (par ns t)
carried_none [] t h = refl
carried_none (n ∷ ns) (var v) h = refl
carried_none (n ∷ ns) (par ms b) h = refl
carried_none (n ∷ ns) (node k a w ss) h = sym (ap (λ (c : Bool). c && proper (node k a w ss)) (ne_eqb k 0 h))

-- The test of a kind that was read.
pub kind-read : {b p : List ℕ} {n k : ℕ} → OneAsks b p n k → (i : ℕ) {r : ℕ} → KindHas b p k r → eqb r i ≡ eqb (kind_of (sort_at b p n k)) i
kind-read {n = n} f i h = ap (λ (q : ℕ). eqb q i) (h n f.usable.stored f.known)

module _ {b p : List ℕ} {n k : ℕ} (f : OneAsks b p n k) {par_test : Bool} (ep : par_test ≡ eqb (kind_of (sort_at b p n k)) 12) where
  own-stored : Stored b p n
  own-stored = f.usable.stored

  pub carried-plain : par_test ≡ false → {t : Bool} → t ≡ proper (sort_at b p n k) → t ≡ carried (sort_at b p n k)
  carried-plain d {t} e = e ∙ carried_other (sort_at b p n k) (eqb-false (kind_of (sort_at b p n k)) 12 (sym ep ∙ d))

  module _ (on : par_test ≡ true) (r : SortRecord) (h : EntryHas b p k r) where
    own_read : EntryIs b p n k r
    own_read = h n own-stored f.known

    e : sort_number r.kind ≡ 12
    e = own_read.kind ∙ eqb-true (kind_of (sort_at b p n k)) 12 (sym ep ∙ on)

    pub body-place : r.parts.at + 2 ≤ length b
    body-place = omega (arith, own_read.place.list, walk-one b p n k own-stored f.known r own_read e)

    body_below : u16_at b r.parts.at < n
    body_below =
        let q : r.parts.at + 2 * 0 ≡ r.parts.at = omega arith in
        omega (arith, ap (u16_at b) q, own_read.below 0 (omega (arith, walk-one b p n k own-stored f.known r own_read e)), f.known)

    own-par : sort_at b p n k ≡ par (numbers_at b r.names.at r.names.count) (sort_at b p n (u16_at b r.parts.at))
    own-par = walk-par b p n k own-stored f.known r own_read e

    names-some : 1 ≤ length (numbers_at b r.names.at r.names.count)
    names-some =
        omega (
          arith,
          (own-stored.each k f.known).shape.some (ap (λ (x : Fields). x.kind) own_read.place.same ∙ e),
          ap (λ (x : Fields). length x.names) own_read.place.same,
        )

    module _ {i : ℕ} (ei : i ≡ u16_at b (r.parts.at + 0)) where
      ej : i ≡ u16_at b r.parts.at
      ej = let q : r.parts.at + 0 ≡ r.parts.at = omega arith in ei ∙ ap (u16_at b) q

      pub body-known : i < n
      body-known = subst (λ (x : ℕ). x < n) (sym ej) body_below

      pub body-asks : OneAsks b p n i
      body-asks = record { usable = f.usable; known = body-known }

      module _ {q : Bool} (g : q ≡ eqb (kind_of (sort_at b p n i)) 0) where
        body-kind : q ≡ eqb (kind_of (sort_at b p n (u16_at b r.parts.at))) 0
        body-kind = g ∙ ap (λ (x : ℕ). eqb (kind_of (sort_at b p n x)) 0) ej

        pub carried-no : q ≡ false → false ≡ carried (sort_at b p n k)
        carried-no d =
            carried_none (numbers_at b r.names.at r.names.count) (sort_at b p n (u16_at b r.parts.at)) (eqb-false (kind_of (sort_at b p n (u16_at b r.parts.at))) 0 (sym body-kind ∙ d))
            ∙ ap carried (sym own-par)

        pub carried-par : q ≡ true → {t : Bool} → t ≡ proper (sort_at b p n i) → t ≡ carried (sort_at b p n k)
        carried-par d {t} x =
            x ∙ ap (λ (y : ℕ). proper (sort_at b p n y)) ej
            ∙ carried-body (numbers_at b r.names.at r.names.count) (sort_at b p n (u16_at b r.parts.at)) names-some (eqb-true (kind_of (sort_at b p n (u16_at b r.parts.at))) 0 (sym body-kind ∙ d))
            ∙ ap carried (sym own-par)

---------------------------------------------------------------- rows that change nothing
-- What answers a verdict answers an equal one.
pub reads-as : {b p : List ℕ} {n : ℕ} {v w : Verdict} {r : Result ℕ Cause} → v ≡ w → ReadIs b p n w r → ReadIs b p n v r
reads-as e h ix u g = judged-as e (h ix u g)

-- Refused, and of a sort that the store has.
pub reads-refused : {b p : List ℕ} {n : ℕ} {v : Verdict} {r : Result ℕ Cause} (c : Cause) → v ≡ refused c → r ≡ Err c → ReadIs b p n v r
reads-refused {b} {p} {n} {v} {r} c e h ix u g =
    subst (λ (q : Result ℕ Cause). AnswerIs b p n v b p ix (record { verdict = q; count = n; used = u })) (sym h) (judged-as e (made-refused b p ix n u g c))

pub reads-known : {b p : List ℕ} {n : ℕ} {v : Verdict} {r : Result ℕ Cause} (k : ℕ) → v ≡ sort (sort_at b p n k) → k < n → r ≡ Ok k → ReadIs b p n v r
reads-known {b} {p} {n} {v} {r} k e l h ix u g =
    subst (λ (q : Result ℕ Cause). AnswerIs b p n v b p ix (record { verdict = q; count = n; used = u })) (sym h) (judged-as e (answer-known b p ix n u g k l))

pub need-taken : {t : Bool} (v : Verdict) (s : Bool) → t ≡ s → t ≡ true → need s Barred v ≡ v
need-taken {t} v s e h = ap (λ (c : Bool). need c Barred v) (sym e ∙ h)

pub need-left : {t : Bool} (v : Verdict) (s : Bool) → t ≡ s → t ≡ false → need s Barred v ≡ refused Barred
need-left {t} v s e h = ap (λ (c : Bool). need c Barred v) (sym e ∙ h)

---------------------------------------------------------------- Let
last-read : (st : List Sort) (s : Sort) (a : List ℕ) (x m : ℕ) → last_of s (sorts_of st (numbers_at a x (suc m))) ≡ get_or st (u16_at a (x + 2 * m)) leaf
unfolding last_of sorts_of numbers_at
last-read st s a x zero = let e : x ≡ x + 2 * 0 = omega arith in ap (λ (i : ℕ). get_or st (u16_at a i) leaf) e
last-read st s a x (suc m) =
    let e : x + 2 + 2 * m ≡ x + 2 * suc m = omega arith in
    last-read st (get_or st (u16_at a x) leaf) a (x + 2) m ∙ ap (λ (i : ℕ). get_or st (u16_at a i) leaf) e

inner-read : (st : List Sort) (a : List ℕ) (m : ℕ) → 2 ≤ m → inner_of (sorts_of st (numbers_at a 3 m)) ≡ sort (get_or st (u16_at a (3 + 2 * (m - 1))) leaf)
unfolding last_of sorts_of numbers_at
inner-read st a zero l = absurd (omega arith)
inner-read st a (suc zero) l = absurd (omega arith)
inner-read st a (suc (suc m)) l =
    let e : 3 + 2 + 2 * m ≡ 3 + 2 * (suc (suc m) - 1) = omega arith in
    ap sort (last-read st (get_or st (u16_at a 3) leaf) a (3 + 2) m ∙ ap (λ (i : ℕ). get_or st (u16_at a i) leaf) e)

pub let-over : {b p a : List ℕ} {m : ℕ} → ArgsAsk b p a m → {n : ℕ} → Over b p n a m → OverAsks b p n a m
let-over f o = record { within = f.within; over = o }

module _ {b p : List ℕ} {n : ℕ} {a : List ℕ} {m : ℕ} (f : OverAsks b p n a m) where
  letting-by : letting (args_of b p n a m) ≡ need (ltb 1 m) Count (need (values (args_of b p n a m)) Misfit (inner_of (args_of b p n a m)))
  unfolding letting
  letting-by =
      ap (λ (c : ℕ). need (ltb 1 c) Count (need (values (args_of b p n a m)) Misfit (inner_of (args_of b p n a m))))
      (count-sorts (store_of b p n) (numbers_at a 3 m) ∙ length-numbers_at a 3 m)

  pub letting-few : m < 2 → letting (args_of b p n a m) ≡ refused Count
  letting-few l = letting-by ∙ ap (λ (c : Bool). need c Count (need (values (args_of b p n a m)) Misfit (inner_of (args_of b p n a m)))) (le-ltb 1 m (omega arith))

  module _ (l : 2 ≤ m) (v : Bool) (h : ValuesHave b p a 3 m v) where
    letting-on : letting (args_of b p n a m) ≡ need v Misfit (inner_of (args_of b p n a m))
    letting-on =
        letting-by ∙ ap₂ (λ (c d : Bool). need c Count (need d Misfit (inner_of (args_of b p n a m)))) (lt-ltb 1 m (omega arith)) (sym (h n f.over.stored (args-refs b p a n m f.within f.over)))

    pub letting-par : v ≡ false → letting (args_of b p n a m) ≡ refused Misfit
    letting-par e = letting-on ∙ ap (λ (c : Bool). need c Misfit (inner_of (args_of b p n a m))) e

    pub letting-inner : v ≡ true → {k : ℕ} → k ≡ u16_at a (3 + 2 * (m - 1)) → letting (args_of b p n a m) ≡ sort (sort_at b p n k)
    unfolding sort_at
    letting-inner e {k} q =
        letting-on ∙ ap (λ (c : Bool). need c Misfit (inner_of (args_of b p n a m))) e ∙ inner-read (store_of b p n) a m l
        ∙ ap (λ (i : ℕ). sort (get_or (store_of b p n) i leaf)) (sym q)

    pub inner-known : {k : ℕ} → k ≡ u16_at a (3 + 2 * (m - 1)) → k < n
    inner-known {k} q = subst (λ (i : ℕ). i < n) (sym q) (f.over.below (m - 1) (omega arith))

---------------------------------------------------------------- (as const)
constant-count : (s : Sort) (st : List Sort) (a : List ℕ) (m : ℕ) → (m ≡ 1 → ⊥) → constant_array s (sorts_of st (numbers_at a 3 m)) ≡ refused Count
unfolding sorts_of numbers_at
constant-count s st a zero h = refl
constant-count s st a (suc zero) h = absurd (h refl)
constant-count s st a (suc (suc m)) h = refl

constant-kind : (s t : Sort) → (kind_of s ≡ 8 → ⊥) → constant_array s (t then end) ≡ refused Misfit
unfolding same
constant-kind (var v) t h = refl
constant-kind (par ns b) t h = refl
constant-kind (node k n w end) t h = refl
constant-kind (node k n w (i then end)) t h = refl
constant-kind (node k n w (i then (e then end))) t h =
    ap (λ (c : Bool). need (c && eqb n 0 && eqb w 0 && (same i i && (same e e && true)) && same t e) Misfit (sort (array i e))) (ne_eqb k 8 h)
constant-kind (node k n w (i then (e then (r then rs)))) t h = refl

module _ {b p : List ℕ} {n k : ℕ} {a : List ℕ} {m : ℕ} (f : OverAsks b p n a m) (own : OneAsks b p n k) where
  pub const-count : (m ≡ 1 → ⊥) → constant_array (sort_at b p n k) (args_of b p n a m) ≡ refused Count
  const-count h = constant-count (sort_at b p n k) (store_of b p n) a m h

  module _ (e : m ≡ 1) {array_test : Bool} (ea : array_test ≡ eqb (kind_of (sort_at b p n k)) 8) where
    pub const-kind : array_test ≡ false → constant_array (sort_at b p n k) (args_of b p n a m) ≡ refused Misfit
    const-kind d =
        ap (constant_array (sort_at b p n k)) (one-arg b p n a e) ∙ constant-kind (sort_at b p n k) (sort_at b p n (u16_at a 3)) (eqb-false (kind_of (sort_at b p n k)) 8 (sym ea ∙ d))

    module _ (array_on : array_test ≡ true) (r : SortRecord) (h : EntryHas b p k r) where
      array-read : EntryIs b p n k r
      array-read = h n own.usable.stored own.known

      x : sort_number r.kind ≡ 8
      x = array-read.kind ∙ eqb-true (kind_of (sort_at b p n k)) 8 (sym ea ∙ array_on)

      array_count : r.parts.count ≡ 2
      array_count = array-two own.usable.stored own.known array-read x

      pub element_place : r.parts.at + 4 ≤ length b
      element_place = omega (arith, array-read.place.list, array_count)

      module _ {i j : ℕ} (ei : i ≡ u16_at b (r.parts.at + 2)) (ej : j ≡ u16_at a 3) where
        element-below : i < n
        element-below =
            let y : r.parts.at + 2 * 1 ≡ r.parts.at + 2 = omega arith in
            omega (arith, ei, ap (u16_at b) y, array-read.below 1 (omega (arith, array_count)), own.known)

        argument-below : j < n
        argument-below = subst (λ (y : ℕ). y < n) (sym ej) (f.over.below 0 (omega arith))

        array-is : sort_at b p n k ≡ array (sort_at b p n (u16_at b r.parts.at)) (sort_at b p n i)
        array-is = array-sort own.usable.stored own.known array-read x ∙ ap (λ (y : ℕ). array (sort_at b p n (u16_at b r.parts.at)) (sort_at b p n y)) (sym ei)

        const-is : (s u t : Sort) → constant_array (array s u) (t then end) ≡ need (same t u) Misfit (sort (array s u))
        const-is s u t = ap (λ (c : Bool). need (c && same t u) Misfit (sort (array s u))) (same_refl (array s u))

        const-array : constant_array (sort_at b p n k) (args_of b p n a m) ≡ need (eqb j i) Misfit (sort (sort_at b p n k))
        const-array =
            ap₂ constant_array array-is (one-arg b p n a e ∙ ap (λ (y : ℕ). sort_at b p n y then end) (sym ej))
            ∙ const-is (sort_at b p n (u16_at b r.parts.at)) (sort_at b p n i) (sort_at b p n j)
            ∙ ap₂ (λ (c : Bool) (s : Sort). need c Misfit (sort s))
            (numbers-same j i own.usable.stored own.usable.distinct argument-below element-below) (sym array-is)

        pub const-misfit : (j ≡ i → ⊥) → constant_array (sort_at b p n k) (args_of b p n a m) ≡ refused Misfit
        const-misfit d = const-array ∙ ap (λ (c : Bool). need c Misfit (sort (sort_at b p n k))) (ne_eqb j i d)

        pub const-fits : j ≡ i → constant_array (sort_at b p n k) (args_of b p n a m) ≡ sort (sort_at b p n k)
        const-fits d = const-array ∙ ap (λ (c : Bool). need c Misfit (sort (sort_at b p n k))) (eq-eqb j i d)

---------------------------------------------------------------- SetEmpty, SetUniverse
set-args : (s : Sort) (st : List Sort) (a : List ℕ) (m : ℕ) → (m ≡ 0 → ⊥) → whole_set s (sorts_of st (numbers_at a 3 m)) ≡ refused Count
unfolding sorts_of numbers_at
set-args s st a zero h = absurd (h refl)
set-args s st a (suc m) h = refl

module _ {b p : List ℕ} {n k : ℕ} (own : OneAsks b p n k) (a : List ℕ) (m : ℕ) where
  pub set-count : (m ≡ 0 → ⊥) → whole_set (sort_at b p n k) (args_of b p n a m) ≡ refused Count
  set-count h = set-args (sort_at b p n k) (store_of b p n) a m h

  module _ (z : m ≡ 0) {t : Bool} (et : t ≡ eqb (kind_of (sort_at b p n k)) 14) where
    set-by : whole_set (sort_at b p n k) (args_of b p n a m) ≡ need t Misfit (sort (sort_at b p n k))
    unfolding sorts_of numbers_at
    set-by =
        ap (λ (i : ℕ). whole_set (sort_at b p n k) (args_of b p n a i)) z
        ∙ ap (λ (c : Bool). need c Misfit (sort (sort_at b p n k))) (kind-is-set b p n k own.usable.stored own.known ∙ sym et)

    pub set-misfit : t ≡ false → whole_set (sort_at b p n k) (args_of b p n a m) ≡ refused Misfit
    set-misfit d = set-by ∙ ap (λ (c : Bool). need c Misfit (sort (sort_at b p n k))) d

    pub set-fits : t ≡ true → whole_set (sort_at b p n k) (args_of b p n a m) ≡ sort (sort_at b p n k)
    set-fits d = set-by ∙ ap (λ (c : Bool). need c Misfit (sort (sort_at b p n k))) d

---------------------------------------------------------------- AsOp
module _ (q : ℕ) (s : Sort) (ts : Sorts) where
  as-by : {c d : Bool} → leb q 2 ≡ c → proper s ≡ d → qualified q s ts ≡ need c NoRank (need d Barred (cond (eqb q 0) (constant_array s ts) (whole_set s ts)))
  unfolding qualified
  as-by g h = ap₂ (λ (c d : Bool). need c NoRank (need d Barred (cond (eqb q 0) (constant_array s ts) (whole_set s ts)))) g h

  pub qualified-other : 3 ≤ q → qualified q s ts ≡ refused NoRank
  qualified-other l = as-by (lt-leb q 2 (omega arith)) refl

  module _ (l : q ≤ 2) {t : Bool} (et : t ≡ proper s) where
    pub qualified-barred : t ≡ false → qualified q s ts ≡ refused Barred
    qualified-barred d = as-by (le-leb q 2 l) (sym et ∙ d)

    qualified-on : t ≡ true → {c : Bool} → eqb q 0 ≡ c → qualified q s ts ≡ cond c (constant_array s ts) (whole_set s ts)
    qualified-on d h = as-by (le-leb q 2 l) (sym et ∙ d) ∙ ap (λ (c : Bool). cond c (constant_array s ts) (whole_set s ts)) h

    pub qualified-const : t ≡ true → q ≡ 0 → qualified q s ts ≡ constant_array s ts
    qualified-const d z = qualified-on d (eq-eqb q 0 z)

    pub qualified-set : t ≡ true → 0 < q → qualified q s ts ≡ whole_set s ts
    qualified-set d z = qualified-on d (ne_eqb q 0 (λ h. omega arith))
