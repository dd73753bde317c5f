-- A record's sort made an answer, by what `tree_size` and `intern` gave; and the Set of it, made behind it or undone.
use Prim.Native.Nat.{ℕ, ◌/◌, ◌%◌, ◌≤◌, ◌<◌}
use Rattle.std.specs.Prelude.{Result, Ok, Err, is_err, true}
use mathlib.Core.Path.{◌≡◌, refl, sym, ap, subst, ◌∙◌}
use mathlib.Core.Bool.{false, false≢true}
use mathlib.Core.List.{List, [], ◌∷◌}
use native.Mathlib.Omega.{arith}
use lib.ListN.{get_or}
use Rattle.record.specs.Sort.{Sort, set, node, end, size}
use Rattle.record.specs.Record.{leaf, sort_of}
use Rattle.record.specs.Store.{add_once, intern}
use Rattle.record.specs.Decode.{fields_at, store_of, sort_at}
use Rattle.record.specs.StoreLaws.{store_of-length}
use Rattle.record.specs.SortLists.{Starts, starts-self, starts-intern, memb-at, intern-known}
use Rattle.record.specs.Entries.{store-ordered}
use Rattle.store.specs.Contract.{InternedIs, Holds, UndoIs}
use Rattle.store.specs.declared.Full.{Full as NoRoom}
use Rattle.store.specs.Grown.{holds-intern}
use Rattle.row_rules.specs.declared.Cause.{Cause}
use Rattle.row_rules.specs.declared.Cause.TheVariants.{Limit, Full}
use Rattle.row_rules.specs.Verdict.{sort}
use Rattle.row_answer.specs.Answer.{Answer, AnswerIs, accepting, refusing}
use Rattle.row_answer.specs.Within.{within-fresh, within-set, over-size, over-set}
use Rattle.row_answer.specs.AnswerLaws.{judged-as, answered-as, answer-same, untouched-as, made-limit, record-made, record-full, intern-set, starts-set, Back, answer_back, grown-accepted, grown-refused, undone, undone-used}
use Rattle.row_answer.specs.Asks.{MakeAsks, LeafAsks, SetOverAsks, MadeFrom}
use Rattle.row_answer.specs.Records.{leaf-fresh, leaf-sort}

-- The two bytes that a number is written in.
pub two-bytes : (v : ℕ) → v < 65536 → {bytes : List ℕ} → bytes ≡ v % 256 ∷ v / 256 % 256 ∷ [] → (get_or bytes 0 0 ≡ v % 256) × (get_or bytes 1 0 ≡ v / 256)
two-bytes v h {bytes} e = (ap (λ (l : List ℕ). get_or l 0 0) e, omega (arith, ap (λ (l : List ℕ). get_or l 1 0) e))

-- The record of a kind alone, which stands in the byte v.
module _ {b p ix : List ℕ} {n u k : ℕ} (asks : LeafAsks b p ix n u k) {v : ℕ} (e : v ≡ k) where
  pub leaf-asks : MakeAsks b p ix n u (1 ∷ v ∷ [])
  leaf-asks = record { good = asks.good; fresh = rw e (leaf-fresh k asks.map n) }

  pub leaf-answer : {b' p' ix' : List ℕ} {r : Answer} → AnswerIs b p n (sort (sort_of (store_of b p n) (fields_at (1 ∷ v ∷ []) 0))) b' p' ix' r
      → AnswerIs b p n (sort (node k 0 0 end)) b' p' ix' r
  leaf-answer a = judged-as (ap sort (sym (leaf-sort k asks.map (store_of b p n)))) (rw e at a)

-- MAKE: w is what `tree_size` gave.
module _ {b p ix : List ℕ} {n u : ℕ} {r : List ℕ} (asks : MakeAsks b p ix n u r) where
  module _ (w : ℕ) (weight : w ≡ size (sort_of (store_of b p n) (fields_at r 0))) where
    pub make-over : 4096 < w → AnswerIs b p n (sort (sort_of (store_of b p n) (fields_at r 0))) b p ix (refusing Limit n u)
    make-over h =
        let t = sort_of (store_of b p n) (fields_at r 0) in
        made-limit b p ix n u asks.good t (over-size t (omega (arith, weight)))

    pub make-made : (b' p' ix' : List ℕ) (k n' u' : ℕ) → w ≤ 4096 → Holds b p n u r b' p' ix' k n' u'
        → AnswerIs b p n (sort (sort_of (store_of b p n) (fields_at r 0))) b' p' ix' (accepting k n' u')
    make-made b' p' ix' k n' u' h holds =
        record-made b p ix n u asks.good r asks.fresh b' p' ix' k n' u'
        (within-fresh b p n asks.good.stored r asks.fresh (omega (arith, weight))) holds

    pub make-full : {b' p' ix' : List ℕ} {n' u' : ℕ} {e : NoRoom} → w ≤ 4096 → InternedIs b p ix n u r b' p' ix' n' u' (Err e) → {q : Result ℕ Cause} → q ≡ Err Full
        → AnswerIs b p n (sort (sort_of (store_of b p n) (fields_at r 0))) b' p' ix' (record { verdict = q; count = n'; used = u' })
    make-full h o eq =
        let t = sort_of (store_of b p n) (fields_at r 0) in
        answered-as (answer-same eq o.2 o.3)
        (untouched-as o.1
        (record-full b p ix n u asks.good r asks.fresh t (starts-self (intern t (store_of b p n)))
        (within-fresh b p n asks.good.stored r asks.fresh (omega (arith, weight))) o.0))

    -- The Set of the record's sort.
    pub set-large : 4095 < w → AnswerIs b p n (sort (set (sort_of (store_of b p n) (fields_at r 0)))) b p ix (refusing Limit n u)
    set-large h =
        let t = sort_of (store_of b p n) (fields_at r 0) in
        made-limit b p ix n u asks.good (set t) (over-set t (omega (arith, weight)))

    pub set_full : {b' p' ix' : List ℕ} {n' u' : ℕ} {e : NoRoom} → w ≤ 4095 → InternedIs b p ix n u r b' p' ix' n' u' (Err e) → {q : Result ℕ Cause} → q ≡ Err Full
        → AnswerIs b p n (sort (set (sort_of (store_of b p n) (fields_at r 0)))) b' p' ix' (record { verdict = q; count = n'; used = u' })
    set_full h o eq =
        let t = sort_of (store_of b p n) (fields_at r 0) in
        answered-as (answer-same eq o.2 o.3)
        (untouched-as o.1
        (record-full b p ix n u asks.good r asks.fresh (set t) (starts-set t (store_of b p n))
        (within-set b p n asks.good.stored r asks.fresh (omega (arith, weight))) o.0))

  -- The store with the record's sort was made from the one before.
  module _ (c q ic : List ℕ) (k m v : ℕ) (h : Holds b p n u r c q ic k m v) where
    pub made-from : MadeFrom b p ix n u c q m k
    made-from =
        record {
          good = asks.good;
          made =
              holds-intern b p n u r c q ic k m v h asks.good.stored asks.fresh
              ∙ sym (ap (λ (t : Sort). intern t (store_of b p n)) h.here);
          long = h.kept.long;
          wide = h.kept.wide;
        }

    pub set-made : {b' p' ix' : List ℕ} {x : Answer} → AnswerIs b p n (sort (set (sort_at c q m k))) b' p' ix' x
        → AnswerIs b p n (sort (set (sort_of (store_of b p n) (fields_at r 0)))) b' p' ix' x
    set-made {b'} {p'} {ix'} {x} a = judged-as (ap (λ (t : Sort). sort (set t)) (sym h.here)) a

-- SET OVER: a is the answer of the Set over the store c q that has its part, made last.
module _ {c q ic : List ℕ} {m v k n : ℕ} (asks : SetOverAsks c q ic m v k n) {d e id : List ℕ} {x : Answer} (a : AnswerIs c q m (sort (set (sort_at c q m k))) d e id x) where
  -- Refused, it left the store c q.
  left_back : (w : Cause) → x.verdict ≡ Err w → Back c q ic m v d e id x
  left_back w h = answer_back c q m (sort (set (sort_at c q m k))) d e id x a ic v asks.good w h

  module _ {b p ix : List ℕ} {u : ℕ} (from : MadeFrom b p ix n u c q m k) where
    from-starts : Starts (store_of b p n) (store_of c q m)
    from-starts = subst (Starts (store_of b p n)) (sym from.made) (starts-intern (sort_at c q m k) (store_of b p n))

    from-same : intern (set (sort_at c q m k)) (store_of b p n) ≡ intern (set (sort_at c q m k)) (store_of c q m)
    unfolding sort_at
    from-same =
        let t = sort_at c q m k in
        let st = store_of c q m in
        intern-set t (store_of b p n)
        ∙ ap (λ (l : List Sort). add_once l (set t))
        (sym from.made ∙ sym (intern-known t st (store-ordered c q m asks.good.stored) (memb-at st leaf k (omega (arith, asks.known, store_of-length c q m)))))
        ∙ sym (intern-set t st)

    pub over-accepted : (i : ℕ) → x.verdict ≡ Ok i → AnswerIs b p n (sort (set (sort_at c q m k))) d e id x
    over-accepted i h =
        grown-accepted b p n c q m (set (sort_at c q m k)) from-same from-starts from.long from.wide d e id x a i h

    -- the store after the call that was undone is the one before
    module _ (w : Cause) (h : x.verdict ≡ Err w) {b' p' ix' : List ℕ} {u' : ℕ} (undid : UndoIs d e x.count b' p' ix' n u') where
      undo : UndoIs d e m b' p' ix' n u'
      undo = subst (λ (i : ℕ). UndoIs d e i b' p' ix' n u') (left_back w h).count undid

      back-starts : Starts (store_of b p n) (store_of d e m)
      back-starts =
          let o = left_back w h in
          subst (Starts (store_of b p n)) (sym (ap (λ (y : List ℕ). store_of y e m) o.same.0 ∙ ap (λ (y : List ℕ). store_of c y m) o.same.1)) from-starts

      pub over-undone : {k' : ℕ} → k' ≡ n → AnswerIs b p n (sort (set (sort_at c q m k))) b' p' ix' (record { verdict = x.verdict; count = k'; used = u' })
      over-undone ek =
          let long = a.long ∙ from.long in
          let wide = a.wide ∙ from.wide in
          answered-as (answer-same h ek (undone-used b p ix n u from.good d e m back-starts long wide b' p' ix' u' undo))
          (untouched-as (undone b p ix n u from.good d e m back-starts long wide b' p' ix' u' undo)
          (grown-refused b p n c q m (set (sort_at c q m k)) from-same from-starts from.long from.wide d e id x a w h ix u from.good))

-- A row that is an error has a cause, and one that is none a number.
pub by-error : {C : Type 0} (r : Result ℕ Cause) → is_err r ≡ true → ((w : Cause) → r ≡ Err w → C) → C
by-error (Ok k) e f = absurd (false≢true e)
by-error (Err w) e f = f w refl

pub by-number : {C : Type 0} (r : Result ℕ Cause) → is_err r ≡ false → ((k : ℕ) → r ≡ Ok k → C) → C
by-number (Ok k) e f = f k refl
by-number (Err w) e f = absurd (false≢true (sym e))
