-- THE WAYS TO AN ANSWER: refused, a sort that the store has, over a limit, made, and without room; the same over a store
-- that was grown on the way; and what an answer tells.
use Rattle.std.specs.Prelude.{ℕ, ◌*◌, ◌≤◌, ◌<◌, ◌≡◌, Bool, false, ◌&&◌, take, leb, Result, Ok, Err}
use Rattle.std.proofs.Math.Path.{refl, sym, ap, ap₂, subst}
use Rattle.std.proofs.Common.{◌∙◌, arith, take_at, leb-true}
use Rattle.std.proofs.Math.Bool.{true}
use mathlib.Core.List.{List}
use Rattle.std.proofs.Math.ListN.{length}
use Rattle.record.specs.Sort.{Sort, set}
use Rattle.record.specs.Record.{leaf, sort_of}
use Rattle.record.specs.Store.{add_once, intern, index_of, bytes_of, room}
use Rattle.record.specs.Decode.{fields_at, Fresh, store_of, sort_at}
use Rattle.record.specs.Cases.{and_right}
use Rattle.record.specs.StoreLaws.{store_of-length, sorts-one}
use Rattle.record.specs.SortLists.{Once, Starts, starts-self, starts-trans, starts-intern, starts-add, starts-count, memb-at, memb-intern, index_at, index-found, intern-known, intern-parts, room-starts}
use Rattle.record.specs.Entries.{store-ordered, sort-parts}
use Rattle.sheet.specs.Sheet.{Lengths}
use Rattle.store.specs.Good.{Good, good-room, good-one}
use Rattle.store.specs.Contract.{Holds, UndoIs, Untouched}
use Rattle.store.specs.Grown.{holds-intern}
use Rattle.row_rules.specs.declared.Cause.{Cause}
use Rattle.row_rules.specs.declared.Cause.TheVariants.{Limit, Full}
use Rattle.row_rules.specs.Verdict.{Verdict, sort, refused, number_of, code_of}
use Rattle.row_rules.specs.Outcome.{CodedStore, refusal, within, outcome}
use Rattle.row_rules.specs.Outcomes.{answered}
use Rattle.row_rules.proofs.OutcomeLaws.{refusal-large}
use Rattle.row_answer.specs.Answer.{Answer, AnswerLeft, AnswerIs, accepting, refusing}
use Rattle.row_answer.specs.Within.{within-at}

-- An equal verdict, an equal answer, equal buffers.
pub judged-as : {b p : List ℕ} {n : ℕ} {v w : Verdict} {b' p' ix' : List ℕ} {r : Answer} → v ≡ w → AnswerIs b p n w b' p' ix' r → AnswerIs b p n v b' p' ix' r
judged-as {b} {p} {n} {v} {w} {b'} {p'} {ix'} {r} e h = subst (λ (x : Verdict). AnswerIs b p n x b' p' ix' r) (sym e) h

pub answered-as : {b p : List ℕ} {n : ℕ} {v : Verdict} {b' p' ix' : List ℕ} {r q : Answer} → r ≡ q → AnswerIs b p n v b' p' ix' q → AnswerIs b p n v b' p' ix' r
answered-as {b} {p} {n} {v} {b'} {p'} {ix'} {r} {q} e h = subst (λ (x : Answer). AnswerIs b p n v b' p' ix' x) (sym e) h

-- Equal parts, an equal answer.
pub answer-same : {r q : Result ℕ Cause} {n m u v : ℕ} → r ≡ q → n ≡ m → u ≡ v
    → ◌≡◌ {A = Answer} (record { verdict = r; count = n; used = u }) (record { verdict = q; count = m; used = v })
answer-same {r} {q} {n} {m} {u} {v} er en eu =
    let with-row : Result ℕ Cause → Answer = λ x. record { verdict = x; count = n; used = u } in
    let with-counts : ℕ → ℕ → Answer = λ x y. record { verdict = q; count = x; used = y } in
    ap with-row er ∙ ap₂ with-counts en eu

pub untouched-as : {b p : List ℕ} {n : ℕ} {v : Verdict} {r : Answer} {c q ix b' p' ix' : List ℕ} → Untouched c q ix b' p' ix'
    → AnswerIs b p n v c q ix r → AnswerIs b p n v b' p' ix' r
untouched-as {b} {p} {n} {v} {r} {c} {q} {ix} {b'} {p'} {ix'} e h =
    subst (λ (x : List ℕ). AnswerIs b p n v x p' ix' r) (sym e.0)
    (subst (λ (x : List ℕ). AnswerIs b p n v c x ix' r) (sym e.1)
    (subst (λ (x : List ℕ). AnswerIs b p n v c q x r) (sym e.2) h))

-- Lengths of the two lent buffers that a store is in.
abbrev lent : List ℕ → List ℕ → Lengths
lent b p = record { records = length b; places = length p; rows = 0; answers = 0 }

room_of : (l : Lengths) (b p : List ℕ) (st : List Sort) → l.records ≡ length b → l.places ≡ length p → room l.records l.places st ≡ room (length b) (length p) st
room_of l b p st e f = ap₂ (λ (x y : ℕ). room x y st) e f

-- The sorts of a good store are distinct.
pub good-once : (b p ix : List ℕ) (n u : ℕ) → Good b p ix n u → Once (store_of b p n)
unfolding Once sort_at
good-once b p ix n u g i j hi hj e =
    sorts-one b p n g.stored g.distinct i j (omega (arith, store_of-length b p n)) (omega (arith, store_of-length b p n)) e

-- THE FIVE WAYS, over a good store.
module _ (b p ix : List ℕ) (n u : ℕ) (g : Good b p ix n u) where
  same_answer : (v : Verdict) (c : Cause) → ((l : Lengths) → l.records ≡ length b → l.places ≡ length p → outcome l (store_of b p n) v ≡ refusal (store_of b p n) c)
      → AnswerIs b p n v b p ix (refusing c n u)
  same_answer v c e = record { good = g; long = refl; wide = refl; is = e; starts = starts-self (store_of b p n); left = refl }

  pub made-refused : (c : Cause) → AnswerIs b p n (refused c) b p ix (refusing c n u)
  unfolding outcome
  made-refused c = same_answer (refused c) c (λ l e f. refl)

  pub made-limit : (s : Sort) → within s ≡ false → AnswerIs b p n (sort s) b p ix (refusing Limit n u)
  unfolding outcome
  made-limit s w = same_answer (sort s) Limit (λ l e f. simp w)

  pub made-full : (s : Sort) → within s ≡ true → room (length b) (length p) (intern s (store_of b p n)) ≡ false → AnswerIs b p n (sort s) b p ix (refusing Full n u)
  unfolding outcome
  made-full s w q = same_answer (sort s) Full (λ l e f. simp (w, room_of l b p (intern s (store_of b p n)) e f ∙ q))

  pub answer-made : (s : Sort) (b' p' ix' : List ℕ) (k n' u' : ℕ) → within s ≡ true → Good b' p' ix' n' u' → length b' ≡ length b → length p' ≡ length p
      → store_of b' p' n' ≡ intern s (store_of b p n) → k ≡ index_of s (store_of b' p' n') → AnswerIs b p n (sort s) b' p' ix' (accepting k n' u')
  unfolding outcome
  answer-made s b' p' ix' k n' u' w g' long wide made number =
      let st = store_of b p n in
      let fits : room (length b) (length p) (intern s st) ≡ true =
      sym (ap₂ (λ (x y : ℕ). room x y (intern s st)) long wide) ∙ ap (room (length b') (length p')) (sym made) ∙ good-room b' p' ix' n' u' g' in
      let here : k ≡ index_of s (intern s st) = number ∙ ap (index_of s) made in
      record {
        good = g';
        long = long;
        wide = wide;
        is = λ l e f. simp (w, room_of l b p (intern s st) e f ∙ fits, made, here);
        starts = subst (Starts st) (sym made) (starts-intern s st);
        left = omega (arith, here, (index-found (intern s st) s (memb-intern s st)).0, ap length made);
      }

  pub answer-known : (k : ℕ) → k < n → AnswerIs b p n (sort (sort_at b p n k)) b p ix (accepting k n u)
  unfolding sort_at
  answer-known k l =
      let st = store_of b p n in
      let o : k < length st = omega (arith, store_of-length b p n) in
      answer-made (sort_at b p n k) b p ix k n u (within-at b p ix n u g k l) g refl refl
      (sym (intern-known (sort_at b p n k) st (store-ordered b p n g.stored) (memb-at st leaf k o)))
      (sym (index_at st (good-once b p ix n u g) k o))

  -- A RECORD'S SORT, interned or without room.
  module _ (r : List ℕ) (fresh : Fresh r n) where
    pub record-intern : intern (sort_of (store_of b p n) (fields_at r 0)) (store_of b p n) ≡ add_once (store_of b p n) (sort_of (store_of b p n) (fields_at r 0))
    record-intern =
        let st = store_of b p n in
        let f = fields_at r 0 in
        intern-parts (sort_of st f) st (store-ordered b p n g.stored)
        (sort-parts st f fresh.shape (λ j l. omega (arith, fresh.below j l, store_of-length b p n)))

    pub record-made : (b' p' ix' : List ℕ) (k n' u' : ℕ) → within (sort_of (store_of b p n) (fields_at r 0)) ≡ true → Holds b p n u r b' p' ix' k n' u'
        → AnswerIs b p n (sort (sort_of (store_of b p n) (fields_at r 0))) b' p' ix' (accepting k n' u')
    record-made b' p' ix' k n' u' w h =
        answer-made (sort_of (store_of b p n) (fields_at r 0)) b' p' ix' k n' u' w h.good h.kept.long h.kept.wide
        (holds-intern b p n u r b' p' ix' k n' u' h g.stored fresh) h.number

    -- No room for a record's sort is no room for a sort that is made of it.
    pub record-full : (s : Sort) → Starts (intern (sort_of (store_of b p n) (fields_at r 0)) (store_of b p n)) (intern s (store_of b p n)) → within s ≡ true
        → room (length b) (length p) (add_once (store_of b p n) (sort_of (store_of b p n) (fields_at r 0))) ≡ false → AnswerIs b p n (sort s) b p ix (refusing Full n u)
    record-full s h w q =
        let t = sort_of (store_of b p n) (fields_at r 0) in
        made-full s w (room-starts (length b) (length p) (intern t (store_of b p n)) (intern s (store_of b p n)) h (ap (room (length b) (length p)) record-intern ∙ q))

-- The Set of a sort is made behind it.
pub intern-set : (t : Sort) (st : List Sort) → intern (set t) st ≡ add_once (intern t st) (set t)
unfolding intern
intern-set t st = refl

pub starts-set : (t : Sort) (st : List Sort) → Starts (intern t st) (intern (set t) st)
starts-set t st = subst (Starts (intern t st)) (sym (intern-set t st)) (starts-add (intern t st) (set t))

---------------------------------------------------------------- what an answer tells
-- A code of a number says that both tests passed; another, that the same refusal holds over every store.
record Passed (w t : Bool) (st o : List Sort) (k i : ℕ) : Type 0 where
  limit : w ≡ true
  fits : t ≡ true
  sorts : st ≡ o
  number : k ≡ i

by-accepted : (l : Lengths) (st : List Sort) (s : Sort) (w t : Bool) (o : List Sort) (i : ℕ) → answered l st s w t ≡ record { store = o; code = i } → i < 65536
    → Passed w t (intern s st) o (index_of s (intern s st)) i
by-accepted l st s true true o i e h = record { limit = refl; fits = refl; sorts = ap (λ (x : CodedStore). x.store) e; number = ap (λ (x : CodedStore). x.code) e }
by-accepted l st s true false o i e h = absurd (omega (arith, ap (λ (x : CodedStore). x.code) e))
by-accepted l st s false t o i e h = absurd (omega (arith, ap (λ (x : CodedStore). x.code) e))

by-refused : (l : Lengths) (st : List Sort) (s : Sort) (w t : Bool) (o : List Sort) (c : Cause) → answered l st s w t ≡ record { store = o; code = number_of c * 65536 }
    → (t ≡ true → index_of s (intern s st) < 65536) → (x : List Sort) → answered l x s w t ≡ refusal x c
by-refused l st s true true o c e h x = absurd (omega (arith, ap (λ (x : CodedStore). x.code) e, h refl, refusal-large c))
by-refused l st s true false o c e h x = ap (λ (i : ℕ). record { store = x; code = i }) (ap (λ (x : CodedStore). x.code) e)
by-refused l st s false t o c e h x = ap (λ (i : ℕ). record { store = x; code = i }) (ap (λ (x : CodedStore). x.code) e)

-- A number of a store with room is small.
index-small : (records places : ℕ) (s : Sort) (st : List Sort) → room records places (intern s st) ≡ true → index_of s (intern s st) < 65536
unfolding room
index-small records places s st e =
    let x = intern s st in
    omega (
      arith,
      (index-found x s (memb-intern s st)).0,
      leb-true (length x) 4096 (and_right (leb (length x) places) (leb (length x) 4096) (and_right (leb (bytes_of x) records) (leb (length x) places && leb (length x) 4096) e)),
    )

-- A REFUSED ANSWER LEFT ALL FIVE BUFFERS as they were, whole.
pub record Back (b p ix : List ℕ) (n u : ℕ) (b' p' ix' : List ℕ) (r : Answer) : Type 0 where
  pub same : Untouched b p ix b' p' ix'
  pub count : r.count ≡ n
  pub used : r.used ≡ u

module _ (b p : List ℕ) (n : ℕ) (v : Verdict) (b' p' ix' : List ℕ) (r : Answer) (a : AnswerIs b p n v b' p' ix' r) where
  pub answer_back : (ix : List ℕ) (u : ℕ) → Good b p ix n u → (c : Cause) → r.verdict ≡ Err c → Back b p ix n u b' p' ix' r
  answer_back ix u g c e =
      let st = store_of b p n in
      let kept : store_of b' p' r.count ≡ st = subst (AnswerLeft st (store_of b' p' r.count)) e a.left in
      let q : r.count ≡ n = sym (store_of-length b' p' r.count) ∙ ap length kept ∙ store_of-length b p n in
      let one =
      good-one b' p' ix' b p ix n r.used u (subst (λ (m : ℕ). Good b' p' ix' m r.used) q a.good) g
      (subst (λ (m : ℕ). store_of b' p' m ≡ st) q kept) a.long a.wide in
      record { same = (one.0, one.1, one.2); count = q; used = one.3 }

  -- No sort is lost.
  pub answer-more : n ≤ r.count
  answer-more = omega (arith, starts-count (store_of b p n) (store_of b' p' r.count) a.starts, store_of-length b p n, store_of-length b' p' r.count)

  -- AN ACCEPTED ANSWER is a number of the store, below 4,096.
  pub answer-number : (k : ℕ) → r.verdict ≡ Ok k → (k < r.count) × (k < 4096)
  answer-number k e =
      let l : k < length (store_of b' p' r.count) = subst (AnswerLeft (store_of b p n) (store_of b' p' r.count)) e a.left in
      (omega (arith, store_of-length b' p' r.count), omega (arith, store_of-length b' p' r.count, a.good.indexed.count))

  -- The code of an answer fits a row.
  pub answer-code : code_of r.verdict < 4294967296
  answer-code = go r.verdict refl
    where
      small : (c : Cause) → number_of c * 65536 < 4294967296
      small Cause.Below = omega arith
      small Cause.Panics = omega arith
      small Cause.Limit = omega arith
      small Cause.Full = omega arith
      small Cause.NoRank = omega arith
      small Cause.Count = omega arith
      small Cause.Misfit = omega arith
      small Cause.Unassigned = omega arith
      small Cause.Barred = omega arith
      small Cause.NoAssignment = omega arith

      go : (w : Result ℕ Cause) → r.verdict ≡ w → code_of w < 4294967296
      go (Ok k) e = omega (arith, (answer-number k e).1)
      go (Err c) e = small c

-- AN ACCEPTED ANSWER passed both tests.
module _ (b p : List ℕ) (n : ℕ) (s : Sort) (b' p' ix' : List ℕ) (r : Answer) (a : AnswerIs b p n (sort s) b' p' ix' r) where
  passed : (k : ℕ) → r.verdict ≡ Ok k
      → Passed (within s) (room (length b) (length p) (intern s (store_of b p n))) (intern s (store_of b p n)) (store_of b' p' r.count) (index_of s (intern s (store_of b p n))) k
  unfolding outcome
  passed k e =
      let st = store_of b p n in
      by-accepted (lent b p) st s (within s) (room (length b) (length p) (intern s st)) (store_of b' p' r.count) k
      (a.is (lent b p) refl refl ∙ ap (λ (v : Result ℕ Cause). record { store = store_of b' p' r.count; code = code_of v }) e)
      (omega (arith, (answer-number b p n (sort s) b' p' ix' r a k e).1))

---------------------------------------------------------------- over a store that was grown on the way to the answer
module _ (b p : List ℕ) (n : ℕ) (c q : List ℕ) (m : ℕ) (s : Sort) (same : intern s (store_of b p n) ≡ intern s (store_of c q m)) (starts : Starts (store_of b p n) (store_of c q m))
    (long : length c ≡ length b) (wide : length q ≡ length p) (b' p' ix' : List ℕ) (r : Answer) (a : AnswerIs c q m (sort s) b' p' ix' r) where
  -- Accepted there, it is accepted from the first store on.
  pub grown-accepted : (k : ℕ) → r.verdict ≡ Ok k → AnswerIs b p n (sort s) b' p' ix' r
  unfolding outcome
  grown-accepted k e =
      let t = passed c q m s b' p' ix' r a k e in
      let fits : room (length b) (length p) (intern s (store_of b p n)) ≡ true =
      ap (room (length b) (length p)) same ∙ sym (ap₂ (λ (x y : ℕ). room x y (intern s (store_of c q m))) long wide) ∙ t.fits in
      record {
        good = a.good;
        long = a.long ∙ long;
        wide = a.wide ∙ wide;
        is = λ l x y.
            ap₂ (λ (w t : Bool). answered l (store_of b p n) s w t) t.limit (room_of l b p (intern s (store_of b p n)) x y ∙ fits)
            ∙ ap₂ (λ (x : List Sort) (i : ℕ). record { store = x; code = i }) (same ∙ t.sorts)
            (ap (index_of s) same ∙ t.number ∙ sym (ap code_of e));
        starts = starts-trans (store_of b p n) (store_of c q m) (store_of b' p' r.count) starts a.starts;
        left =
            subst (AnswerLeft (store_of b p n) (store_of b' p' r.count)) (sym e)
            (subst (AnswerLeft (store_of c q m) (store_of b' p' r.count)) e a.left);
      }

  -- Refused there, it is refused from the first store on.
  pub grown-refused : (x : Cause) → r.verdict ≡ Err x → (ix : List ℕ) (u : ℕ) → Good b p ix n u → AnswerIs b p n (sort s) b p ix (refusing x n u)
  unfolding outcome
  grown-refused x e ix u g =
      same_answer b p ix n u g (sort s) x (λ l y z.
      ap (λ (st : List Sort). answered l (store_of b p n) s (within s) (room l.records l.places st)) same
      ∙ by-refused l (store_of c q m) s (within s) (room l.records l.places (intern s (store_of c q m))) (store_of b' p' r.count) x
      (a.is l (y ∙ sym long) (z ∙ sym wide) ∙ ap (λ (v : Result ℕ Cause). record { store = store_of b' p' r.count; code = code_of v }) e)
      (index-small l.records l.places s (store_of c q m)) (store_of b p n))

-- UNDOING gives back the store that the present one was grown from, whole, with its bytes in use.
undone-all : (b p ix : List ℕ) (n u : ℕ) → Good b p ix n u → (c q : List ℕ) (m : ℕ) → Starts (store_of b p n) (store_of c q m) → length c ≡ length b → length q ≡ length p
    → (b' p' ix' : List ℕ) (u' : ℕ) → UndoIs c q m b' p' ix' n u' → (b' ≡ b) × (p' ≡ p) × (ix' ≡ ix) × (u' ≡ u)
undone-all b p ix n u g c q m starts long wide b' p' ix' u' h =
    h.same b p ix u g (sym (ap (take n) starts.1 ∙ take_at (store_of b p n) starts.0 n (store_of-length b p n))) (sym long) (sym wide)

pub undone : (b p ix : List ℕ) (n u : ℕ) → Good b p ix n u → (c q : List ℕ) (m : ℕ) → Starts (store_of b p n) (store_of c q m) → length c ≡ length b → length q ≡ length p
    → (b' p' ix' : List ℕ) (u' : ℕ) → UndoIs c q m b' p' ix' n u' → Untouched b p ix b' p' ix'
undone b p ix n u g c q m starts long wide b' p' ix' u' h =
    let e = undone-all b p ix n u g c q m starts long wide b' p' ix' u' h in (e.0, e.1, e.2)

pub undone-used : (b p ix : List ℕ) (n u : ℕ) → Good b p ix n u → (c q : List ℕ) (m : ℕ) → Starts (store_of b p n) (store_of c q m) → length c ≡ length b → length q ≡ length p
    → (b' p' ix' : List ℕ) (u' : ℕ) → UndoIs c q m b' p' ix' n u' → u' ≡ u
undone-used b p ix n u g c q m starts long wide b' p' ix' u' h = (undone-all b p ix n u g c q m starts long wide b' p' ix' u' h).3
