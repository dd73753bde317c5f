-- The rows of one term over the store are the definition's, those of a record that is read again too, and with them the rows
-- of one term more.
use Prim.Native.Nat.{ℕ, suc, ◌+◌, ◌*◌, ◌≤◌, ◌<◌}
use mathlib.Core.Path.{◌≡◌, refl, sym, ap, ap₂, subst, ◌∙◌}
use mathlib.Core.Bool.{cond}
use mathlib.Core.List.{List, [], ◌∷◌, ◌++◌, append_assoc}
use mathlib.Core.Option.{Option}
use native.Mathlib.Omega.{arith}
use native.Mathlib.Nat.{not-suc-le-zero}
use lib.ListN.{length, get_or, set, take, drop, length-set, take-append-drop}
use lib.Seq.{take-suc-set, drop-set-lt, drop-drop, get_or-take, get_or-set_same, get_or-set_other, length-take-le}
use lib.Dec.{eqb}
use borrow.Author.Tests.{eqb-true, eqb-false}
use Rattle.record.specs.Kinds.{term_number}
use Rattle.record.specs.Number.{u16_at, numbers_at}
use Rattle.record.specs.Codec.{length-numbers_at, number_at}
use Rattle.record.specs.Sort.{Sort, Sorts}
use Rattle.record.specs.Decode.{store_of}
use Rattle.record.specs.StoreLaws.{store_of-length}
use Rattle.record.specs.SortLists.{Starts, starts-self, starts-trans, starts-count}
use Rattle.record.specs.Cases.{by_test, below_other}
use Rattle.reader.specs.Reader.{read_term}
use Rattle.reader.specs.Again.{ReadBefore, ReadAgain}
use Rattle.reader.specs.TermWas.{TermWas}
use Rattle.reader.specs.declared.Cursor.{Cursor}
use Rattle.reader.specs.declared.TermRecord.{TermRecord}
use Rattle.sheet.specs.Sheet.{Lengths, TermFields, term_fields}
use Rattle.sheet.specs.Trees.{trees_of, trees-length}
use Rattle.sheet.specs.Contract.{each_at, term_read_at, terms_at, TermStands}
use Rattle.sheet.specs.Stands.{Numbered, term-again, term_is}
use Rattle.store.specs.Good.{Good}
use Rattle.std.specs.Prelude.{Result, Ok, Err}
use Rattle.row_rules.specs.declared.Cause.{Cause}
use Rattle.row_rules.specs.Verdict.{Verdict, code_of}
use Rattle.row_rules.specs.Term.{Site, over_parts, consed, sorts_given}
use Rattle.row_rules.specs.Outcome.{CodedStore, outcome, row_sort}
use Rattle.row_rules.proofs.OutcomeLaws.{refusal-large}
use Rattle.infer_rules.specs.Inferred.{inferred}
use Rattle.infer_rules.proofs.ParlessTheorems.{inferred-parless}
use Rattle.check_rules.specs.Checked.{checked}
use Rattle.check_rules.specs.Ranks.{smt_lib}
use Rattle.check_rules.proofs.RankSound.{smt_lib-sound}
use Rattle.check_rules.proofs.ParlessTheorems.{checked-parless}
use Rattle.row_answer.specs.Answer.{Answer}
use Rattle.row_answer.specs.Answer.{AnswerIs}
use Rattle.row_answer.specs.AnswerLaws.{answer-more, answer-number}
use Rattle.row_answer.specs.Arguments.{JudgedAsks, arguments_of}
use Rattle.row_answer.specs.Lent.{Lent}
use Rattle.row_parts.specs.Site.{own_over, bindings_over, constants_over, indices_over, term_verdict, Standing, TermAsks, TermIs}
use Rattle.row_parts.specs.SiteLaws.{verdict-at}
use Rattle.row_parts.specs.LentLaws.{row-lent}
use Rattle.judge_rules.specs.Rows.{RowsSoFar, row_of, rows_added, checked_after, both_rows, rows_of}
use Rattle.questions.specs.All.{trees-starts}
use Rattle.questions.specs.Word.{Counts}
use Rattle.row_table.specs.Table.{tabled, RowsKnown, BothAsk, BothAre, TurnAsks, TermRowsAre, RowsAsk, RowsAre}

---------------------------------------------------------------- rows that are read
-- Only rows of terms before t are read: lists that agree there give the same sorts.
module _ (st : List Sort) (rows rows' : List ℕ) (column t : ℕ) (same : (i : ℕ) → i < t → get_or rows (2 * i + column) 0 ≡ get_or rows' (2 * i + column) 0) where
  row-agree : (i : ℕ) → i < t → row_sort st rows column i ≡ row_sort st rows' column i
  unfolding row_sort
  row-agree i o = rw (same i o) refl

  sorts-agree : (is : List ℕ) → ((j : ℕ) → j < length is → get_or is j 0 < t)
      → sorts_given (λ i. row_sort st rows column i) is ≡ sorts_given (λ i. row_sort st rows' column i) is
  unfolding sorts_given
  sorts-agree [] h = refl
  sorts-agree (i ∷ is) h = ap₂ consed (row-agree i (h 0 (omega arith))) (sorts-agree is (λ j o. h (suc j) (omega arith)))

  arguments-agree : (s : List ℕ) (at n : ℕ) → ((j : ℕ) → j < n → u16_at s (at + 2 * j) < t)
      → arguments_of st s at n rows column ≡ arguments_of st s at n rows' column
  arguments-agree s at n h =
      sorts-agree (numbers_at s at n) (λ j o.
      let y : j < n = omega (arith, length-numbers_at s at n) in
      omega (arith, number_at s at n j y, h j y))

-- The references that a record's rows are read by.
second_below : {s : List ℕ} {m t x : ℕ} {r : TermRecord} {c : Cursor} → TermWas s m t x r c
    → (j : ℕ) → j < cond (eqb (term_number r.kind) 11) r.second.count 0 → u16_at s (r.second.at + 2 * j) < t
second_below {s} {m} {t} {x} {r} {c} w j =
    by_test (eqb (term_number r.kind) 11)
    (λ q. rw q (λ o. let e = eqb-true (term_number r.kind) 11 q in w.indices (λ z. absurd (omega (arith, e, z))) j o))
    (λ q. rw q (λ o. absurd (not-suc-le-zero o)))

-- THE VERDICT ON A STANDING RECORD is read off the rows before its own.
module _ {n : ℕ} {s tbl xs rows : List ℕ} {r : TermRecord} (h : Standing n s tbl xs rows r) (J : Site → Verdict) (st : List Sort) (column : ℕ) (side : column ≤ 1) where
  abbrev before : List ℕ
  before = take (2 * h.term) rows

  taken : (i : ℕ) → i < h.term → get_or rows (2 * i + column) 0 ≡ get_or before (2 * i + column) 0
  taken i o = sym (get_or-take (2 * h.term) rows (2 * i + column) 0 (omega arith))

  verdict-taken : term_verdict J st s tbl xs rows column r ≡ term_verdict J st s tbl xs before column r
  unfolding term_verdict
  verdict-taken =
      ap₂
      (λ (o q : Option Sorts). over_parts J (term_number r.kind) r.number (own_over st tbl r) (bindings_over st tbl s r) (constants_over s xs r) (indices_over s xs r) o q)
      (arguments-agree st rows before column h.term taken s r.list.at r.list.count h.was.references)
      (arguments-agree st rows before column h.term taken s r.second.at (cond (eqb (term_number r.kind) 11) r.second.count 0)
      (second_below h.was))

  -- It stands before those rows alone.
  standing-taken : Standing n s tbl xs before r
  standing-taken =
      record {
        sorts = h.sorts;
        term = h.term;
        place = h.place;
        next = h.next;
        was = h.was;
        numbered = h.numbered;
        before = h.before;
        starts = h.starts;
        lent = omega (arith, length-take-le (2 * h.term) rows h.lent);
        known = λ i o. rw (get_or-take (2 * h.term) rows i 0 o) (h.known i o);
      }

  -- So the definition's row, from the rows so far, is the outcome of that verdict.
  row_is : (l : Lengths) → row_of J column l (terms_at s (trees_of st tbl h.sorts) xs h.term) (term_fields s (trees_of st tbl h.sorts) r) before st
      ≡ outcome l st (term_verdict J st s tbl xs rows column r)
  unfolding row_of standing-taken
  row_is l = ap (outcome l st) (sym (verdict-taken ∙ verdict-at standing-taken st J column))

-- The sheet's sorts have numbers of a store that has grown.
numbered-grown : {n : ℕ} (n' : ℕ) {s tbl : List ℕ} {m : ℕ} → n ≤ n' → Numbered n s tbl m → Numbered n' s tbl m
numbered-grown {n} n' {s} {tbl} {m} le h = record { inside = h.inside; known = λ j o. omega (arith, h.known j o); short = h.short }

-- A standing record stands over a store that has grown.
standing-grown : (n n' : ℕ) (s tbl xs rows : List ℕ) (r : TermRecord) → n ≤ n' → Standing n s tbl xs rows r → Standing n' s tbl xs rows r
standing-grown n n' s tbl xs rows r le h =
    record {
      sorts = h.sorts;
      term = h.term;
      place = h.place;
      next = h.next;
      was = h.was;
      numbered = numbered-grown n' le h.numbered;
      before = h.before;
      starts = h.starts;
      lent = h.lent;
      known = λ i o k. omega (arith, h.known i o k);
    }

-- A row's code that is no refusal is a number of the store.
code-known : {b p : List ℕ} {n : ℕ} {v : Verdict} {b' p' ix' : List ℕ} {q : Answer} → AnswerIs b p n v b' p' ix' q
    → code_of q.verdict < 65536 → code_of q.verdict < q.count
code-known {b} {p} {n} {v} {b'} {p'} {ix'} {q} a = go q.verdict refl
  where
    go : (w : Result ℕ Cause) → q.verdict ≡ w → code_of w < 65536 → code_of w < q.count
    go (Ok k) e o = (answer-number b p n v b' p' ix' q a k e).0
    go (Err c) e o = absurd (omega (arith, refusal-large c))

---------------------------------------------------------------- two rows written
module _ (rows : List ℕ) (k x y : ℕ) where
  two-taken : k + 2 ≤ length rows → take (k + 2) (set (set rows k x) (k + 1) y) ≡ take k rows ++ (x ∷ y ∷ [])
  two-taken o =
      let z : k + 2 ≡ suc (k + 1) = omega arith in
      let w : k + 1 ≡ suc k = omega arith in
      ap (λ (i : ℕ). take i (set (set rows k x) (k + 1) y)) z
      ∙ take-suc-set (set rows k x) (k + 1) y (omega (arith, length-set rows k x))
      ∙ ap (λ (l : List ℕ). l ++ (y ∷ [])) (ap (λ (i : ℕ). take i (set rows k x)) w ∙ take-suc-set rows k x (omega arith))
      ∙ append_assoc (take k rows) (x ∷ []) (y ∷ [])

  two-rest : drop (k + 2) (set (set rows k x) (k + 1) y) ≡ drop (k + 2) rows
  two-rest = drop-set-lt (k + 2) (set rows k x) (k + 1) y (omega arith) ∙ drop-set-lt (k + 2) rows k x (omega arith)

  two-long : length (set (set rows k x) (k + 1) y) ≡ length rows
  two-long = length-set (set rows k x) (k + 1) y ∙ length-set rows k x

  -- Each code of them below 65,536 is below n.
  two-known : (n : ℕ) → k + 2 ≤ length rows → ((i : ℕ) → i < k → get_or rows i 0 < 65536 → get_or rows i 0 < n) → (x < 65536 → x < n) → (y < 65536 → y < n)
      → (i : ℕ) → i < k + 2 → get_or (set (set rows k x) (k + 1) y) i 0 < 65536 → get_or (set (set rows k x) (k + 1) y) i 0 < n
  two-known n long old hx hy i o =
      by_test (eqb i (k + 1))
      (λ q.
      let e : i ≡ k + 1 = eqb-true i (k + 1) q in
      rw (e, get_or-set_same (set rows k x) (k + 1) y 0 (omega (arith, length-set rows k x))) hy)
      (λ q.
      rw (get_or-set_other (set rows k x) (k + 1) i y 0 (eqb-false i (k + 1) q))
      (by_test (eqb i k)
      (λ w. let e : i ≡ k = eqb-true i k w in rw (e, get_or-set_same rows k x 0 (omega arith)) hx)
      (λ w.
      rw (get_or-set_other rows k i x 0 (eqb-false i k w))
      (old i (below_other i k (below_other i (suc k) (omega arith) (λ e. eqb-false i (k + 1) q (omega (arith, e)))) (eqb-false i k w))))))

---------------------------------------------------------------- both rows of a record
module _ {b p ix : List ℕ} {n u : ℕ} {prm imgs bnd s tbl xs rows : List ℕ} {r : TermRecord} {t : ℕ} (h : BothAsk b p ix n u prm imgs bnd s tbl xs rows r t) where
  -- What the inferred row asks, and the checked one behind it.
  pub first-asks : (a : List ℕ) → 259 ≤ length a → TermAsks b p ix n u prm imgs bnd s tbl xs rows r a
  first-asks a o = record { good = h.good; tables = h.tables; standing = h.standing; room = o }

  -- The rows of the terms that it names can be looked at.
  pub first-judged : JudgedAsks s r.list.at r.list.count rows 0
  first-judged = let k = h.standing in record { within = k.was.list; side = omega arith; row = λ j l. omega (arith, k.was.references j l, k.lent) }

  module _ {c q jx prm₁ imgs₁ bnd₁ : List ℕ} {v : Answer} (f : TermIs inferred 0 b p n prm imgs bnd s tbl xs rows r c q jx prm₁ imgs₁ bnd₁ v) where
    more : n ≤ v.count
    more = answer-more b p n (term_verdict inferred (store_of b p n) s tbl xs rows 0 r) c q jx v f.answer

    -- The tables of names are lent over the store after it.
    first-lent : Lent c q v.count prm₁ imgs₁ bnd₁
    first-lent = row-lent inferred-parless h.tables f

    pub second-asks : (a : List ℕ) → 259 ≤ length a → TermAsks c q jx v.count v.used prm₁ imgs₁ bnd₁ s tbl xs rows r a
    second-asks a o =
        record {
          good = f.answer.good;
          tables = first-lent;
          standing = standing-grown n v.count s tbl xs rows r more h.standing;
          room = o;
        }

    module _ {b' p' ix' prm' imgs' bnd' : List ℕ} {w : Answer} (g : TermIs (checked smt_lib) 1 c q v.count prm₁ imgs₁ bnd₁ s tbl xs rows r b' p' ix' prm' imgs' bnd' w) {x y : ℕ} (ex : x ≡ code_of v.verdict) (ey : y ≡ code_of w.verdict) where
      abbrev st : List Sort
      st = store_of b p n

      abbrev st₁ : List Sort
      st₁ = store_of c q v.count

      abbrev st' : List Sort
      st' = store_of b' p' w.count

      further : v.count ≤ w.count
      further = answer-more c q v.count (term_verdict (checked smt_lib) st₁ s tbl xs rows 1 r) b' p' ix' w g.answer

      -- The definition's two rows, the inferred one first.
      module _ (k : Standing n s tbl xs rows r) (l : Lengths) (el : l.records ≡ length b) (ep : l.places ≡ length p) where
        abbrev terms : List Sort → List TermFields
        terms ts = terms_at s ts xs k.term

        abbrev so_far : List ℕ
        so_far = take (2 * k.term) rows

        inferred-is : row_of inferred 0 l (terms (trees_of st tbl k.sorts)) (term_fields s (trees_of st tbl k.sorts) r) so_far st ≡ record { store = st₁; code = x }
        inferred-is =
            row_is k inferred st 0 (omega arith) l ∙ f.answer.is l el ep ∙ ap (λ (i : ℕ). record { store = st₁; code = i }) (sym ex)

        checked-is : row_of (checked smt_lib) 1 l (terms (trees_of st tbl k.sorts)) (term_fields s (trees_of st tbl k.sorts) r) so_far st₁ ≡ record { store = st'; code = y }
        unfolding standing-grown
        checked-is =
            let kept : trees_of st₁ tbl k.sorts ≡ trees_of st tbl k.sorts =
            trees-starts st st₁ tbl k.sorts f.answer.starts (λ j o. omega (arith, k.numbered.known j o, store_of-length b p n)) in
            ap (λ (ts : List Sort). row_of (checked smt_lib) 1 l (terms ts) (term_fields s ts r) so_far st₁) (sym kept)
            ∙ row_is (standing-grown n v.count s tbl xs rows r more k) (checked smt_lib) st₁ 1 (omega arith) l
            ∙ g.answer.is l (el ∙ sym f.answer.long) (ep ∙ sym f.answer.wide)
            ∙ ap (λ (i : ℕ). record { store = st'; code = i }) (sym ey)

        rows_are : both_rows smt_lib l (terms (trees_of st tbl k.sorts)) (term_fields s (trees_of st tbl k.sorts) r) (tabled st so_far)
            ≡ tabled st' (so_far ++ (x ∷ y ∷ []))
        rows_are =
            let ts = trees_of st tbl k.sorts in
            ap (λ (o : CodedStore). checked_after smt_lib l (terms ts) (term_fields s ts r) so_far o) inferred-is
            ∙ ap (λ (o : CodedStore). rows_added so_far (record { store = st₁; code = x }) o) checked-is

      -- BOTH ROWS, written one behind the other.
      pub both-are : BothAre b p n prm imgs bnd s tbl xs rows r t b' p' ix' prm' imgs' bnd' (set (set rows (2 * t) x) (2 * t + 1) y) (record { count = w.count; used = w.used })
      both-are =
          record {
            good = g.answer.good;
            long = g.answer.long ∙ f.answer.long;
            wide = g.answer.wide ∙ f.answer.wide;
            lent = two-long rows (2 * t) x y;
            is = λ k e l el ep.
                let ts = trees_of st tbl k.sorts in
                subst (λ (i : ℕ). both_rows smt_lib l (terms_at s ts xs i) (term_fields s ts r) (tabled st (take (2 * i) rows)) ≡ tabled st' (take (2 * i) rows ++ (x ∷ y ∷ []))) e
                (rows_are k l el ep)
                ∙ ap (tabled st') (sym (two-taken rows (2 * t) x y h.room));
            rest = two-rest rows (2 * t) x y;
            known = λ i o.
                two-known rows (2 * t) x y w.count h.room
                (λ j z d. omega (arith, h.standing.known j (omega (arith, h.here)) d, more, further))
                (λ d. omega (arith, code-known f.answer (omega (arith, ex)), ex, further))
                (λ d. omega (arith, code-known g.answer (omega (arith, ey)), ey))
                i (omega arith);
            starts = starts-trans st st₁ st' f.answer.starts g.answer.starts;
            tables = row-lent (checked-parless smt_lib smt_lib-sound) first-lent g;
            params = g.params ∙ f.params;
            images = g.images ∙ f.images;
            bound = g.bound ∙ f.bound;
          }

---------------------------------------------------------------- a record at its place
module _ {b p ix : List ℕ} {n u : ℕ} {prm imgs bnd s tbl : List ℕ} {m : ℕ} {xs rows : List ℕ} {t : ℕ} (h : TurnAsks b p ix n u prm imgs bnd s tbl m xs rows t) where
  pub stands_here : TermStands s m t (get_or xs t 0)
  stands_here = h.stands t (omega arith)

  -- So it was read before, and what is read again is what was read.
  pub before_here : ReadBefore s (get_or xs t 0)
  before_here = let o = stands_here in record { sorts = m; t = t; fields = o.fields; next = o.next; read = o.read }

  pub again-read : {r : TermRecord} → ReadAgain s (get_or xs t 0) r → read_term s m t (get_or xs t 0) ≡ Ok (r, stands_here.next)
  again-read {r} a = let o = stands_here in rw (a m t o.fields o.next o.read) o.read

  module _ (r : TermRecord) (c : Cursor) (e : read_term s m t (get_or xs t 0) ≡ Ok (r, c)) where
    abbrev standing : Standing n s tbl xs rows r
    standing =
        record {
          sorts = m;
          term = t;
          place = get_or xs t 0;
          next = c;
          was = term-again s m t (get_or xs t 0) stands_here r c e;
          numbered = h.numbered;
          before = λ i o. h.stands i (omega arith);
          starts = omega (arith, h.placed);
          lent = omega (arith, h.room);
          known = h.known;
        }

    -- What both rows of the record that was read ask, and that they are the sheet's term's.
    pub both-asks : BothAsk b p ix n u prm imgs bnd s tbl xs rows r t
    both-asks = record { good = h.good; tables = h.tables; standing = standing; here = refl; room = h.room; few = h.few }

    pub turn_is : {b' p' ix' prm' imgs' bnd' rows' : List ℕ} {q : Counts} → BothAre b p n prm imgs bnd s tbl xs rows r t b' p' ix' prm' imgs' bnd' rows' q
        → TermRowsAre b p n prm imgs bnd s tbl m xs rows t b' p' ix' prm' imgs' bnd' rows' q
    turn_is {b'} {p'} {ix'} {prm'} {imgs'} {bnd'} {rows'} {q} a =
        let st = store_of b p n in
        let ts = trees_of st tbl m in
        record {
          good = a.good;
          long = a.long;
          wide = a.wide;
          lent = a.lent;
          is = λ l f g.
              ap (λ (z : TermFields). both_rows smt_lib l (terms_at s ts xs t) z (tabled st (take (2 * t) rows)))
              (term_is s m t (get_or xs t 0) stands_here r c e ts (trees-length st tbl m))
              ∙ a.is standing refl l f g;
          rest = a.rest;
          known = a.known;
          starts = a.starts;
          tables = a.tables;
          params = a.params;
          images = a.images;
          bound = a.bound;
        }

---------------------------------------------------------------- the loop
-- The first i terms have their rows.
pub record Tabling (b p : List ℕ) (n : ℕ) (prm imgs bnd s tbl : List ℕ) (m : ℕ) (xs rows b' p' ix' prm' imgs' bnd' rows' : List ℕ) (n' u' i : ℕ) : Type 0 where
  pub good : Good b' p' ix' n' u'
  pub long : length b' ≡ length b
  pub wide : length p' ≡ length p
  pub lent : length rows' ≡ length rows
  pub starts : Starts (store_of b p n) (store_of b' p' n')
  pub tables : Lent b' p' n' prm' imgs' bnd'
  pub params : prm' ≡ prm
  pub images : imgs' ≡ imgs
  pub bound : bnd' ≡ bnd
  pub is : (l : Lengths) → l.records ≡ length b → l.places ≡ length p
      → rows_of smt_lib l (store_of b p n) (terms_at s (trees_of (store_of b p n) tbl m) xs i) ≡ tabled (store_of b' p' n') (take (2 * i) rows')
  pub rest : drop (2 * i) rows' ≡ drop (2 * i) rows
  pub known : RowsKnown rows' i n'

module _ {b p ix : List ℕ} {n u : ℕ} {prm imgs bnd s tbl : List ℕ} {m : ℕ} {xs : List ℕ} {c : ℕ} {rows : List ℕ} (h : RowsAsk b p ix n u prm imgs bnd s tbl m xs c rows) where
  pub tabling-start : Tabling b p n prm imgs bnd s tbl m xs rows b p ix prm imgs bnd rows n u 0
  unfolding rows_of each_at
  tabling-start =
      record {
        good = h.good;
        long = refl;
        wide = refl;
        lent = refl;
        starts = starts-self (store_of b p n);
        tables = h.tables;
        params = refl;
        images = refl;
        bound = refl;
        is = λ l e f. refl;
        rest = refl;
        known = λ i o. absurd (not-suc-le-zero o);
      }

  module _ {b' p' ix' prm' imgs' bnd' rows' : List ℕ} {n' u' i : ℕ} (a : Tabling b p n prm imgs bnd s tbl m xs rows b' p' ix' prm' imgs' bnd' rows' n' u' i) where
    grown : n ≤ n'
    grown = omega (arith, starts-count (store_of b p n) (store_of b' p' n') a.starts, store_of-length b p n, store_of-length b' p' n')

    pub turn-asks : i < c → TurnAsks b' p' ix' n' u' prm' imgs' bnd' s tbl m xs rows' i
    turn-asks o =
        record {
          good = a.good;
          tables = a.tables;
          numbered = numbered-grown n' grown h.numbered;
          stands = λ j z. h.stands j (omega arith);
          placed = omega (arith, h.placed);
          room = omega (arith, h.room, a.lent);
          few = omega (arith, h.few);
          known = a.known;
        }

    trees-kept : trees_of (store_of b p n) tbl m ≡ trees_of (store_of b' p' n') tbl m
    trees-kept =
        sym
        (trees-starts (store_of b p n) (store_of b' p' n') tbl m a.starts
        (λ j o. omega (arith, h.numbered.known j o, store_of-length b p n)))

    module _ (o : i < c) (d q jx prm'' imgs'' bnd'' rows'' : List ℕ) (w : Counts)
        (t : TermRowsAre b' p' n' prm' imgs' bnd' s tbl m xs rows' i d q jx prm'' imgs'' bnd'' rows'' w) where
      two-more : 2 * i + 2 ≡ 2 * suc i
      two-more = omega arith

      one_more : (l : Lengths) → l.records ≡ length b → l.places ≡ length p
          → rows_of smt_lib l (store_of b p n) (terms_at s (trees_of (store_of b p n) tbl m) xs (suc i)) ≡ tabled (store_of d q w.count) (take (2 * suc i) rows'')
      unfolding rows_of each_at
      one_more l f g =
          let st = store_of b' p' n' in
          let ts = trees_of (store_of b p n) tbl m in
          ap (λ (r : RowsSoFar). both_rows smt_lib l (terms_at s ts xs i) (term_read_at s ts i (get_or xs i 0)) r) (a.is l f g)
          ∙ ap (λ (z : List Sort). both_rows smt_lib l (terms_at s z xs i) (term_read_at s z i (get_or xs i 0)) (tabled st (take (2 * i) rows'))) trees-kept
          ∙ t.is l (f ∙ sym a.long) (g ∙ sym a.wide)
          ∙ ap (λ (k : ℕ). tabled (store_of d q w.count) (take k rows'')) two-more

      rest_more : drop (2 * suc i) rows'' ≡ drop (2 * suc i) rows
      rest_more =
          ap (λ (k : ℕ). drop k rows'') (sym two-more)
          ∙ t.rest ∙ sym (drop-drop 2 (2 * i) rows') ∙ ap (drop 2) a.rest ∙ drop-drop 2 (2 * i) rows ∙ ap (λ (k : ℕ). drop k rows) two-more

      -- THE ROWS OF ONE TERM MORE.
      pub tabling-step : Tabling b p n prm imgs bnd s tbl m xs rows d q jx prm'' imgs'' bnd'' rows'' w.count w.used (i + 1)
      tabling-step =
          let z : suc i ≡ i + 1 = omega arith in
          record {
            good = t.good;
            long = t.long ∙ a.long;
            wide = t.wide ∙ a.wide;
            lent = t.lent ∙ a.lent;
            starts = starts-trans (store_of b p n) (store_of b' p' n') (store_of d q w.count) a.starts t.starts;
            tables = t.tables;
            params = t.params ∙ a.params;
            images = t.images ∙ a.images;
            bound = t.bound ∙ a.bound;
            is = λ l f g.
                subst (λ (k : ℕ). rows_of smt_lib l (store_of b p n) (terms_at s (trees_of (store_of b p n) tbl m) xs k) ≡ tabled (store_of d q w.count) (take (2 * k) rows'')) z
                (one_more l f g);
            rest = subst (λ (k : ℕ). drop (2 * k) rows'' ≡ drop (2 * k) rows) z rest_more;
            known = t.known;
          }

    -- The definition at the last term.
    module _ (e : i ≡ c) (l : Lengths) (f : l.records ≡ length b) (g : l.places ≡ length p) where
      whole : rows_of smt_lib l (store_of b p n) (terms_at s (trees_of (store_of b p n) tbl m) xs c) ≡ tabled (store_of b' p' n') (take (2 * c) rows')
      whole =
          subst (λ (k : ℕ). rows_of smt_lib l (store_of b p n) (terms_at s (trees_of (store_of b p n) tbl m) xs k) ≡ tabled (store_of b' p' n') (take (2 * k) rows')) e
          (a.is l f g)

    pub tabling-end : i ≡ c → RowsAre b p n prm imgs bnd s tbl m xs c rows b' p' ix' prm' imgs' bnd' rows' (record { count = n'; used = u' })
    tabling-end e =
        record {
          good = a.good;
          long = a.long;
          wide = a.wide;
          after = λ l f g. sym (ap (λ (r : RowsSoFar). r.store) (whole e l f g));
          written = λ l f g.
              sym (take-append-drop (2 * c) rows')
              ∙ ap₂ (λ (x y : List ℕ). x ++ y) (sym (ap (λ (r : RowsSoFar). r.rows) (whole e l f g)))
              (subst (λ (k : ℕ). drop (2 * k) rows' ≡ drop (2 * k) rows) e a.rest);
          starts = a.starts;
          params = a.params;
          images = a.images;
          bound = a.bound;
        }
