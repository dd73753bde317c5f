-- THE CHECKED ROW IS THE INFERRED ONE wherever it gives a sort: with the ranks of the table, on every sheet and in all lent lengths, a checked row that
-- is a store number is the number of the inferred row before it, and one that is 22 or 23 stands behind the same cause. So the checked row adds
-- nothing to the store. By induction over the records, the earlier ones first.
use Rattle.std.specs.Prelude.{ℕ, ◌+◌, ◌*◌, ◌<◌, ◌≡◌, refl, true, false, List, [], ◌∷◌, ◌++◌, length, get_or, eqb, ltb}
use Rattle.std.proofs.Common.{sym, ap, subst, ◌∙◌, arith, not-suc-le-zero, eqb-true, ltb-true}
use Rattle.std.proofs.lemmas.Bool.{eqb-false}
use Rattle.std.proofs.Math.Option.{Option, some}
use Rattle.record.specs.Sort.{Sort, Sorts}
use Rattle.record.specs.Record.{leaf}
use Rattle.record.specs.Store.{intern, index_of, room}
use Rattle.record.specs.SortLists.{Ordered, Starts, starts-at, starts-count, memb-intern, ordered-intern, intern-known}
use Rattle.record.specs.Cases.{and_left, and_right, and-true, three-right, not-true, by_test, none-some, some_inj, clash, below_other}
use Rattle.substitution.specs.Substitution.{empty}
use Rattle.substitution.specs.Premises.{proper_map}
use Rattle.reader.specs.Reader.{all_below}
use Rattle.sheet.specs.Sheet.{Lengths, Sheet, TermFields}
use Rattle.sheet.specs.SheetLaws.{referring}
use Rattle.row_rules.specs.declared.Cause.{Cause}
use Rattle.row_rules.specs.Verdict.{Verdict, sort, refused, number_of}
use Rattle.row_rules.specs.Term.{Site, constants_at, sorts_given, verdict_at}
use Rattle.row_rules.specs.Outcome.{within, CodedStore, refusal, outcome, row_sort}
use Rattle.row_rules.specs.Outcomes.{no_limit}
use Rattle.row_rules.specs.Meaning.{limited}
use Rattle.infer_rules.specs.Inferred.{inferred}
use Rattle.check_rules.specs.Ranks.{smt_lib}
use Rattle.check_rules.specs.Checked.{carried, checked}
use Rattle.check_rules.proofs.RankSound.{smt_lib-sound}
use Rattle.check_rules.proofs.Kept.{carried_all}
use Rattle.check_rules.proofs.RouteLaws.{checked-kept, parts}
use Rattle.check_rules.proofs.RuleTheorems.{clear-empty, clear_all-empty}
use Rattle.judge_rules.specs.Rows.{RowsSoFar, row_of, rows_of}
use Rattle.judge_rules.specs.Given.{checked_row}
use Rattle.judge_rules.specs.Judged.{accepted, judged_by, judged}
use Rattle.judge_rules.proofs.RowLaws.{row-grown, row-accepted, rows_more, rows_new, rows-old, rows_grown, turn-grown}
use Rattle.judge_rules.proofs.PlainLaws.{checked-plain, verdict-plain}
use Rattle.judge_rules.proofs.KnownLaws.{rows-known}
use Rattle.judge_rules.proofs.JudgedLaws.{told}
use Rattle.judge_rules.proofs.GivenLaws.{row_low, consed-some}
use Rattle.judge_rules.proofs.SameSorts.{checked-inferred}

---------------------------------------------------------------- a verdict twice
-- A sort that is judged again over the store that it left has the same outcome: the store then holds it.
outcome-twice : (l : Lengths) (st : List Sort) (s : Sort) → Ordered st → outcome l (outcome l st (sort s)).store (sort s) ≡ outcome l st (sort s)
unfolding outcome
outcome-twice l st s o =
    by_test (within s)
    (λ w. by_test (room l.records l.places (intern s st))
    (λ r.
    let k = intern-known s (intern s st) (ordered-intern s st o) (memb-intern s st) in
    rw (w, r, k, r) (ap held k))
    (λ r. rw (w, r, r) refl))
    (λ w. rw w refl)
  where
    held : List Sort → CodedStore
    held x = record { store = x; code = index_of s x }

-- A refusal is coded as it is, and leaves the store.
refused-outcome : (l : Lengths) (st : List Sort) (v : Verdict) (c : Cause) → v ≡ refused c → outcome l st v ≡ refusal st c
unfolding outcome
refused-outcome l st v c h = rw h refl

-- A verdict is a sort or a refusal.
by_verdict : {C : Type 0} (v : Verdict) → ((s : Sort) → v ≡ sort s → C) → ((c : Cause) → v ≡ refused c → C) → C
by_verdict (sort s) f g = f s refl
by_verdict (refused c) f g = g c refl

-- A checked sort is one that a Var may carry.
checked-carried : (z : Site) (s : Sort) → carried_all z.args ≡ true → checked smt_lib z ≡ sort s → carried s ≡ true
unfolding proper_map
checked-carried z s c h = (checked-kept smt_lib smt_lib-sound empty z s refl (clear-empty z.own) c (clear_all-empty z.args) h).carries

-- The records behind a record name only earlier ones, too.
referring-rest : (r : TermFields) (rs : List TermFields) → referring (r ∷ rs) ≡ true → referring rs ≡ true
unfolding referring
referring-rest r rs e = (three-right (all_below (length rs) r.list) (all_below (length rs) r.second) (referring rs) e).2

referring-from : (later rs : List TermFields) → referring (later ++ rs) ≡ true → referring rs ≡ true
referring-from [] rs e = e
referring-from (r ∷ later) rs e = referring-from later rs (referring-rest r (later ++ rs) e)

---------------------------------------------------------------- the rows of the terms below
-- WHAT IS KNOWN OF THE TERM i, where its checked row gives a sort: the row is a number of the store, the inferred row is the same, and the sort is
-- one that a Var may carry.
record Alike (rows : List ℕ) (now : List Sort) (i : ℕ) : Type 0 where
  pub there : get_or rows (2 * i + 1) 0 < length now
  pub same : get_or rows (2 * i + 0) 0 ≡ get_or rows (2 * i + 1) 0
  pub carries : carried (get_or now (get_or rows (2 * i + 1) 0) leaf) ≡ true

-- Of the first n terms.
abbrev EachAlike : ℕ → List ℕ → List Sort → Type 0
EachAlike n rows now = (i : ℕ) → i < n → get_or rows (2 * i + 1) 0 < 65536 → Alike rows now i

-- A store that has grown holds the same of them.
alike-grown : (rows : List ℕ) (now after : List Sort) (i : ℕ) → Starts now after → Alike rows now i → (a : Sort) → row_sort after rows 1 i ≡ some a
    → (row_sort now rows 0 i ≡ some a) × (carried a ≡ true)
unfolding row_sort
alike-grown rows now after i g K a e =
    by_test (ltb (get_or rows (2 * i + 1) 0) 65536)
    (λ q.
    let z : some (get_or after (get_or rows (2 * i + 1) 0) leaf) ≡ some a = rw q at e in
    let w : get_or now (get_or rows (2 * i + 1) 0) leaf ≡ a = sym (starts-at now after g (get_or rows (2 * i + 1) 0) K.there) ∙ some_inj z in
    (rw (K.same, q) (ap some w), subst (λ (s : Sort). carried s ≡ true) w K.carries))
    (λ q. none-some (rw q at e))

-- So the terms of a list have the same sorts in both columns, where they have checked ones.
given-same : (row row' : ℕ → Option Sort) (n : ℕ) → ((i : ℕ) (a : Sort) → i < n → row i ≡ some a → (row' i ≡ some a) × (carried a ≡ true))
    → (is : List ℕ) (ts : Sorts) → all_below n is ≡ true → sorts_given row is ≡ some ts → (sorts_given row' is ≡ some ts) × (carried_all ts ≡ true)
unfolding sorts_given all_below carried_all
given-same row row' n f [] ts b e = (e, rw (← some_inj e) refl)
given-same row row' n f (i ∷ is) ts b e =
    let (a, us, p, q, z) = consed-some (row i) (sorts_given row is) ts e in
    let (x, c) = f i a (ltb-true i n (and_left (ltb i n) (all_below n is) b)) p in
    let (y, d) = given-same row row' n f is us (and_right (ltb i n) (all_below n is) b) q in
    (rw (x, y) (ap some z), rw (← z) (and-true (carried a) (carried_all us) c d))

---------------------------------------------------------------- both rows of one term
-- The record r behind the records rs, over the rows so far and the store `now`.
module _ (l : Lengths) (rs : List TermFields) (r : TermFields) (rows : List ℕ) (now : List Sort) (refs : referring (r ∷ rs) ≡ true) (K : EachAlike (length rs) rows now) where
  abbrev first : CodedStore
  first = row_of inferred 0 l rs r rows now

  abbrev second : CodedStore
  second = row_of (checked smt_lib) 1 l rs r rows first.store

  abbrev verdict : Verdict
  verdict = verdict_at (checked smt_lib) (λ i. row_sort first.store rows 1 i) rs r

  -- Where the checked verdict is a sort, the inferred one is that.
  verdict-same : (s : Sort) → verdict ≡ sort s → (verdict_at inferred (λ i. row_sort now rows 0 i) rs r ≡ sort s) × (carried s ≡ true)
  unfolding verdict_at referring
  verdict-same s h =
      let row : ℕ → Option Sort = λ i. row_sort first.store rows 1 i in
      let row' : ℕ → Option Sort = λ i. row_sort now rows 0 i in
      let (b, d, e) = three-right (all_below (length rs) r.list) (all_below (length rs) r.second) (referring rs) refs in
      let (ts, js, p, q, g) = parts (checked smt_lib) r.kind r.number r.own r.bindings (constants_at rs r.list) (constants_at rs r.second) (sorts_given row r.list) (sorts_given row r.second) s h in
      let (x, c) = given-same row row' (length rs) alike r.list ts b p in
      let (y, f) = given-same row row' (length rs) alike r.second js d q in
      let z : Site =
      record { kind = r.kind; number = r.number; own = r.own; args = ts; bindings = r.bindings; constants = constants_at rs r.list; indices = constants_at rs r.second } in
      (rw (x, y) (checked-inferred z s c g), checked-carried z s c g)
    where
      alike : (i : ℕ) (a : Sort) → i < length rs → row_sort first.store rows 1 i ≡ some a → (row_sort now rows 0 i ≡ some a) × (carried a ≡ true)
      alike i a o e = alike-grown rows now first.store i (row-grown inferred 0 l rs r rows now).starts (K i o (row_low first.store rows 1 i a e)) a e

  -- Then both rows are one: the same number or refusal, and the same store.
  rows-one : Ordered now → (s : Sort) → verdict ≡ sort s → second ≡ first
  unfolding row_of
  rows-one o s h =
      let e = (verdict-same s h).0 in
      let a : first ≡ outcome l now (sort s) = ap (outcome l now) e in
      ap (outcome l first.store) h ∙ ap (λ (c : CodedStore). outcome l c.store (sort s)) a ∙ outcome-twice l now s o ∙ sym a

  -- A refusal for a cause of the record is coded so.
  refused-second : (c : Cause) → verdict ≡ refused c → second ≡ refusal first.store c
  unfolding row_of
  refused-second c h = refused-outcome l first.store verdict c h

  -- THE CHECKED ROW ADDS NOTHING to the store that the inferred row left.
  row-adds : Ordered now → second.store ≡ first.store
  row-adds o =
      by_verdict verdict
      (λ s h. ap (λ (c : CodedStore). c.store) (rows-one o s h))
      (λ c h. ap (λ (d : CodedStore). d.store) (refused-second c h))

  -- A CHECKED ROW THAT IS A NUMBER is the inferred one.
  number-same : Ordered now → second.code < 65536 → (first.code ≡ second.code) × (carried (get_or second.store second.code leaf) ≡ true)
  number-same o low =
      let (s, h, A) = row-accepted (checked smt_lib) 1 l rs r rows first.store low in (
        sym (ap (λ (c : CodedStore). c.code) (rows-one o s h)),
        subst (λ (a : Sort). carried a ≡ true) (sym A.there) (verdict-same s h).1,
      )

  -- And so is one that is 22 or 23.
  limit-same : Ordered now → limited second.code ≡ true → first.code ≡ second.code
  unfolding no_limit
  limit-same o m =
      by_verdict verdict
      (λ s h. sym (ap (λ (c : CodedStore). c.code) (rows-one o s h)))
      (λ c h. clash (by_cause c h) (by_plain c h))
    where
      by_cause : (c : Cause) → verdict ≡ refused c → limited (number_of c * 65536) ≡ true
      by_cause c h = subst (λ (d : CodedStore). limited d.code ≡ true) (refused-second c h) m

      by_plain : (c : Cause) → verdict ≡ refused c → limited (number_of c * 65536) ≡ false
      by_plain c h =
          let p = verdict-plain (checked smt_lib) (checked-plain smt_lib) (λ i. row_sort first.store rows 1 i) rs r in
          not-true (limited (number_of c * 65536)) (rw h at p)

---------------------------------------------------------------- all rows
-- The rows of a sheet's terms, from a store with parts before wholes.
module _ (l : Lengths) (st : List Sort) (ordered : Ordered st) where
  abbrev tabled : List TermFields → RowsSoFar
  tabled rs = rows_of smt_lib l st rs

  still : (rs : List TermFields) → Ordered (tabled rs).store
  still rs = (rows_grown smt_lib l st rs).ordered ordered

  -- Of a term whose two rows are known, more rows and a larger store leave all that is known.
  alike-stays : (rs : List TermFields) (r : TermFields) (i : ℕ) → i < length rs → Alike (tabled rs).rows (tabled rs).store i → Alike (tabled (r ∷ rs)).rows (tabled (r ∷ rs)).store i
  alike-stays rs r i low K =
      let g = (turn-grown smt_lib l st rs r).starts in
      let a = rows-old smt_lib l st rs r (2 * i + 0) (omega arith) in
      let b = rows-old smt_lib l st rs r (2 * i + 1) (omega arith) in
      let s = starts-at (tabled rs).store (tabled (r ∷ rs)).store g (get_or (tabled rs).rows (2 * i + 1) 0) K.there in
      record {
        there = omega (arith, b, K.there, starts-count (tabled rs).store (tabled (r ∷ rs)).store g);
        same = a ∙ K.same ∙ sym b;
        carries = rw (b, s) K.carries;
      }

  -- The rows of one more term.
  newest-alike : (rs : List TermFields) (r : TermFields) → referring (r ∷ rs) ≡ true → EachAlike (length rs) (tabled rs).rows (tabled rs).store
      → get_or (tabled (r ∷ rs)).rows (2 * length rs + 1) 0 < 65536 → Alike (tabled (r ∷ rs)).rows (tabled (r ∷ rs)).store (length rs)
  newest-alike rs r refs K h =
      let a = rows_new smt_lib l st rs r 0 in
      let b = rows_new smt_lib l st rs r 1 in
      let m = ap (λ (m : RowsSoFar). m.store) (rows_more smt_lib l st rs r) in
      let (same, carries) = number-same l rs r (tabled rs).rows (tabled rs).store refs K (still rs) (rw b at h) in
      record { there = rows-known smt_lib l st (r ∷ rs) (2 * length rs + 1) (omega arith) h; same = a ∙ same ∙ sym b; carries = rw (b, m) carries }

  -- WHAT THE TWO ROWS OF EVERY TERM ARE, where its checked row gives a sort.
  each-alike : (rs : List TermFields) → referring rs ≡ true → EachAlike (length rs) (tabled rs).rows (tabled rs).store
  each-alike [] refs i low h = absurd (not-suc-le-zero low)
  each-alike (r ∷ rs) refs i low h =
      let K = each-alike rs (referring-rest r rs refs) in
      by_test (eqb i (length rs))
      (λ q.
      let e = eqb-true i (length rs) q in
      subst (Alike (tabled (r ∷ rs)).rows (tabled (r ∷ rs)).store) (sym e) (newest-alike rs r refs K (rw e at h)))
      (λ q.
      let o : i < length rs = below_other i (length rs) low (eqb-false i (length rs) q) in
      alike-stays rs r i o (K i o (rw (rows-old smt_lib l st rs r (2 * i + 1) (omega arith)) at h)))

  -- A CHECKED ROW THAT IS A STORE NUMBER IS THE INFERRED ROW of its term.
  pub rows-same : (rs : List TermFields) → referring rs ≡ true → (n : ℕ) → n < length rs → get_or (tabled rs).rows (2 * n + 1) 0 < 65536
      → get_or (tabled rs).rows (2 * n + 0) 0 ≡ get_or (tabled rs).rows (2 * n + 1) 0
  rows-same rs refs n low h = (each-alike rs refs n low h).same

  -- A CHECKED ROW THAT IS 22 OR 23 is it, too.
  pub rows-limited : (rs : List TermFields) → referring rs ≡ true → (n : ℕ) → n < length rs → limited (get_or (tabled rs).rows (2 * n + 1) 0) ≡ true
      → get_or (tabled rs).rows (2 * n + 0) 0 ≡ get_or (tabled rs).rows (2 * n + 1) 0
  rows-limited [] refs n low h = absurd (not-suc-le-zero low)
  rows-limited (r ∷ rs) refs n low h =
      let earlier = referring-rest r rs refs in
      let a = rows_new smt_lib l st rs r 0 in
      let b = rows_new smt_lib l st rs r 1 in
      by_test (eqb n (length rs))
      (λ q.
      let e = eqb-true n (length rs) q in
      rw (e, a, b) (limit-same l rs r (tabled rs).rows (tabled rs).store refs (each-alike rs earlier) (still rs) (rw (e, b) at h)))
      (λ q.
      let o : n < length rs = below_other n (length rs) low (eqb-false n (length rs) q) in
      let c = rows-old smt_lib l st rs r (2 * n + 0) (omega arith) in
      let d = rows-old smt_lib l st rs r (2 * n + 1) (omega arith) in
      rw (c, d) (rows-limited rs earlier n o (rw d at h)))

  -- THE STORE AFTER BOTH ROWS OF A TERM is the store after its inferred row.
  pub rows-add : (rs : List TermFields) (r : TermFields) → referring (r ∷ rs) ≡ true
      → (tabled (r ∷ rs)).store ≡ (row_of inferred 0 l rs r (tabled rs).rows (tabled rs).store).store
  rows-add rs r refs =
      ap (λ (m : RowsSoFar). m.store) (rows_more smt_lib l st rs r)
      ∙ row-adds l rs r (tabled rs).rows (tabled rs).store refs (each-alike rs (referring-rest r rs refs)) (still rs)

---------------------------------------------------------------- an accepted sheet
-- The inferred row of a term, beside `checked_row`.
abbrev pub inferred_row : List ℕ → ℕ → ℕ
inferred_row rows t = get_or rows (2 * t + 0) 0

-- AN ACCEPTED SHEET, the bytes A with any lent lengths, judged with the ranks of the table.
module _ (A : List ℕ) (l : Lengths) (h : Sheet) (st : List Sort) (rows answers : List ℕ) (e : judged A l ≡ accepted h st rows answers) where
  abbrev whole : judged_by smt_lib A l ≡ accepted h st rows answers
  whole = unfold judged in e

  -- SAME STORE NUMBER: where the checked row of a term is a store number, its inferred row is the same number.
  pub same-number : (t : ℕ) → t < length h.terms → checked_row rows t < 65536 → inferred_row rows t ≡ checked_row rows t
  same-number t low q =
      let k = told smt_lib A l h st rows answers whole in
      subst (λ (z : List ℕ). get_or z (2 * t + 1) 0 < 65536 → get_or z (2 * t + 0) 0 ≡ get_or z (2 * t + 1) 0) k.rows_are
      (rows-same l h.store k.sheet.sorted.ordered h.terms k.sheet.terms-are.below t low) q

  -- SAME LIMIT: where it is 22 or 23, its inferred row is that, too.
  pub same-limit : (t : ℕ) → t < length h.terms → limited (checked_row rows t) ≡ true → inferred_row rows t ≡ checked_row rows t
  same-limit t low q =
      let k = told smt_lib A l h st rows answers whole in
      subst (λ (z : List ℕ). limited (get_or z (2 * t + 1) 0) ≡ true → get_or z (2 * t + 0) 0 ≡ get_or z (2 * t + 1) 0) k.rows_are
      (rows-limited l h.store k.sheet.sorted.ordered h.terms k.sheet.terms-are.below t low) q

  -- SO THE CHECKED ROW ADDS NOTHING TO THE STORE: of every term r of the sheet, behind the terms rs, the store after both rows is the store after its
  -- inferred row.
  pub adds-nothing : (later : List TermFields) (r : TermFields) (rs : List TermFields) → h.terms ≡ later ++ (r ∷ rs)
      → (rows_of smt_lib l h.store (r ∷ rs)).store ≡ (row_of inferred 0 l rs r (rows_of smt_lib l h.store rs).rows (rows_of smt_lib l h.store rs).store).store
  adds-nothing later r rs q =
      let k = told smt_lib A l h st rows answers whole in
      rows-add l h.store k.sheet.sorted.ordered rs r (referring-from later (r ∷ rs) (rw q at k.sheet.terms-are.below))
