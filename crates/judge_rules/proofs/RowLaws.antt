-- The rows of a sheet's terms: how many they are, that the store only grows and stays a store, and THE LAW: where no row at a term or below
-- it has a code that is left out, its row means the verdict of its tree. By induction over the records, the earlier ones first. It is said
-- once, over any way to read codes; with 22 and 23 left out it is `row_is`.
use Prim.Native.Nat.{ℕ, zero, suc, ◌+◌, ◌*◌, ◌≤◌, ◌<◌}
use Rattle.std.specs.Prelude.{◌≡◌, true, false, not, eqb}
use Rattle.std.proofs.Math.Path.{refl, ap, subst}
use Rattle.std.proofs.Common.{sym, ◌∙◌, arith, not-suc-le-zero, get_or-append-add}
use Rattle.std.proofs.Math.Bool.{Bool}
use mathlib.Core.List.{List, [], ◌∷◌, ◌++◌}
use Rattle.std.proofs.Math.ListN.{length, get_or, length-append, get_or-append}
use borrow.Author.Tests.{eqb-true, eqb-false}
use Rattle.std.proofs.Math.Option.{Option, none, some}
use Rattle.record.specs.Sort.{Sort, Sorts}
use Rattle.record.specs.Store.{room}
use Rattle.record.specs.Cases.{three-right, not-true, by_test, below_other}
use Rattle.reader.specs.Reader.{all_below}
use Rattle.sheet.specs.Sheet.{Lengths, Binding, TermFields}
use Rattle.sheet.specs.SheetLaws.{referring}
use Rattle.row_rules.specs.declared.Cause.TheVariants.{Below}
use Rattle.row_rules.specs.Verdict.{Verdict, sort, refused}
use Rattle.row_rules.specs.Term.{Site, over_parts, Term, tree_of, term_at, verdict_of, constants_at, sorts_given, verdict_at}
use Rattle.row_rules.specs.Outcome.{CodedStore, outcome, row_sort}
use Rattle.row_rules.specs.Meaning.{Means, limited, all_of, without, free}
use Rattle.row_rules.specs.Outcomes.{Accepted, Grown}
use Rattle.row_rules.proofs.OutcomeLaws.{any-accepted, grown-self, grown-trans, outcome-grown, outcome-means, outcome-refused, means-stays, room-few}
use Rattle.row_rules.proofs.TermLaws.{verdict-is}
use Rattle.infer_rules.specs.Inferred.{inferred, infer}
use Rattle.check_rules.specs.Rank.{Rank}
use Rattle.check_rules.specs.Checked.{checked, check}
use Rattle.judge_rules.specs.Rows.{RowsSoFar, row_of, rows_of}

-- The verdict that a column holds: 0 the inferred one, 1 the checked one.
abbrev pub judging : (ℕ → List Rank) → ℕ → Site → Verdict
judging R zero = inferred
judging R (suc n) = checked R

-- The two columns judge trees by `infer` and by `check`.
pub judging-infer : (R : ℕ → List Rank) (t : Term) → verdict_of (judging R 0) t ≡ infer t
unfolding infer
judging-infer R t = refl

pub judging-check : (R : ℕ → List Rank) (t : Term) → verdict_of (judging R 1) t ≡ check R t
unfolding check
judging-check R t = refl

---------------------------------------------------------------- what codes mean
-- A WAY TO READ CODES: some are left out, by a test; an outcome with another code means its verdict, as g changes it. 20 is not changed.
pub record MeansBy (out : ℕ → Bool) (g : Verdict → Verdict) : Type 0 where
  pub below-stays : g (refused Below) ≡ refused Below
  pub means : (l : Lengths) (st : List Sort) (v : Verdict) → out (outcome l st v).code ≡ false → Means (outcome l st v).store (outcome l st v).code (g v)

-- So the verdict on a record may be changed before its parts are looked at or after it: where one has no sort, it is 20 both ways.
module _ (out : ℕ → Bool) (g : Verdict → Verdict) (by : MeansBy out g) (J : Site → Verdict) where
  over-changed : (k n : ℕ) (o : Sort) (bs : List Binding) (cs is : List (Option ℕ)) (a b : Option Sorts)
      → over_parts (λ z. g (J z)) k n o bs cs is a b ≡ g (over_parts J k n o bs cs is a b)
  over-changed k n o bs cs is none b = sym by.below-stays
  over-changed k n o bs cs is (some ts) none = sym by.below-stays
  over-changed k n o bs cs is (some ts) (some js) = refl

  at-changed : (row : ℕ → Option Sort) (rs : List TermFields) (r : TermFields) → verdict_at (λ z. g (J z)) row rs r ≡ g (verdict_at J row rs r)
  unfolding verdict_at
  at-changed row rs r =
      over-changed r.kind r.number r.own r.bindings (constants_at rs r.list) (constants_at rs r.second) (sorts_given row r.list) (sorts_given row r.second)

-- Where no limit is met, 22 or 23, an outcome means its verdict as it is.
pub plainly : MeansBy (λ c. limited c) (λ v. v)
plainly = record { below-stays = refl; means = λ l st v f. outcome-means l st v f }

---------------------------------------------------------------- one row
-- A row in any column, by any verdict J, of the record r behind the records rs, over the rows so far and the store `now`.
module _ (J : Site → Verdict) (column : ℕ) (l : Lengths) (rs : List TermFields) (r : TermFields) (rows : List ℕ) (now : List Sort) where
  abbrev verdict : Verdict
  verdict = verdict_at J (λ i. row_sort now rows column i) rs r

  -- It only adds to the store, and keeps it a store.
  pub row-grown : Grown l now (row_of J column l rs r rows now).store
  unfolding row_of
  row-grown = outcome-grown l now verdict

  -- A REFUSED ROW LEAVES THE STORE AS IT WAS.
  pub row-refused : 65536 ≤ (row_of J column l rs r rows now).code → (row_of J column l rs r rows now).store ≡ now
  unfolding row_of
  row-refused h = outcome-refused l now verdict h

  -- AN ACCEPTED ROW adds only the sorts inside its answer, and its code is the answer's number.
  pub row-accepted : (row_of J column l rs r rows now).code < 65536
      → (s : Sort) × (verdict_at J (λ i. row_sort now rows column i) rs r ≡ sort s) × Accepted l now s (row_of J column l rs r rows now)
  unfolding row_of
  row-accepted h = any-accepted l now verdict h

  -- Over a store in which the rows below it mean the verdicts of their trees, it means the verdict of its own, unless its code is left out.
  row-means : (out : ℕ → Bool) (g : Verdict → Verdict) → MeansBy out g → (ok : ℕ → Bool) → length now ≤ 65536
      → ((i : ℕ) → i < length rs → ok i ≡ true → Means now (get_or rows (2 * i + column) 0) (verdict_of (λ z. g (J z)) (term_at rs i)))
      → referring (r ∷ rs) ≡ true → all_of ok r.list ≡ true → all_of ok r.second ≡ true
      → out (row_of J column l rs r rows now).code ≡ false
      → Means (row_of J column l rs r rows now).store (row_of J column l rs r rows now).code (verdict_of (λ z. g (J z)) (tree_of (λ j. term_at rs j) r))
  unfolding row_of referring
  row-means out g by ok small below refs a b f =
      let both = three-right (all_below (length rs) r.list) (all_below (length rs) r.second) (referring rs) refs in
      let o = outcome l now verdict in
      subst (λ (v : Verdict). Means o.store o.code v)
      (sym (at-changed out g by J (λ i. row_sort now rows column i) rs r)
      ∙ verdict-is (λ z. g (J z)) now rows column rs r ok small below both.0 both.1 a b)
      (by.means l now verdict f)

---------------------------------------------------------------- all rows
module _ (R : ℕ → List Rank) (l : Lengths) (st : List Sort) where
  abbrev tabled : List TermFields → RowsSoFar
  tabled rs = rows_of R l st rs

  -- The two outcomes of the record r behind the records rs.
  abbrev first : List TermFields → TermFields → CodedStore
  first rs r = row_of inferred 0 l rs r (tabled rs).rows (tabled rs).store

  abbrev second : List TermFields → TermFields → CodedStore
  second rs r = row_of (checked R) 1 l rs r (tabled rs).rows (first rs r).store

  -- THE ROWS OF ONE MORE TERM: the inferred one over the store so far, then the checked one over the store after that, each from
  -- its own column of the rows below.
  pub rows_more : (rs : List TermFields) (r : TermFields)
      → tabled (r ∷ rs) ≡ record { store = (second rs r).store; rows = (tabled rs).rows ++ ((first rs r).code ∷ (second rs r).code ∷ []) }
  unfolding rows_of
  rows_more rs r = refl

  -- TWO ROWS A TERM.
  pub rows-count : (rs : List TermFields) → length (tabled rs).rows ≡ 2 * length rs
  unfolding rows_of
  rows-count [] = refl
  rows-count (r ∷ rs) = simp length-append (omega (arith, rows-count rs))

  pub rows_new : (rs : List TermFields) (r : TermFields) (i : ℕ)
      → get_or (tabled (r ∷ rs)).rows (2 * length rs + i) 0 ≡ get_or ((first rs r).code ∷ (second rs r).code ∷ []) i 0
  rows_new rs r i =
      rw (rows_more rs r, ← rows-count rs) (get_or-append-add (tabled rs).rows ((first rs r).code ∷ (second rs r).code ∷ []) i 0)

  pub turn-grown : (rs : List TermFields) (r : TermFields) → Grown l (tabled rs).store (tabled (r ∷ rs)).store
  turn-grown rs r =
      rw (rows_more rs r)
      (grown-trans l (tabled rs).store (first rs r).store (second rs r).store
      (row-grown inferred 0 l rs r (tabled rs).rows (tabled rs).store)
      (row-grown (checked R) 1 l rs r (tabled rs).rows (first rs r).store))

  -- THE STORE ONLY GROWS over the terms, and stays a store: distinct sorts, parts before wholes, room.
  pub rows_grown : (rs : List TermFields) → Grown l st (tabled rs).store
  unfolding rows_of
  rows_grown [] = grown-self l st
  rows_grown (r ∷ rs) = grown-trans l st (tabled rs).store (tabled (r ∷ rs)).store (rows_grown rs) (turn-grown rs r)

  -- The rows of earlier terms stay.
  pub rows-old : (rs : List TermFields) (r : TermFields) (i : ℕ) → i < 2 * length rs → get_or (tabled (r ∷ rs)).rows i 0 ≡ get_or (tabled rs).rows i 0
  unfolding rows_of
  rows-old rs r i h = get_or-append (tabled rs).rows _ 0 i (omega (arith, rows-count rs))

  -- EACH ROW KEEPS ITS MEANING while further terms are judged.
  pub row_stays : (rs : List TermFields) (r : TermFields) (i : ℕ) (v : Verdict) → i < 2 * length rs
      → Means (tabled rs).store (get_or (tabled rs).rows i 0) v → Means (tabled (r ∷ rs)).store (get_or (tabled (r ∷ rs)).rows i 0) v
  row_stays rs r i v h m =
      rw (rows-old rs r i h) (means-stays (tabled rs).store (tabled (r ∷ rs)).store (get_or (tabled rs).rows i 0) v (turn-grown rs r).starts m)

  -- The store has at most 4,096 sorts where it began with room.
  few : (now : List Sort) → room l.records l.places st ≡ true → Grown l st now → length now ≤ 65536
  few now r g = omega (arith, room-few l.records l.places now (g.roomy r))

  -- By any way to read codes.
  module _ (out : ℕ → Bool) (g : Verdict → Verdict) (by : MeansBy out g) where
    -- The verdict that a column stands for.
    abbrev meant : ℕ → Site → Verdict
    meant column = λ z. g (judging R column z)

    -- What is known of the earlier rows, in one column.
    abbrev Meant : List TermFields → ℕ → (ℕ → Bool) → Type 0
    Meant rs column ok = (i : ℕ) → i < length rs → ok i ≡ true
        → Means (tabled rs).store (get_or (tabled rs).rows (2 * i + column) 0) (verdict_of (meant column) (term_at rs i))

    -- The two rows of one term: the inferred one keeps its meaning while the checked one is added.
    turn-means : (rs : List TermFields) (r : TermFields) (column : ℕ) (ok : ℕ → Bool) → column < 2 → room l.records l.places st ≡ true
        → Meant rs column ok → referring (r ∷ rs) ≡ true → all_of ok r.list ≡ true → all_of ok r.second ≡ true
        → out (get_or ((first rs r).code ∷ (second rs r).code ∷ []) column 0) ≡ false
        → Means (second rs r).store (get_or ((first rs r).code ∷ (second rs r).code ∷ []) column 0) (verdict_of (meant column) (tree_of (λ j. term_at rs j) r))
    turn-means rs r zero ok col roomy below refs a b f =
        means-stays (first rs r).store (second rs r).store (first rs r).code (verdict_of (meant 0) (tree_of (λ j. term_at rs j) r))
        (row-grown (checked R) 1 l rs r (tabled rs).rows (first rs r).store).starts
        (row-means inferred 0 l rs r (tabled rs).rows (tabled rs).store out g by ok (few (tabled rs).store roomy (rows_grown rs)) below refs a b f)
    turn-means rs r (suc zero) ok col roomy below refs a b f =
        let grown = row-grown inferred 0 l rs r (tabled rs).rows (tabled rs).store in
        row-means (checked R) 1 l rs r (tabled rs).rows (first rs r).store out g by ok
        (few (first rs r).store roomy (grown-trans l st (tabled rs).store (first rs r).store (rows_grown rs) grown))
        (λ i h o. means-stays (tabled rs).store (first rs r).store (get_or (tabled rs).rows (2 * i + 1) 0) (verdict_of (meant 1) (term_at rs i)) grown.starts (below i h o))
        refs a b f
    turn-means rs r (suc (suc column)) ok col roomy below refs a b f = absurd (omega arith)

    -- THE LAW over any list of rows that begins as the rows of these terms do, so that it can be used while the rows grow.
    rows-mean : (rows : List ℕ) → room l.records l.places st ≡ true → (rs : List TermFields) → referring rs ≡ true
        → ((i : ℕ) → i < 2 * length rs → get_or rows i 0 ≡ get_or (tabled rs).rows i 0)
        → (column n : ℕ) → column < 2 → n < length rs → without out rows column rs n ≡ true
        → Means (tabled rs).store (get_or (tabled rs).rows (2 * n + column) 0) (verdict_of (meant column) (term_at rs n))
    unfolding rows_of without term_at referring
    rows-mean rows roomy [] refs agree column n col low f = absurd (not-suc-le-zero low)
    rows-mean rows roomy (r ∷ rs) refs agree column n col low f =
        let earlier = (three-right (all_below (length rs) r.list) (all_below (length rs) r.second) (referring rs) refs).2 in
        let agree' : (i : ℕ) → i < 2 * length rs → get_or rows i 0 ≡ get_or (tabled rs).rows i 0 =
        λ i h. agree i (omega arith) ∙ rows-old rs r i h in
        let ok : ℕ → Bool = λ j. without out rows column rs j in
        by_test (eqb n (length rs))
        (λ q.
        let e = eqb-true n (length rs) q in
        let t = three-right (not (out (get_or rows (2 * n + column) 0))) (all_of ok r.list) (all_of ok r.second) (rw q at f) in
        let c : get_or rows (2 * n + column) 0 ≡ get_or ((first rs r).code ∷ (second rs r).code ∷ []) column 0 =
        ap (λ (k : ℕ). get_or rows (2 * k + column) 0) e ∙ agree (2 * length rs + column) (omega arith) ∙ rows_new rs r column in
        rw (q, e, rows_new rs r column)
        (turn-means rs r column ok col roomy (λ i h o. rows-mean rows roomy rs earlier agree' column i col h o) refs t.1 t.2
        (subst (λ (k : ℕ). out k ≡ false) c (not-true (out (get_or rows (2 * n + column) 0)) t.0))))
        (λ q.
        let o : n < length rs = below_other n (length rs) low (eqb-false n (length rs) q) in
        rw q (row_stays rs r (2 * n + column) (verdict_of (meant column) (term_at rs n)) (omega arith)
        (rows-mean rows roomy rs earlier agree' column n col o (rw q at f))))

    -- THE LAW: where no row at a term or below it has a code that is left out, its row in a column means the verdict of its tree in that
    -- column, as g changes it.
    pub row-is-by : (rs : List TermFields) → room l.records l.places st ≡ true → referring rs ≡ true
        → (column n : ℕ) → column < 2 → n < length rs → without out (rows_of R l st rs).rows column rs n ≡ true
        → Means (rows_of R l st rs).store (get_or (rows_of R l st rs).rows (2 * n + column) 0) (verdict_of (λ z. g (judging R column z)) (term_at rs n))
    row-is-by rs roomy refs column n col low f = rows-mean (tabled rs).rows roomy rs refs (λ i h. refl) column n col low f

  -- WHERE NO LIMIT IS MET at a term or below it, its row in a column means the verdict of its tree in that column.
  pub row_is : (rs : List TermFields) → room l.records l.places st ≡ true → referring rs ≡ true
      → (column n : ℕ) → column < 2 → n < length rs → free (rows_of R l st rs).rows column rs n ≡ true
      → Means (rows_of R l st rs).store (get_or (rows_of R l st rs).rows (2 * n + column) 0) (verdict_of (judging R column) (term_at rs n))
  row_is = row-is-by (λ c. limited c) (λ v. v) plainly
