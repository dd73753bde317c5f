-- Every sort that a checked row names is one that a Var may carry (`carried`): proper, or one Par outermost over a proper Function.
-- At one record it is what `checked-kept` says of the map that replaces nothing; over all rows by induction over the records.
use Rattle.std.specs.Prelude.{ℕ, ◌+◌, ◌*◌, ◌<◌, ◌≡◌, refl, true, ◌&&◌, get_or, eqb, ltb}
use Rattle.std.proofs.Common.{subst, arith, not-suc-le-zero, eqb-true, ltb-true}
use mathlib.Core.List.{List, [], ◌∷◌}
use Rattle.std.proofs.Math.Option.{some}
use Rattle.std.proofs.Math.ListN.{length}
use Rattle.std.proofs.lemmas.Bool.{eqb-false}
use Rattle.record.specs.Sort.{Sort, Sorts}
use Rattle.record.specs.Record.{leaf}
use Rattle.record.specs.SortLists.{Starts, starts-at, starts-count}
use Rattle.record.specs.Cases.{and_left, and_right, and-true, three-right, by_test, by_option, none-some, some_inj, below_other}
use Rattle.reader.specs.Reader.{all_below}
use Rattle.sheet.specs.Sheet.{Lengths, Sheet, TermFields}
use Rattle.sheet.specs.SheetLaws.{referring}
use Rattle.substitution.specs.Substitution.{empty}
use Rattle.substitution.specs.Premises.{touches, proper_map}
use Rattle.row_rules.specs.Verdict.{sort}
use Rattle.row_rules.specs.Term.{Site, constants_at, sorts_given, verdict_at}
use Rattle.row_rules.specs.Outcome.{row_sort}
use Rattle.infer_rules.specs.Inferred.{inferred}
use Rattle.check_rules.specs.Rank.{Rank}
use Rattle.check_rules.proofs.RankSound.{Sound}
use Rattle.check_rules.specs.Checked.{carried, checked}
use Rattle.check_rules.proofs.Kept.{carried_all}
use Rattle.check_rules.proofs.RouteLaws.{checked-kept, parts}
use Rattle.check_rules.proofs.RouteTheorems.{parameters-clear, parameters-clear_all}
use Rattle.judge_rules.specs.Rows.{row_of, rows_of}
use Rattle.judge_rules.specs.Judged.{accepted, judged_by}
use Rattle.judge_rules.proofs.RowLaws.{row-grown, row-accepted, rows_more, rows_new, rows-old, turn-grown}
use Rattle.judge_rules.specs.QuestionLaws.{answers-grown}
use Rattle.judge_rules.proofs.JudgedLaws.{told}

---------------------------------------------------------------- one record
-- THE CHECKED SORT OF A RECORD is one that a Var may carry, if its arguments' sorts are.
pub checked-carried : (R : ℕ → List Rank) → ((n : ℕ) → Sound (R n)) → (z : Site) (s : Sort) → carried_all z.args ≡ true → checked R z ≡ sort s → carried s ≡ true
unfolding touches proper_map
checked-carried R S z s c e =
    (checked-kept R S empty z s refl (parameters-clear empty z.own (λ n i. refl)) c (parameters-clear_all empty z.args (λ n i. refl)) e).carries

---------------------------------------------------------------- rows
-- A code is a refusal, or the number of a sort that a Var may carry.
abbrev Carries : List Sort → ℕ → Type 0
Carries st code = code < 65536 → (code < length st) × (carried (get_or st code leaf) ≡ true)

carries-stays : (st st' : List Sort) (code : ℕ) → Starts st st' → Carries st code → Carries st' code
carries-stays st st' code g h small =
    let k = h small in
    (omega (arith, k.0, starts-count st st' g), rw (starts-at st st' g code k.0) k.1)

-- The sorts of the terms that a record names, by their checked rows.
sorts-carried : (st : List Sort) (rows : List ℕ) (n : ℕ) → ((i : ℕ) → i < n → Carries st (get_or rows (2 * i + 1) 0))
    → (is : List ℕ) → all_below n is ≡ true → (ss : Sorts) → sorts_given (λ i. row_sort st rows 1 i) is ≡ some ss → carried_all ss ≡ true
unfolding sorts_given row_sort all_below carried_all
sorts-carried st rows n h [] b ss e = rw (← some_inj e) refl
sorts-carried st rows n h (i ∷ is) b ss e =
    let code = get_or rows (2 * i + 1) 0 in
    by_test (ltb code 65536)
    (λ q.
    by_option (sorts_given (λ i. row_sort st rows 1 i) is)
    (λ f. none-some (rw (q, f) at e))
    (λ rs f.
    let z = some_inj (rw (q, f) at e) in
    rw (← z)
    (and-true (carried (get_or st code leaf)) (carried_all rs)
    (h i (ltb-true i n (and_left (ltb i n) (all_below n is) b)) (ltb-true code 65536 q)).1
    (sorts-carried st rows n h is (and_right (ltb i n) (all_below n is) b) rs f))))
    (λ q. none-some (rw q at e))

module _ (R : ℕ → List Rank) (S : (n : ℕ) → Sound (R n)) (l : Lengths) where
  -- A checked row, over rows below it that carry.
  row_carried : (rs : List TermFields) (r : TermFields) (rows : List ℕ) (now : List Sort)
      → ((i : ℕ) → i < length rs → Carries now (get_or rows (2 * i + 1) 0)) → referring (r ∷ rs) ≡ true
      → Carries (row_of (checked R) 1 l rs r rows now).store (row_of (checked R) 1 l rs r rows now).code
  unfolding verdict_at referring
  row_carried rs r rows now h refs small =
      let (s, e, a) = row-accepted (checked R) 1 l rs r rows now small in
      let (ts, js, p, q, v) = parts (checked R) r.kind r.number r.own r.bindings (constants_at rs r.list) (constants_at rs r.second) (sorts_given (λ i. row_sort now rows 1 i) r.list) (sorts_given (λ i. row_sort now rows 1 i) r.second) s e in
      let below = and_left (all_below (length rs) r.list) (all_below (length rs) r.second && referring rs) refs in
      (a.below, rw a.there (checked-carried R S _ s (sorts-carried now rows (length rs) h r.list below ts p) v))

  module _ (st : List Sort) where
    -- The checked row of one more term,
    new-carried : (rs : List TermFields) (r : TermFields) → ((i : ℕ) → i < length rs → Carries (rows_of R l st rs).store (get_or (rows_of R l st rs).rows (2 * i + 1) 0)) → referring (r ∷ rs) ≡ true
        → Carries (rows_of R l st (r ∷ rs)).store (get_or (rows_of R l st (r ∷ rs)).rows (2 * length rs + 1) 0)
    new-carried rs r h refs =
        let first = row_of inferred 0 l rs r (rows_of R l st rs).rows (rows_of R l st rs).store in
        let g = row-grown inferred 0 l rs r (rows_of R l st rs).rows (rows_of R l st rs).store in
        rw (rows_new R l st rs r 1, rows_more R l st rs r)
        (row_carried rs r (rows_of R l st rs).rows first.store
        (λ i o. carries-stays (rows_of R l st rs).store first.store (get_or (rows_of R l st rs).rows (2 * i + 1) 0) g.starts (h i o)) refs)

    -- and so of all.
    rows-carried : (rs : List TermFields) → referring rs ≡ true → (i : ℕ) → i < length rs → Carries (rows_of R l st rs).store (get_or (rows_of R l st rs).rows (2 * i + 1) 0)
    unfolding referring
    rows-carried [] refs i low = absurd (not-suc-le-zero low)
    rows-carried (r ∷ rs) refs i low =
        let earlier = (three-right (all_below (length rs) r.list) (all_below (length rs) r.second) (referring rs) refs).2 in
        by_test (eqb i (length rs))
        (λ q. rw (eqb-true i (length rs) q) (new-carried rs r (rows-carried rs earlier) refs))
        (λ q.
        let o : i < length rs = below_other i (length rs) low (eqb-false i (length rs) q) in
        rw (rows-old R l st rs r (2 * i + 1) (omega arith))
        (carries-stays (rows_of R l st rs).store (rows_of R l st (r ∷ rs)).store (get_or (rows_of R l st rs).rows (2 * i + 1) 0) (turn-grown R l st rs r).starts (rows-carried rs earlier i o)))

---------------------------------------------------------------- an accepted sheet
-- EVERY CHECKED ROW of an accepted sheet that is no refusal names a sort that a Var may carry.
pub judged-carried : (R : ℕ → List Rank) → ((n : ℕ) → Sound (R n)) → (s : List ℕ) (l : Lengths) (h : Sheet) (st : List Sort) (rows answers : List ℕ)
    → judged_by R s l ≡ accepted h st rows answers → (t : ℕ) → t < length h.terms → get_or rows (2 * t + 1) 0 < 65536
    → carried (get_or st (get_or rows (2 * t + 1) 0) leaf) ≡ true
judged-carried R S s l h st rows answers e t low small =
    let k = told R s l h st rows answers e in
    let ruled = (rows_of R l h.store h.terms).store in
    let g = subst (λ (z : List Sort). Starts ruled z) k.store_is (answers-grown l ruled h.questions).starts in
    let c = rows-carried R S l h.store h.terms k.sheet.terms-are.below t low in
    let d = carries-stays ruled st (get_or (rows_of R l h.store h.terms).rows (2 * t + 1) 0) g c in
    (subst (λ (z : List ℕ). Carries st (get_or z (2 * t + 1) 0)) k.rows_are d small).1
