-- The law of the rows with 23 alone left out: where no 23 is met at a term or below it, its row means the verdict of its tree with 22 at every
-- part, since 22 goes by the answer and not by the store.
use Rattle.std.specs.Prelude.{ℕ, ◌+◌, ◌*◌, ◌<◌, ◌≡◌, refl, true, false, List, length, get_or, eqb}
use Rattle.std.proofs.Common.{ap, subst, true≢false}
use Rattle.record.specs.Sort.{Sort}
use Rattle.record.specs.Store.{intern, room}
use Rattle.record.specs.Cases.{or_right, by_test}
use Rattle.sheet.specs.Sheet.{Lengths, Sheet, TermFields}
use Rattle.sheet.specs.SheetLaws.{referring}
use Rattle.row_rules.specs.declared.Cause.TheVariants.{Limit}
use Rattle.row_rules.specs.Verdict.{Verdict, sort, refused, need, number_of}
use Rattle.row_rules.specs.Term.{Site, term_at, verdict_of}
use Rattle.row_rules.specs.Outcome.{within, in_limits, outcome}
use Rattle.row_rules.specs.Meaning.{Means, limited, free, is_full, roomed}
use Rattle.row_rules.specs.FreeLaws.{without-exactly}
use Rattle.row_rules.proofs.OutcomeLaws.{interned-at, refused-sort, sort-inj}
use Rattle.check_rules.specs.Rank.{Rank}
use Rattle.judge_rules.specs.Rows.{rows_of}
use Rattle.judge_rules.proofs.RowLaws.{judging, MeansBy, row-is-by}
use Rattle.judge_rules.proofs.JudgedLaws.{judged-row-by}
use Rattle.judge_rules.specs.Judged.{accepted, judged_by}

-- A verdict with 22 where its answer passes a limit; and such a verdict on each record.
abbrev pub limits_kept : Verdict → Verdict
limits_kept v = need (in_limits v) Limit v

unfoldable pub bounded : (Site → Verdict) → Site → Verdict
unfolding within
bounded J z = limits_kept (J z)

---------------------------------------------------------------- sorts
-- A sort that is given with the limits is within them, and given without; and the other way.
pub limits-given : (v : Verdict) (s : Sort) → limits_kept v ≡ sort s → (v ≡ sort s) × (within s ≡ true)
limits-given (refused c) s e = refused-sort e
limits-given (sort r) s e =
    by_test (within r)
    (λ q. let z : r ≡ s = sort-inj (rw q at e) in (ap sort z, subst (λ (x : Sort). within x ≡ true) z q))
    (λ q. let z : refused Limit ≡ sort s = rw q at e in refused-sort z)

pub given-limits : (v : Verdict) (s : Sort) → v ≡ sort s → within s ≡ true → limits_kept v ≡ sort s
given-limits v s e w = rw (e, w) refl

---------------------------------------------------------------- rows
-- An outcome that is not 23 means its verdict with the limits.
outcome-bounded : (l : Lengths) (st : List Sort) (v : Verdict) → is_full (outcome l st v).code ≡ false
    → Means (outcome l st v).store (outcome l st v).code (limits_kept v)
unfolding outcome
outcome-bounded l st (refused c) f = refl
outcome-bounded l st (sort s) f =
    by_test (within s)
    (λ w. by_test (room l.records l.places (intern s st))
    (λ r. rw (w, r) (interned-at s st))
    (λ r. let z : true ≡ false = rw (w, r) at f in absurd (true≢false z)))
    (λ w. rw w refl)

pub with-limits : MeansBy (λ c. is_full c) (λ v. limits_kept v)
with-limits = record { below-stays = refl; means = λ l st v f. outcome-bounded l st v f }

-- WHERE NO 23 IS MET at a term or below it, its row in a column means the verdict of its tree with the limits.
pub row-is-bounded : (R : ℕ → List Rank) (l : Lengths) (st : List Sort) (rs : List TermFields) → room l.records l.places st ≡ true → referring rs ≡ true
    → (column n : ℕ) → column < 2 → n < length rs → roomed (rows_of R l st rs).rows column rs n ≡ true
    → Means (rows_of R l st rs).store (get_or (rows_of R l st rs).rows (2 * n + column) 0) (verdict_of (bounded (judging R column)) (term_at rs n))
unfolding bounded
row-is-bounded R l st = row-is-by R l st (λ c. is_full c) (λ v. limits_kept v) with-limits

-- Where no limit is met, no 23 is.
pub free-roomed : (rows : List ℕ) (column : ℕ) (terms : List TermFields) → referring terms ≡ true → (t : ℕ) → t < length terms
    → free rows column terms t ≡ true → roomed rows column terms t ≡ true
free-roomed rows column terms refs t low f =
    (without-exactly (λ c. is_full c) rows column terms refs t low).1
    (λ u b.
    let code = get_or rows (2 * u + column) 0 in
    or_right (eqb code (number_of Limit * 65536)) (is_full code) ((without-exactly (λ c. limited c) rows column terms refs t low).0 f u b))

---------------------------------------------------------------- an accepted sheet
module _ (R : ℕ → List Rank) (s : List ℕ) (l : Lengths) (h : Sheet) (st : List Sort) (rows answers : List ℕ)
    (e : judged_by R s l ≡ accepted h st rows answers) (column t : ℕ) (col : column < 2) (low : t < length h.terms) where
  -- The same of the rows of an accepted sheet, over the store that is left.
  pub judged-bounded : roomed rows column h.terms t ≡ true → Means st (get_or rows (2 * t + column) 0) (verdict_of (bounded (judging R column)) (term_at h.terms t))
  unfolding bounded
  judged-bounded = judged-row-by R s l h st rows answers e (λ c. is_full c) (λ v. limits_kept v) with-limits column t col low
