-- A row that is not 20 stands over rows that give sorts: a record gets a verdict of its own only where each term that it names has a
-- sort in the same column, and else 20. So where it is not 22 or 23 either, no limit is met at its term or below it.
use Prim.Native.Nat.{ℕ, zero, suc, ◌+◌, ◌*◌, ◌<◌}
use Rattle.std.specs.Prelude.{◌≡◌, refl, true, false, eqb, ltb}
use Rattle.std.proofs.Common.{subst, arith, not-suc-le-zero, eqb-true, ltb-true}
use Rattle.std.proofs.lemmas.Bool.{false≢true, eqb-false}
use mathlib.Core.List.{List, [], ◌∷◌}
use Rattle.std.proofs.Math.Option.{Option, none, some}
use Rattle.std.proofs.Math.ListN.{length, get_or}
use Rattle.record.specs.Sort.{Sort, Sorts, ◌then◌}
use Rattle.record.specs.Names.{member}
use Rattle.record.specs.Cases.{three-right, or_cases, by_test, by_option, none-some, some_inj, below_other}
use Rattle.reader.specs.Reader.{all_below}
use Rattle.sheet.specs.Sheet.{Lengths, Sheet, TermFields}
use Rattle.sheet.specs.SheetLaws.{referring}
use Rattle.row_rules.specs.declared.Cause.TheVariants.{Below}
use Rattle.row_rules.specs.Verdict.{Verdict, number_of}
use Rattle.row_rules.specs.Term.{Site, consed, sorts_given, verdict_at}
use Rattle.row_rules.specs.Outcome.{outcome, row_sort}
use Rattle.row_rules.specs.Meaning.{limited, free}
use Rattle.row_rules.specs.FreeLaws.{record_at, names_term, AtOrBelow, itself, below, named-below, free-exactly}
use Rattle.row_rules.proofs.OutcomeLaws.{not-limited}
use Rattle.infer_rules.specs.Inferred.{inferred}
use Rattle.check_rules.specs.Rank.{Rank}
use Rattle.check_rules.specs.Checked.{checked}
use Rattle.judge_rules.specs.Rows.{row_of, rows_of}
use Rattle.judge_rules.specs.Judged.{accepted, judged_by}
use Rattle.judge_rules.proofs.RowLaws.{rows_new, rows-old}
use Rattle.judge_rules.proofs.JudgedLaws.{told}

---------------------------------------------------------------- one row
-- Where a row has a sort, it is no refusal; and where all terms of a list have one, each has.
pub row_low : (st : List Sort) (rows : List ℕ) (column i : ℕ) (s : Sort) → row_sort st rows column i ≡ some s → get_or rows (2 * i + column) 0 < 65536
unfolding row_sort
row_low st rows column i s e =
    by_test (ltb (get_or rows (2 * i + column) 0) 65536) (λ q. ltb-true (get_or rows (2 * i + column) 0) 65536 q) (λ q. none-some (rw q at e))

pub consed-some : (o : Option Sort) (p : Option Sorts) (ss : Sorts) → consed o p ≡ some ss → (s : Sort) × (ts : Sorts) × (o ≡ some s) × (p ≡ some ts) × (s then ts ≡ ss)
consed-some none p ss e = none-some e
consed-some (some s) none ss e = none-some e
consed-some (some s) (some ts) ss e = (s, ts, refl, refl, some_inj e)

sorts-member : (row : ℕ → Option Sort) (is : List ℕ) (ss : Sorts) → sorts_given row is ≡ some ss → (j : ℕ) → member j is ≡ true → (s : Sort) × (row j ≡ some s)
unfolding sorts_given member
sorts-member row [] ss e j m = absurd (false≢true m)
sorts-member row (i ∷ is) ss e j m =
    let (s, ts, p, q, z) = consed-some (row i) (sorts_given row is) ss e in
    by_test (eqb i j)
    (λ k. (s, subst (λ (x : ℕ). row x ≡ some s) (eqb-true i j k) p))
    (λ k. sorts-member row is ts q j (rw k at m))

-- A record whose row is not 20 names terms of accepted rows.
module _ (J : Site → Verdict) (column : ℕ) (l : Lengths) (rs : List TermFields) (r : TermFields) (rows : List ℕ) (now : List Sort) where
  named-low : ((row_of J column l rs r rows now).code ≡ number_of Below * 65536 → ⊥) → (j : ℕ) → names_term r j ≡ true → get_or rows (2 * j + column) 0 < 65536
  unfolding row_of outcome verdict_at names_term
  named-low own j m =
      let row : ℕ → Option Sort = λ i. row_sort now rows column i in
      by_option (sorts_given row r.list)
      (λ p. absurd (own (rw p refl)))
      (λ ts p. by_option (sorts_given row r.second)
      (λ q. absurd (own (rw (p, q) refl)))
      (λ js q. or_cases (member j r.list) (member j r.second) m
      (λ o. let (x, e) = sorts-member row r.list ts p j o in row_low now rows column j x e)
      (λ o. let (x, e) = sorts-member row r.second js q j o in row_low now rows column j x e)))

---------------------------------------------------------------- all rows
module _ (R : ℕ → List Rank) (l : Lengths) (st : List Sort) where
  new-low : (rs : List TermFields) (r : TermFields) (column : ℕ) → column < 2
      → (get_or (rows_of R l st (r ∷ rs)).rows (2 * length rs + column) 0 ≡ number_of Below * 65536 → ⊥)
      → (j : ℕ) → names_term r j ≡ true → get_or (rows_of R l st rs).rows (2 * j + column) 0 < 65536
  new-low rs r zero col own = named-low inferred 0 l rs r (rows_of R l st rs).rows (rows_of R l st rs).store (rw (rows_new R l st rs r 0) at own)
  new-low rs r (suc zero) col own =
      named-low (checked R) 1 l rs r (rows_of R l st rs).rows (row_of inferred 0 l rs r (rows_of R l st rs).rows (rows_of R l st rs).store).store (rw (rows_new R l st rs r 1) at own)
  new-low rs r (suc (suc column)) col own = absurd (omega arith)

  one-low : (rs : List TermFields) → referring rs ≡ true → (column n j : ℕ) → column < 2 → n < length rs → names_term (record_at rs n) j ≡ true
      → (get_or (rows_of R l st rs).rows (2 * n + column) 0 ≡ number_of Below * 65536 → ⊥) → get_or (rows_of R l st rs).rows (2 * j + column) 0 < 65536
  unfolding record_at referring
  one-low [] refs column n j col low m own = absurd (not-suc-le-zero low)
  one-low (r ∷ rs) refs column n j col low m own =
      let earlier = (three-right (all_below (length rs) r.list) (all_below (length rs) r.second) (referring rs) refs).2 in
      let early = named-below (r ∷ rs) refs n low j m in
      rw (rows-old R l st rs r (2 * j + column) (omega arith))
      (by_test (eqb n (length rs))
      (λ q. new-low rs r column col (subst (λ (k : ℕ). get_or (rows_of R l st (r ∷ rs)).rows (2 * k + column) 0 ≡ number_of Below * 65536 → ⊥) (eqb-true n (length rs) q) own) j (rw q at m))
      (λ q.
      let o : n < length rs = below_other n (length rs) low (eqb-false n (length rs) q) in
      one-low rs earlier column n j col o (rw q at m) (rw (rows-old R l st rs r (2 * n + column) (omega arith)) at own)))

  -- WHERE A ROW GIVES A SORT, so does every row at its term or below it, in the same column.
  pub given_below : (rs : List TermFields) → referring rs ≡ true → (column n u : ℕ) → column < 2 → n < length rs → AtOrBelow rs n u
      → get_or (rows_of R l st rs).rows (2 * n + column) 0 < 65536 → get_or (rows_of R l st rs).rows (2 * u + column) 0 < 65536
  given_below rs refs column n u col low itself h = h
  given_below rs refs column n u col low (below j m b) h =
      let early = named-below rs refs n low j m in
      given_below rs refs column j u col (omega arith) b (one-low rs refs column n j col low m (λ e. omega arith))

  own_below : (rs : List TermFields) → referring rs ≡ true → (column n u : ℕ) → column < 2 → n < length rs → AtOrBelow rs n u
      → (get_or (rows_of R l st rs).rows (2 * n + column) 0 ≡ number_of Below * 65536 → ⊥) → limited (get_or (rows_of R l st rs).rows (2 * n + column) 0) ≡ false
      → limited (get_or (rows_of R l st rs).rows (2 * u + column) 0) ≡ false
  own_below rs refs column n u col low itself own f = f
  own_below rs refs column n u col low (below j m b) own f =
      let early = named-below rs refs n low j m in
      not-limited (get_or (rows_of R l st rs).rows (2 * u + column) 0)
      (given_below rs refs column j u col (omega arith) b (one-low rs refs column n j col low m own))

  -- A ROW THAT IS NOT 20, 22 OR 23 HAS MET NO LIMIT at its term or below it: it has a verdict of its own,
  pub own-free : (rs : List TermFields) → referring rs ≡ true → (column n : ℕ) → column < 2 → n < length rs
      → (get_or (rows_of R l st rs).rows (2 * n + column) 0 ≡ number_of Below * 65536 → ⊥) → limited (get_or (rows_of R l st rs).rows (2 * n + column) 0) ≡ false
      → free (rows_of R l st rs).rows column rs n ≡ true
  own-free rs refs column n col low own f =
      (free-exactly (rows_of R l st rs).rows column rs refs n low).1 (λ u b. own_below rs refs column n u col low b own f)

  -- AND SO HAS A ROW THAT GIVES A SORT.
  pub given-free : (rs : List TermFields) → referring rs ≡ true → (column n : ℕ) → column < 2 → n < length rs
      → get_or (rows_of R l st rs).rows (2 * n + column) 0 < 65536 → free (rows_of R l st rs).rows column rs n ≡ true
  given-free rs refs column n col low h =
      own-free rs refs column n col low (λ e. omega arith) (not-limited (get_or (rows_of R l st rs).rows (2 * n + column) 0) h)

---------------------------------------------------------------- an accepted sheet
-- The same of the rows of an accepted sheet.
module _ (R : ℕ → List Rank) (s : List ℕ) (l : Lengths) (h : Sheet) (st : List Sort) (rows answers : List ℕ)
    (e : judged_by R s l ≡ accepted h st rows answers) (column t : ℕ) (col : column < 2) (low : t < length h.terms) where
  pub judged-own : (get_or rows (2 * t + column) 0 ≡ number_of Below * 65536 → ⊥) → limited (get_or rows (2 * t + column) 0) ≡ false → free rows column h.terms t ≡ true
  judged-own =
      let k = told R s l h st rows answers e in
      subst (λ (z : List ℕ). (get_or z (2 * t + column) 0 ≡ number_of Below * 65536 → ⊥) → limited (get_or z (2 * t + column) 0) ≡ false → free z column h.terms t ≡ true) k.rows_are
      (own-free R l h.store h.terms k.sheet.terms-are.below column t col low)

  pub judged-given : get_or rows (2 * t + column) 0 < 65536 → free rows column h.terms t ≡ true
  judged-given g = judged-own (λ e. omega arith) (not-limited (get_or rows (2 * t + column) 0) g)
