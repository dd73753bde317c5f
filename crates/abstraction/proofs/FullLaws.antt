-- What a row of an accepted sheet says of its term's tree with the limits of the answers: a row that is not 20 stands over rows that give sorts, so
-- unless it is 23 itself no 23 is met at its term or below it.
use Rattle.std.specs.Prelude.{ℕ, zero, suc, ◌+◌, ◌*◌, ◌<◌, ◌≤◌, ◌≡◌, true, false, eqb, ltb}
use Rattle.std.proofs.Common.{sym, ap, subst, ◌∙◌, inl, inr, arith, not-suc-le-zero, eqb-true, ne_eqb, ltb-true, ltb-false}
use mathlib.Core.List.{List, [], ◌∷◌}
use Rattle.std.proofs.Math.ListN.{length, get_or}
use Rattle.std.proofs.lemmas.Bool.{eqb-false}
use Rattle.record.specs.Names.{member}
use Rattle.record.specs.Sort.{Sort}
use Rattle.record.specs.Cases.{three-right, or_cases, by_test, below_other}
use Rattle.reader.specs.Reader.{all_below}
use Rattle.sheet.specs.Sheet.{Lengths, Sheet, TermFields}
use Rattle.sheet.specs.SheetLaws.{referring}
use Rattle.row_rules.specs.declared.Cause.{Cause}
use Rattle.row_rules.specs.declared.Cause.TheVariants.{Below, Full}
use Rattle.row_rules.specs.Verdict.{Verdict, sort, refused, number_of}
use Rattle.row_rules.specs.Term.{Site, term_at, verdict_of}
use Rattle.row_rules.specs.Meaning.{Means, without, is_full}
use Rattle.row_rules.specs.FreeLaws.{record_at, names_term, AtOrBelow, itself, below, named-below, without-exactly}
use Rattle.row_rules.proofs.OutcomeLaws.{refusal-large, means-sort, room-few}
use Rattle.infer_rules.specs.Inferred.{inferred}
use Rattle.check_rules.specs.Rank.{Rank}
use Rattle.check_rules.specs.Checked.{checked}
use Rattle.judge_rules.specs.Rows.{row_of, rows_of}
use Rattle.judge_rules.specs.Judged.{accepted, judged_by}
use Rattle.judge_rules.proofs.RowLaws.{judging, rows_new, rows-old}
use Rattle.judge_rules.proofs.JudgedLaws.{told, judged-store}
use Rattle.judge_rules.proofs.GivenLaws.{given_below}
use Rattle.judge_rules.proofs.BoundedLaws.{bounded, judged-bounded}
use Rattle.judge_rules.proofs.CauseTheorems.{one-cause, row_below, row-missing, inferred-never, checked-never}
use Rattle.abstraction.specs.SheetTest.{RowSays}

---------------------------------------------------------------- one row
-- A record whose row is not 20 names terms of rows that give sorts.
named-given : (J : Site → Verdict) → ((z : Site) → J z ≡ refused Below → ⊥) → (column : ℕ) (l : Lengths) (rs : List TermFields) (r : TermFields) (rows : List ℕ) (now : List Sort)
    → ((row_of J column l rs r rows now).code ≡ number_of Below * 65536 → ⊥) → (j : ℕ) → names_term r j ≡ true → get_or rows (2 * j + column) 0 < 65536
unfolding names_term
named-given J never column l rs r rows now own j m =
    let code = get_or rows (2 * j + column) 0 in
    by_test (ltb code 65536)
    (λ q. ltb-true code 65536 q)
    (λ q.
    let missing = (row-missing now rows column j).1 (ltb-false code 65536 q) in
    absurd (own ((row_below J never column l rs r rows now).1
    (or_cases (member j r.list) (member j r.second) m (λ x. inl (j, x, missing)) (λ x. inr (j, x, missing))))))

---------------------------------------------------------------- all rows
module _ (R : ℕ → List Rank) (l : Lengths) (st : List Sort) where
  new-given : (rs : List TermFields) (r : TermFields) (column : ℕ) → column < 2
      → (get_or (rows_of R l st (r ∷ rs)).rows (2 * length rs + column) 0 ≡ number_of Below * 65536 → ⊥)
      → (j : ℕ) → names_term r j ≡ true → get_or (rows_of R l st rs).rows (2 * j + column) 0 < 65536
  new-given rs r zero col own = named-given inferred inferred-never 0 l rs r (rows_of R l st rs).rows (rows_of R l st rs).store (rw (rows_new R l st rs r 0) at own)
  new-given rs r (suc zero) col own =
      named-given (checked R) (checked-never R) 1 l rs r (rows_of R l st rs).rows (row_of inferred 0 l rs r (rows_of R l st rs).rows (rows_of R l st rs).store).store (rw (rows_new R l st rs r 1) at own)
  new-given rs r (suc (suc column)) col own = absurd (omega arith)

  one-given : (rs : List TermFields) → referring rs ≡ true → (column n j : ℕ) → column < 2 → n < length rs → names_term (record_at rs n) j ≡ true
      → (get_or (rows_of R l st rs).rows (2 * n + column) 0 ≡ number_of Below * 65536 → ⊥) → get_or (rows_of R l st rs).rows (2 * j + column) 0 < 65536
  unfolding record_at referring
  one-given [] refs column n j col low m own = absurd (not-suc-le-zero low)
  one-given (r ∷ rs) refs column n j col low m own =
      let earlier = (three-right (all_below (length rs) r.list) (all_below (length rs) r.second) (referring rs) refs).2 in
      let early = named-below (r ∷ rs) refs n low j m in
      rw (rows-old R l st rs r (2 * j + column) (omega arith))
      (by_test (eqb n (length rs))
      (λ q. new-given rs r column col (subst (λ (k : ℕ). get_or (rows_of R l st (r ∷ rs)).rows (2 * k + column) 0 ≡ number_of Below * 65536 → ⊥) (eqb-true n (length rs) q) own) j (rw q at m))
      (λ q.
      let o : n < length rs = below_other n (length rs) low (eqb-false n (length rs) q) in
      one-given rs earlier column n j col o (rw q at m) (rw (rows-old R l st rs r (2 * n + column) (omega arith)) at own)))

  given-full : (code : ℕ) → code < 65536 → is_full code ≡ false
  given-full code h = ne_eqb code (number_of Full * 65536) (λ e. absurd (omega arith))

  own-full : (rs : List TermFields) → referring rs ≡ true → (column n u : ℕ) → column < 2 → n < length rs → AtOrBelow rs n u
      → (get_or (rows_of R l st rs).rows (2 * n + column) 0 ≡ number_of Below * 65536 → ⊥) → is_full (get_or (rows_of R l st rs).rows (2 * n + column) 0) ≡ false
      → is_full (get_or (rows_of R l st rs).rows (2 * u + column) 0) ≡ false
  own-full rs refs column n u col low itself own f = f
  own-full rs refs column n u col low (below j m b) own f =
      let early = named-below rs refs n low j m in
      given-full (get_or (rows_of R l st rs).rows (2 * u + column) 0)
      (given_below R l st rs refs column j u col (omega arith) b (one-given rs refs column n j col low m own))

---------------------------------------------------------------- an accepted sheet
means-cause : (st : List Sort) (code : ℕ) (v : Verdict) (c : Cause) → length st ≤ 4096 → Means st code v → code ≡ number_of c * 65536 → v ≡ refused c
means-cause st code (sort s) c few m k = absurd (omega (arith, m.0, refusal-large c))
means-cause st code (refused d) c few m k = ap refused (one-cause d c (sym m ∙ k))

module _ (R : ℕ → List Rank) (s : List ℕ) (l : Lengths) (h : Sheet) (st : List Sort) (rows answers : List ℕ)
    (e : judged_by R s l ≡ accepted h st rows answers) (column t : ℕ) (col : column < 2) (low : t < length h.terms) where
  -- A row that is not 20 or 23 has met no 23 at its term or below it.
  judged-full : (get_or rows (2 * t + column) 0 ≡ number_of Below * 65536 → ⊥) → is_full (get_or rows (2 * t + column) 0) ≡ false → without (λ c. is_full c) rows column h.terms t ≡ true
  judged-full =
      let k = told R s l h st rows answers e in
      let refs = k.sheet.terms-are.below in
      subst (λ (z : List ℕ). (get_or z (2 * t + column) 0 ≡ number_of Below * 65536 → ⊥) → is_full (get_or z (2 * t + column) 0) ≡ false → without (λ c. is_full c) z column h.terms t ≡ true) k.rows_are
      (λ own f. (without-exactly (λ c. is_full c) (rows_of R l h.store h.terms).rows column h.terms refs t low).1
      (λ u b. own-full R l h.store h.terms refs column t u col low b own f))

  -- WHAT A ROW SAYS IS THE VERDICT OF ITS TREE WITH THE LIMITS.
  pub judged-says : (v : Verdict) → RowSays column h st rows t v → verdict_of (bounded (judging R column)) (term_at h.terms t) ≡ v
  judged-says (sort a) y =
      let code = get_or rows (2 * t + column) 0 in
      let f = judged-full (λ z. omega (arith, y.0)) (given-full R l st code y.0) in
      means-sort st code (verdict_of (bounded (judging R column)) (term_at h.terms t)) (judged-bounded R s l h st rows answers e column t col low f) y.0 ∙ ap sort y.1
  judged-says (refused c) y =
      let (k, x, z) = y in
      let code = get_or rows (2 * t + column) 0 in
      let f : without (λ c. is_full c) rows column h.terms t ≡ true =
      by_test (eqb (number_of c) 20)
      (λ q. let n = eqb-true (number_of c) 20 q in z (one-cause c Below (omega arith)))
      (λ q. let n = eqb-false (number_of c) 20 q in
      judged-full (λ w. n (let r : number_of c ≡ 20 = omega arith in r)) (ne_eqb code (number_of Full * 65536) (λ w. x (one-cause c Full (sym k ∙ w))))) in
      means-cause st code (verdict_of (bounded (judging R column)) (term_at h.terms t)) c (room-few l.records l.places st (judged-store R s l h st rows answers e).3)
      (judged-bounded R s l h st rows answers e column t col low f) k
