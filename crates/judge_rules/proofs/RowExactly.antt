-- DEMAND 2 ON SHEETS: the checked row of a term gives a sort exactly when the term's tree has it by the rules (Rules of the crate
-- check_rules), where no limit is met; from the row to the rules without that premise, since a row that gives a sort has met none. The same of
-- the inferred row with `infer`, and of the causes of refusal in both columns: `term-cause` of the crate check_rules goes on to the record.
use Rattle.std.specs.Prelude.{ℕ, ◌+◌, ◌*◌, ◌≤◌, ◌<◌, ◌≡◌, true, List, ◌↔◌, length, get_or}
use Rattle.std.proofs.Math.Path.{refl, ap}
use Rattle.std.proofs.Common.{sym, subst, ◌∙◌, arith}
use Rattle.std.proofs.Math.Bool.{false}
use Rattle.record.specs.Sort.{Sort}
use Rattle.record.specs.Record.{leaf}
use Rattle.record.specs.Cases.{not-true}
use Rattle.sheet.specs.Sheet.{Lengths, Sheet}
use Rattle.row_rules.specs.declared.Cause.{Cause}
use Rattle.row_rules.specs.declared.Cause.TheVariants.{Below, Panics}
use Rattle.row_rules.specs.Verdict.{Verdict, sort, refused, number_of}
use Rattle.row_rules.specs.Term.{term_at, verdict_of}
use Rattle.row_rules.specs.Meaning.{Means, limited, free}
use Rattle.row_rules.specs.Outcomes.{no_limit}
use Rattle.row_rules.proofs.OutcomeLaws.{refusal-large, means-sort, room-few}
use Rattle.infer_rules.specs.Inferred.{infer}
use Rattle.check_rules.specs.Rank.{Rank}
use Rattle.check_rules.specs.Ranks.{smt_lib}
use Rattle.check_rules.specs.Checked.{check}
use Rattle.check_rules.specs.Rules.{HasSort}
use Rattle.check_rules.proofs.RankSound.{Sound, smt_lib-sound}
use Rattle.check_rules.proofs.RuleTheorems.{checked-exactly}
use Rattle.judge_rules.specs.Given.{checked_row, Gives}
use Rattle.judge_rules.specs.Judged.{accepted, judged_by, judged}
use Rattle.judge_rules.proofs.RowLaws.{judging}
use Rattle.judge_rules.proofs.JudgedLaws.{judged-row, judged-store}
use Rattle.judge_rules.proofs.GivenLaws.{judged-own, judged-given}
use Rattle.judge_rules.proofs.CauseTheorems.{one-cause}

-- In either column (0 inferred, 1 checked), over any ranks.
module _ (R : ℕ → List Rank) (s : List ℕ) (l : Lengths) (h : Sheet) (st : List Sort) (rows answers : List ℕ)
    (e : judged_by R s l ≡ accepted h st rows answers) (column : ℕ) (col : column < 2) (t : ℕ) (low : t < length h.terms) (a : Sort) where
  -- The sort that a row gives is that of the tree: no limit is met at the term or below it.
  pub given-over : (get_or rows (2 * t + column) 0 < 65536) × (get_or st (get_or rows (2 * t + column) 0) leaf ≡ a) → verdict_of (judging R column) (term_at h.terms t) ≡ sort a
  given-over g =
      means-sort st (get_or rows (2 * t + column) 0) (verdict_of (judging R column) (term_at h.terms t))
      (judged-row R s l h st rows answers e column t col low (judged-given R s l h st rows answers e column t col low g.0)) g.0
      ∙ ap sort g.1

  -- Where no limit is met, the row gives the tree's sort, and is a number of the store.
  pub over-given : free rows column h.terms t ≡ true → verdict_of (judging R column) (term_at h.terms t) ≡ sort a
      → (get_or rows (2 * t + column) 0 < length st) × ((get_or rows (2 * t + column) 0 < 65536) × (get_or st (get_or rows (2 * t + column) 0) leaf ≡ a))
  over-given f c =
      let m = subst (λ (v : Verdict). Means st (get_or rows (2 * t + column) 0) v) c (judged-row R s l h st rows answers e column t col low f) in
      let few = room-few l.records l.places st (judged-store R s l h st rows answers e).3 in
      (m.0, (omega (arith, m.0), m.1))

module _ (R : ℕ → List Rank) (s : List ℕ) (l : Lengths) (h : Sheet) (st : List Sort) (rows answers : List ℕ)
    (e : judged_by R s l ≡ accepted h st rows answers) (t : ℕ) (low : t < length h.terms) (a : Sort) where
  -- So of the checked row and `check`,
  pub given-checked : Gives st rows t a → check R (term_at h.terms t) ≡ sort a
  unfolding check
  given-checked = given-over R s l h st rows answers e 1 (omega arith) t low a

  pub checked-given : free rows 1 h.terms t ≡ true → check R (term_at h.terms t) ≡ sort a → (checked_row rows t < length st) × Gives st rows t a
  unfolding check
  checked-given = over-given R s l h st rows answers e 1 (omega arith) t low a

  -- and by the rules, over any sound ranks.
  pub row-has-over : ((n : ℕ) → Sound (R n)) → Gives st rows t a → HasSort R (term_at h.terms t) a
  row-has-over S g = (checked-exactly R S (term_at h.terms t) a).0 (given-checked g)

  pub row-exactly-over : ((n : ℕ) → Sound (R n)) → free rows 1 h.terms t ≡ true → Gives st rows t a ↔ HasSort R (term_at h.terms t) a
  row-exactly-over S f = (row-has-over S, λ r. (checked-given f ((checked-exactly R S (term_at h.terms t) a).1 r)).1)

module _ (s : List ℕ) (l : Lengths) (h : Sheet) (st : List Sort) (rows answers : List ℕ)
    (e : judged s l ≡ accepted h st rows answers) (t : ℕ) (low : t < length h.terms) (a : Sort) where
  -- A CHECKED ROW OF AN ACCEPTED SHEET THAT GIVES A SORT gives one that the rules give to the term's tree; no premise on limits.
  pub row_has : Gives st rows t a → HasSort smt_lib (term_at h.terms t) a
  unfolding judged
  row_has = row-has-over smt_lib s l h st rows answers e t low a smt_lib-sound

  -- DEMAND 2 ON SHEETS: where no limit is met at the term or below it, the row gives a sort EXACTLY WHEN the rules give it to the tree.
  pub row-exactly : free rows 1 h.terms t ≡ true → Gives st rows t a ↔ HasSort smt_lib (term_at h.terms t) a
  unfolding judged
  row-exactly = row-exactly-over smt_lib s l h st rows answers e t low a smt_lib-sound

  -- AN INFERRED ROW THAT GIVES A SORT gives the one that `infer` gives to the term's tree; and where no limit is met, exactly then.
  pub row-infers : (get_or rows (2 * t + 0) 0 < 65536) × (get_or st (get_or rows (2 * t + 0) 0) leaf ≡ a) → infer (term_at h.terms t) ≡ sort a
  unfolding judged infer
  row-infers = given-over smt_lib s l h st rows answers e 0 (omega arith) t low a

  pub row-infers-exactly : free rows 0 h.terms t ≡ true
      → (get_or rows (2 * t + 0) 0 < 65536) × (get_or st (get_or rows (2 * t + 0) 0) leaf ≡ a) ↔ infer (term_at h.terms t) ≡ sort a
  unfolding judged infer
  row-infers-exactly f = (row-infers, λ v. (over-given smt_lib s l h st rows answers e 0 (omega arith) t low a f v).1)

---------------------------------------------------------------- refusals
means-refused : (st : List Sort) (code : ℕ) (v : Verdict) (c : Cause) → length st ≤ 4096 → Means st code v → code ≡ number_of c * 65536 → v ≡ refused c
means-refused st code (sort s) c few m k = absurd (omega (arith, m.0, refusal-large c))
means-refused st code (refused d) c few m k = ap refused (one-cause d c (sym m ∙ k))

-- In either column (0 inferred, 1 checked), over any ranks.
module _ (R : ℕ → List Rank) (s : List ℕ) (l : Lengths) (h : Sheet) (st : List Sort) (rows answers : List ℕ)
    (e : judged_by R s l ≡ accepted h st rows answers) (column : ℕ) (col : column < 2) (t : ℕ) (low : t < length h.terms) (c : Cause) where
  pub refused-over-free : free rows column h.terms t ≡ true
      → get_or rows (2 * t + column) 0 ≡ number_of c * 65536 ↔ verdict_of (judging R column) (term_at h.terms t) ≡ refused c
  refused-over-free f =
      let v = verdict_of (judging R column) (term_at h.terms t) in
      let m = judged-row R s l h st rows answers e column t col low f in (
        means-refused st (get_or rows (2 * t + column) 0) v c (room-few l.records l.places st (judged-store R s l h st rows answers e).3) m,
        λ q. subst (λ (w : Verdict). Means st (get_or rows (2 * t + column) 0) w) q m,
      )

  pub refused_over : no_limit (refused c) ≡ true → (c ≡ Below → ⊥) → get_or rows (2 * t + column) 0 ≡ number_of c * 65536
      → verdict_of (judging R column) (term_at h.terms t) ≡ refused c
  unfolding no_limit
  refused_over p d k =
      let f : limited (get_or rows (2 * t + column) 0) ≡ false = rw k (not-true (limited (number_of c * 65536)) p) in
      (refused-over-free (judged-own R s l h st rows answers e column t col low (λ z. d (one-cause c Below (sym k ∙ z))) f)).0 k

module _ (s : List ℕ) (l : Lengths) (h : Sheet) (st : List Sort) (rows answers : List ℕ)
    (e : judged s l ≡ accepted h st rows answers) (t : ℕ) (low : t < length h.terms) where
  -- A CHECKED ROW OF AN ACCEPTED SHEET THAT IS REFUSED FOR A CAUSE other than 20, 22 and 23: so is the term's tree; no premise on limits.
  pub row-refused-for : (c : Cause) → no_limit (refused c) ≡ true → (c ≡ Below → ⊥) → checked_row rows t ≡ number_of c * 65536 → check smt_lib (term_at h.terms t) ≡ refused c
  unfolding judged check
  row-refused-for c = refused_over smt_lib s l h st rows answers e 1 (omega arith) t low c

  -- AND WHERE NO LIMIT IS MET at the term or below it, the row is refused for a cause EXACTLY WHEN the tree is.
  pub row-refused-exactly : (c : Cause) → free rows 1 h.terms t ≡ true → checked_row rows t ≡ number_of c * 65536 ↔ check smt_lib (term_at h.terms t) ≡ refused c
  unfolding judged check
  row-refused-exactly c = refused-over-free smt_lib s l h st rows answers e 1 (omega arith) t low c

  -- THE INFERRED ROW IS 21: so panics the Rust on the term's tree; and where no limit is met, exactly then.
  pub row-panics-for : get_or rows (2 * t + 0) 0 ≡ number_of Panics * 65536 → infer (term_at h.terms t) ≡ refused Panics
  unfolding judged infer no_limit
  row-panics-for = refused_over smt_lib s l h st rows answers e 0 (omega arith) t low Panics refl (λ z. let y = ap number_of z in omega arith)

  pub row-panics-exactly : free rows 0 h.terms t ≡ true → get_or rows (2 * t + 0) 0 ≡ number_of Panics * 65536 ↔ infer (term_at h.terms t) ≡ refused Panics
  unfolding judged infer
  row-panics-exactly = refused-over-free smt_lib s l h st rows answers e 0 (omega arith) t low Panics
