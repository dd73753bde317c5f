-- THE LAW ON SHEETS: the row of an abstraction means the verdict of the whole term, which stands on no sheet.
use Rattle.std.specs.Prelude.{ℕ, ◌+◌, ◌*◌, ◌<◌, ◌≡◌, true, List, ◌↔◌, length, get_or}
use Rattle.std.proofs.Common.{sym, subst, ◌∙◌, arith}
use Rattle.record.specs.Sort.{Sort}
use Rattle.record.specs.Record.{leaf}
use Rattle.sheet.specs.Sheet.{Lengths, Sheet}
use Rattle.row_rules.specs.declared.Cause.{Cause}
use Rattle.row_rules.specs.declared.Cause.TheVariants.{Below}
use Rattle.row_rules.specs.Verdict.{Verdict, sort, refused, number_of}
use Rattle.row_rules.specs.Term.{Term, term_at, verdict_of}
use Rattle.row_rules.specs.Meaning.{Means, free}
use Rattle.row_rules.specs.Outcomes.{no_limit}
use Rattle.infer_rules.specs.Inferred.{inferred, infer}
use Rattle.check_rules.specs.Rank.{Rank}
use Rattle.check_rules.specs.Ranks.{smt_lib}
use Rattle.check_rules.proofs.RankSound.{smt_lib-sound}
use Rattle.check_rules.specs.Checked.{checked, check}
use Rattle.judge_rules.specs.Judged.{accepted, judged_by, judged}
use Rattle.judge_rules.proofs.RowLaws.{judging}
use Rattle.judge_rules.proofs.JudgedLaws.{judged-row}
use Rattle.judge_rules.specs.Given.{checked_row, Gives}
use Rattle.judge_rules.proofs.RowExactly.{given-over, over-given, refused_over, refused-over-free}
use Rattle.abstraction.specs.Abstraction.{Abstracts}
use Rattle.abstraction.proofs.AbstractionTheorems.{Abstractable, inferred-able, checked-able, abstraction}

-- An accepted sheet that holds, as its term t, an abstraction of the whole term w, in a column (0 inferred, 1 checked), over any ranks.
module _ (R : ℕ → List Rank) (s : List ℕ) (l : Lengths) (h : Sheet) (st : List Sort) (rows answers : List ℕ)
    (e : judged_by R s l ≡ accepted h st rows answers) (column : ℕ) (col : column < 2) (C : Abstractable (judging R column) column)
    (w : Term) (t : ℕ) (low : t < length h.terms) (a : Abstracts (judging R column) column w (term_at h.terms t)) where
  -- ITS ROW MEANS THE VERDICT OF THE WHOLE TERM, where no limit is met at the term or below it on this sheet.
  pub whole-means : free rows column h.terms t ≡ true → Means st (get_or rows (2 * t + column) 0) (verdict_of (judging R column) w)
  whole-means f =
      subst (λ (v : Verdict). Means st (get_or rows (2 * t + column) 0) v) (abstraction (judging R column) column C a) (judged-row R s l h st rows answers e column t col low f)

  -- THE SORT THAT IT GIVES is that of the whole term, whatever limits other terms meet; and where none is met at the term or below it, it gives
  -- the sort exactly when the whole term has it.
  pub whole-given : (r : Sort) → (get_or rows (2 * t + column) 0 < 65536) × (get_or st (get_or rows (2 * t + column) 0) leaf ≡ r) → verdict_of (judging R column) w ≡ sort r
  whole-given r g = sym (abstraction (judging R column) column C a) ∙ given-over R s l h st rows answers e column col t low r g

  pub whole-given-exactly : (r : Sort) → free rows column h.terms t ≡ true
      → (get_or rows (2 * t + column) 0 < 65536) × (get_or st (get_or rows (2 * t + column) 0) leaf ≡ r) ↔ verdict_of (judging R column) w ≡ sort r
  whole-given-exactly r f = (whole-given r, λ v. (over-given R s l h st rows answers e column col t low r f (abstraction (judging R column) column C a ∙ v)).1)

  -- THE CAUSE OF ITS REFUSAL is that of the whole term: 21 and 24 to 28 whatever limits other terms meet; any cause, 20 too, exactly then where none
  -- is met at the term or below it.
  pub whole-refused : (c : Cause) → no_limit (refused c) ≡ true → (c ≡ Below → ⊥) → get_or rows (2 * t + column) 0 ≡ number_of c * 65536 → verdict_of (judging R column) w ≡ refused c
  whole-refused c p d k = sym (abstraction (judging R column) column C a) ∙ refused_over R s l h st rows answers e column col t low c p d k

  pub whole-refused-exactly : (c : Cause) → free rows column h.terms t ≡ true
      → get_or rows (2 * t + column) 0 ≡ number_of c * 65536 ↔ verdict_of (judging R column) w ≡ refused c
  whole-refused-exactly c f =
      let (go, back) = refused-over-free R s l h st rows answers e column col t low c f in
      (λ k. sym (abstraction (judging R column) column C a) ∙ go k, λ v. back (abstraction (judging R column) column C a ∙ v))

---------------------------------------------------------------- the two columns, over the ranks of the table
module _ (s : List ℕ) (l : Lengths) (h : Sheet) (st : List Sort) (rows answers : List ℕ)
    (e : judged s l ≡ accepted h st rows answers) (w : Term) (t : ℕ) (low : t < length h.terms) where
  -- THE CHECKED ROW of an abstraction, by `check` of the whole term,
  module _ (a : Abstracts (checked smt_lib) 1 w (term_at h.terms t)) where
    pub row-checked : free rows 1 h.terms t ≡ true → Means st (checked_row rows t) (check smt_lib w)
    unfolding judged check
    row-checked = whole-means smt_lib s l h st rows answers e 1 (omega arith) (checked-able smt_lib smt_lib-sound) w t low a

    pub row-checked-given : (r : Sort) → Gives st rows t r → check smt_lib w ≡ sort r
    unfolding judged check
    row-checked-given = whole-given smt_lib s l h st rows answers e 1 (omega arith) (checked-able smt_lib smt_lib-sound) w t low a

    pub row-checked-refused : (c : Cause) → no_limit (refused c) ≡ true → (c ≡ Below → ⊥) → checked_row rows t ≡ number_of c * 65536 → check smt_lib w ≡ refused c
    unfolding judged check
    row-checked-refused = whole-refused smt_lib s l h st rows answers e 1 (omega arith) (checked-able smt_lib smt_lib-sound) w t low a

  -- and THE INFERRED ROW by `infer`. One variable serves both rows where the part has the same sort in both.
  module _ (a : Abstracts inferred 0 w (term_at h.terms t)) where
    pub row-inferred : free rows 0 h.terms t ≡ true → Means st (get_or rows (2 * t + 0) 0) (infer w)
    unfolding judged infer
    row-inferred = whole-means smt_lib s l h st rows answers e 0 (omega arith) inferred-able w t low a

    pub row-inferred-given : (r : Sort) → (get_or rows (2 * t + 0) 0 < 65536) × (get_or st (get_or rows (2 * t + 0) 0) leaf ≡ r) → infer w ≡ sort r
    unfolding judged infer
    row-inferred-given = whole-given smt_lib s l h st rows answers e 0 (omega arith) inferred-able w t low a

    pub row-inferred-refused : (c : Cause) → no_limit (refused c) ≡ true → (c ≡ Below → ⊥) → get_or rows (2 * t + 0) 0 ≡ number_of c * 65536 → infer w ≡ refused c
    unfolding judged infer
    row-inferred-refused = whole-refused smt_lib s l h st rows answers e 0 (omega arith) inferred-able w t low a
