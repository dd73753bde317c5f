-- RANKS THAT ACCEPT MORE KEEP EVERY CHECKED ROW that gives a sort, unless 23 is now met at its term or below it (document 02, A.1: "Terms that
-- had a checked sort keep it unless 23 is now met"). On trees it is `check-more` of the crate check_rules; here on the rows of sheets.
use Rattle.std.specs.Prelude.{ℕ, ◌<◌, ◌≡◌, refl, true, List, length}
use Rattle.std.proofs.Common.{ap, subst, ◌∙◌, arith}
use Rattle.record.specs.Sort.{Sort}
use Rattle.sheet.specs.Sheet.{Lengths, Sheet}
use Rattle.row_rules.specs.Verdict.{Verdict, sort}
use Rattle.row_rules.specs.Term.{Site, term_at, verdict_of}
use Rattle.row_rules.specs.Meaning.{Means, roomed}
use Rattle.row_rules.proofs.OutcomeLaws.{means-sort, room-few}
use Rattle.check_rules.specs.Rank.{Rank}
use Rattle.check_rules.specs.Ranks.{smt_lib, document01}
use Rattle.check_rules.specs.Checked.{checked}
use Rattle.check_rules.proofs.More.{GivesMore, verdict-more, More, checked-more, smt_lib-more}
use Rattle.judge_rules.specs.Judged.{accepted, judged_by, judged}
use Rattle.judge_rules.specs.Given.{checked_row, Gives}
use Rattle.judge_rules.proofs.JudgedLaws.{told, judged-store}
use Rattle.judge_rules.proofs.GivenLaws.{judged-given}
use Rattle.judge_rules.proofs.BoundedLaws.{bounded, limits-given, given-limits, free-roomed, judged-bounded}

-- What gives more, gives more within the limits: the sort that is given is the same, so it passes none that it did not pass.
pub bounded-more : (J K : Site → Verdict) → GivesMore J K → GivesMore (bounded J) (bounded K)
unfolding bounded
bounded-more J K m z s e = let (v, w) = limits-given (J z) s e in given-limits (K z) s (m z s v) w

-- A term of an accepted sheet: the sort of its checked row and the sort of its tree with the limits.
module _ (R : ℕ → List Rank) (s : List ℕ) (l : Lengths) (h : Sheet) (st : List Sort) (rows answers : List ℕ)
    (e : judged_by R s l ≡ accepted h st rows answers) (t : ℕ) (low : t < length h.terms) (a : Sort) where
  given-bounded : Gives st rows t a → verdict_of (bounded (checked R)) (term_at h.terms t) ≡ sort a
  given-bounded g =
      let f = judged-given R s l h st rows answers e 1 t (omega arith) low g.0 in
      let r = free-roomed rows 1 h.terms (told R s l h st rows answers e).sheet.terms-are.below t low f in
      means-sort st (checked_row rows t) (verdict_of (bounded (checked R)) (term_at h.terms t))
      (judged-bounded R s l h st rows answers e 1 t (omega arith) low r) g.0
      ∙ ap sort g.1

  bounded-gives : roomed rows 1 h.terms t ≡ true → verdict_of (bounded (checked R)) (term_at h.terms t) ≡ sort a
      → (checked_row rows t < length st) × Gives st rows t a
  bounded-gives r v =
      let m = subst (λ (w : Verdict). Means st (checked_row rows t) w) v (judged-bounded R s l h st rows answers e 1 t (omega arith) low r) in
      let few = room-few l.records l.places st (judged-store R s l h st rows answers e).3 in
      (m.0, (omega (arith, m.0), m.1))

-- RANKS THAT ACCEPT MORE KEEP EVERY CHECKED ROW: the same term on two sheets with any lent lengths, judged over ranks R and over R' that
-- accept more. If its row over R gives a sort, its row over R' gives it too, unless 23 is met there at the term or below it.
pub kept-rows-over : (R R' : ℕ → List Rank) → More R R'
    → (A B : List ℕ) (l_a l_b : Lengths) (h_a h_b : Sheet) (st_a st_b : List Sort) (rows_a rows_b answers_a answers_b : List ℕ)
    → judged_by R A l_a ≡ accepted h_a st_a rows_a answers_a → judged_by R' B l_b ≡ accepted h_b st_b rows_b answers_b
    → (t t' : ℕ) → t < length h_a.terms → t' < length h_b.terms → term_at h_b.terms t' ≡ term_at h_a.terms t
    → roomed rows_b 1 h_b.terms t' ≡ true
    → (s : Sort) → Gives st_a rows_a t s → (checked_row rows_b t' < length st_b) × Gives st_b rows_b t' s
kept-rows-over R R' m A B l_a l_b h_a h_b st_a st_b rows_a rows_b answers_a answers_b j_a j_b t t' low_a low_b same r s g =
    bounded-gives R' B l_b h_b st_b rows_b answers_b j_b t' low_b s r
    (ap (verdict_of (bounded (checked R'))) same
    ∙ verdict-more (bounded (checked R)) (bounded (checked R')) (bounded-more (checked R) (checked R') (checked-more R R' m)) (term_at h_a.terms t) s
    (given-bounded R A l_a h_a st_a rows_a answers_a j_a t low_a s g))

-- "TERMS THAT HAD A CHECKED SORT KEEP IT UNLESS 23 IS NOW MET": on any sheet, with any lent lengths. If the checked row of a term gives the sort
-- s over the ranks of document 01, it gives s over all ranks, unless 23 is now met at the term or below it. So it is no new 22 either.
pub kept-rows : (A : List ℕ) (l : Lengths) (h : Sheet) (st st' : List Sort) (rows rows' answers answers' : List ℕ)
    → judged_by document01 A l ≡ accepted h st rows answers → judged A l ≡ accepted h st' rows' answers'
    → (t : ℕ) → t < length h.terms → roomed rows' 1 h.terms t ≡ true
    → (s : Sort) → Gives st rows t s → (checked_row rows' t < length st') × Gives st' rows' t s
unfolding judged
kept-rows A l h st st' rows rows' answers answers' j j' t low r s g =
    kept-rows-over document01 smt_lib smt_lib-more A A l l h h st st' rows rows' answers answers' j j' t t low low refl r s g
