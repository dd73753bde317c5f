-- DEMAND 3 ON SHEETS: a checked row of an accepted sheet gives what `check` gives to the term's tree (RowExactly), and on trees the two
-- routes agree (RouteLaws of the crate check_rules). Demand 3 on the bytes that `judge` writes is in Demands of the crate verdicts.
use Rattle.std.specs.Prelude.{ℕ, ◌<◌, ◌≡◌, true, List, length}
use Rattle.std.proofs.Common.{ap, ◌∙◌}
use Rattle.record.specs.Sort.{Sort}
use Rattle.sheet.specs.Sheet.{Lengths, Sheet}
use Rattle.substitution.specs.Substitution.{Map, apply}
use Rattle.substitution.specs.Premises.{proper_map}
use Rattle.row_rules.specs.Verdict.{sort}
use Rattle.row_rules.specs.Term.{term_at}
use Rattle.row_rules.specs.Meaning.{free}
use Rattle.check_rules.specs.Rank.{Rank}
use Rattle.check_rules.specs.Ranks.{smt_lib}
use Rattle.check_rules.specs.Checked.{check}
use Rattle.check_rules.specs.Routes.{replace, clear_term}
use Rattle.check_rules.proofs.RankSound.{Sound, smt_lib-sound}
use Rattle.check_rules.proofs.RouteLaws.{routes}
use Rattle.check_rules.proofs.RouteTheorems.{Allowed, routes-allowed}
use Rattle.judge_rules.specs.Judged.{accepted, judged_by, judged}
use Rattle.judge_rules.specs.Given.{checked_row, Gives}
use Rattle.judge_rules.proofs.RowExactly.{given-checked, checked-given}

-- What holds of the trees of two terms holds of their checked rows: if the tree of t' has the sort b wherever the tree of t has a,
-- then so have their rows.
rows-follow : (R : ℕ → List Rank) (A B : List ℕ) (l_a l_b : Lengths) (h_a h_b : Sheet) (st_a st_b : List Sort) (rows_a rows_b answers_a answers_b : List ℕ)
    → judged_by R A l_a ≡ accepted h_a st_a rows_a answers_a → judged_by R B l_b ≡ accepted h_b st_b rows_b answers_b
    → (t t' : ℕ) → t < length h_a.terms → t' < length h_b.terms
    → free rows_b 1 h_b.terms t' ≡ true
    → (a b : Sort) → (check R (term_at h_a.terms t) ≡ sort a → check R (term_at h_b.terms t') ≡ sort b)
    → Gives st_a rows_a t a → (checked_row rows_b t' < length st_b) × Gives st_b rows_b t' b
rows-follow R A B l_a l_b h_a h_b st_a st_b rows_a rows_b answers_a answers_b j_a j_b t t' low_a low_b f_b a b go g =
    checked-given R B l_b h_b st_b rows_b answers_b j_b t' low_b b f_b (go (given-checked R A l_a h_a st_a rows_a answers_a j_a t low_a a g))

-- The two routes over any sound ranks, under the weakest premises on σ: `Allowed` of RouteTheorems, where only what σ finds for a name
-- counts.
pub two-routes-over : (R : ℕ → List Rank) → ((n : ℕ) → Sound (R n))
    → (A B : List ℕ) (l_a l_b : Lengths) (h_a h_b : Sheet) (st_a st_b : List Sort) (rows_a rows_b answers_a answers_b : List ℕ)
    → judged_by R A l_a ≡ accepted h_a st_a rows_a answers_a → judged_by R B l_b ≡ accepted h_b st_b rows_b answers_b
    → (t t' : ℕ) → t < length h_a.terms → t' < length h_b.terms
    → (σ : Map) → Allowed σ (term_at h_a.terms t) → term_at h_b.terms t' ≡ replace σ (term_at h_a.terms t)
    → free rows_b 1 h_b.terms t' ≡ true
    → (s : Sort) → Gives st_a rows_a t s → (checked_row rows_b t' < length st_b) × Gives st_b rows_b t' (apply σ s)
two-routes-over R S A B l_a l_b h_a h_b st_a st_b rows_a rows_b answers_a answers_b j_a j_b t t' low_a low_b σ o same f_b s =
    rows-follow R A B l_a l_b h_a h_b st_a st_b rows_a rows_b answers_a answers_b j_a j_b t t' low_a low_b f_b s (apply σ s)
    (λ e. ap (check R) same ∙ routes-allowed R S σ (term_at h_a.terms t) s o e)

-- DEMAND 3, ENTIRE: "Between two routes there is no difference where the first gives a sort." For any two accepted sheets A and B
-- and any lent lengths; for any term t of A, and t' of B whose tree is that of t with its sort variables replaced by σ; where σ's
-- images hold no Par, ParamBitVec, BitVec 0 or Type and no name that σ touches is a parameter of a Par of the term; and where no
-- checked row of t' or below it is 22 or 23: if the checked row of t gives the sort s, then that of t' is a number of B's store, and
-- gives the sort s put through σ. On A's sheet no limit is met at or below a row that gives a sort (`given-free`).
pub two-routes : (A B : List ℕ) (l_a l_b : Lengths) (h_a h_b : Sheet) (st_a st_b : List Sort) (rows_a rows_b answers_a answers_b : List ℕ)
    → judged A l_a ≡ accepted h_a st_a rows_a answers_a → judged B l_b ≡ accepted h_b st_b rows_b answers_b
    → (t t' : ℕ) → t < length h_a.terms → t' < length h_b.terms
    → (σ : Map) → proper_map σ ≡ true → clear_term σ (term_at h_a.terms t) ≡ true
    → term_at h_b.terms t' ≡ replace σ (term_at h_a.terms t)
    → free rows_b 1 h_b.terms t' ≡ true
    → (s : Sort) → Gives st_a rows_a t s → (checked_row rows_b t' < length st_b) × Gives st_b rows_b t' (apply σ s)
unfolding judged
two-routes A B l_a l_b h_a h_b st_a st_b rows_a rows_b answers_a answers_b j_a j_b t t' low_a low_b σ p c same f_b s =
    rows-follow smt_lib A B l_a l_b h_a h_b st_a st_b rows_a rows_b answers_a answers_b j_a j_b t t' low_a low_b f_b s (apply σ s)
    (λ e. ap (check smt_lib) same ∙ routes smt_lib smt_lib-sound σ (term_at h_a.terms t) s p c e)

-- THE SAME UNDER THE WEAKEST PREMISES on σ.
pub two-routes-allowed : (A B : List ℕ) (l_a l_b : Lengths) (h_a h_b : Sheet) (st_a st_b : List Sort) (rows_a rows_b answers_a answers_b : List ℕ)
    → judged A l_a ≡ accepted h_a st_a rows_a answers_a → judged B l_b ≡ accepted h_b st_b rows_b answers_b
    → (t t' : ℕ) → t < length h_a.terms → t' < length h_b.terms
    → (σ : Map) → Allowed σ (term_at h_a.terms t) → term_at h_b.terms t' ≡ replace σ (term_at h_a.terms t)
    → free rows_b 1 h_b.terms t' ≡ true
    → (s : Sort) → Gives st_a rows_a t s → (checked_row rows_b t' < length st_b) × Gives st_b rows_b t' (apply σ s)
unfolding judged
two-routes-allowed = two-routes-over smt_lib smt_lib-sound
