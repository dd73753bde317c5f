-- The answer of a family.
use mathlib.Core.Path.{◌≡◌, ap}
use mathlib.Core.List.{List}
use mathlib.Core.Option.{Option}
use Prim.Native.Nat.{ℕ}
use Rattle.record.specs.Sort.{Sorts}
use Rattle.row_answer.specs.Answer.{Answer, AnswerIs}
use Rattle.row_answer.specs.AnswerLaws.{judged-as}
use Rattle.infer_rules.specs.Inferred.{operated_by}
use Rattle.infer_rules.specs.declared.Family.{Family}

-- An answer of a family, by its name.
pub family-answer : (ss : Sorts) (cs : List (Option ℕ)) {f g : Family} → f ≡ g → {b p : List ℕ} {n : ℕ} {b' p' ix' : List ℕ} {r : Answer}
    → AnswerIs b p n (operated_by g ss cs) b' p' ix' r → AnswerIs b p n (operated_by f ss cs) b' p' ix' r
family-answer ss cs {f} {g} e h = judged-as (ap (λ (x : Family). operated_by x ss cs) e) h
