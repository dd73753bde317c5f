-- Rows over a whole store: refused, and of a sort that the store has.
use Rattle.std.specs.Prelude.{◌≡◌, ℕ, ◌<◌, Result, Ok, Err}
use Rattle.std.proofs.Common.{sym, subst}
use Rattle.record.specs.Decode.{sort_at}
use Rattle.store.specs.declared.Store.{Store}
use Rattle.row_rules.specs.declared.Cause.{Cause}
use Rattle.row_rules.specs.Verdict.{Verdict, sort, refused}
use Rattle.row_answer.specs.Answer.{Answered}
use Rattle.row_answer.specs.AnswerLaws.{judged-as, made-refused, answer-known}

-- The store as it was, and the cause.
pub refused_row : (s : Store) {v : Verdict} {r : Result ℕ Cause} (c : Cause) → v ≡ refused c → r ≡ Err c → Answered s v s r
refused_row s {v} {r} c e h =
    subst (λ (q : Result ℕ Cause). Answered s v s q) (sym h)
    (judged-as e (made-refused s.records.now s.places.now s.index.now s.count s.used s.good c))

-- The store as it was, and a number of it.
pub known_row : (s : Store) {v : Verdict} {r : Result ℕ Cause} (k : ℕ) → v ≡ sort (sort_at s.records.now s.places.now s.count k) → k < s.count → r ≡ Ok k → Answered s v s r
known_row s {v} {r} k e l h =
    subst (λ (q : Result ℕ Cause). Answered s v s q) (sym h)
    (judged-as e (answer-known s.records.now s.places.now s.index.now s.count s.used s.good k l))
