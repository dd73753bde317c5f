-- Which cause a number stands for.
use Rattle.std.specs.Prelude.{ℕ, ◌≤◌, ◌≡◌, Result, MatchResult}
use Rattle.row_rules.specs.declared.Cause.{Cause}
use Rattle.row_rules.specs.declared.UnknownCause.{UnknownCause}
use Rattle.row_rules.specs.Verdict.{number_of}

-- The cause with this number; or the number, which is not one of 20 to 29.
abbrev pub CauseFrom : ℕ → Result Cause UnknownCause → Type 0
CauseFrom n r = MatchResult r (λ c. number_of c ≡ n) (λ e. (e.0 ≡ n) × (20 ≤ n → n ≤ 29 → ⊥))
