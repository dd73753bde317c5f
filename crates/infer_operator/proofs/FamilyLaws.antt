-- The family by an operator's number, also of numbers past the last operator's.
use Prim.Native.Nat.{ℕ, ◌<◌}
use mathlib.Core.Path.{◌≡◌, refl, sym, ap, ◌∙◌}
use mathlib.Core.Bool.{Bool, true, ◌&&◌}
use native.Mathlib.Omega.{arith}
use lib.Dec.{leb}
use borrow.Author.Tests.{leb-true, lt-leb}
use Rattle.std.specs.Prelude.{Result, Ok, Err, MatchResult}
use Rattle.record.specs.Operators.{operator_number, OperatorDecodes}
use Rattle.record.specs.declared.kinds.UnknownKind.{UnknownKind}
use Rattle.record.specs.declared.operators.Operator.{Operator}
use Rattle.record.specs.Cases.{and_left, and_right, false-second}
use Rattle.infer_rules.specs.declared.Family.{Family}
use Rattle.infer_rules.specs.declared.Family.TheVariants.{Truth}
use Rattle.infer_rules.specs.Family.{Families, done, range, family_in, families, family_of}

unfoldable up_to : Families → ℕ → Bool
up_to done m = true
up_to (range a b f fs) m = leb b m && up_to fs m

beyond : (fs : Families) (m n : ℕ) → up_to fs m ≡ true → m < n → family_in fs n ≡ Truth
unfolding family_in up_to
beyond done m n e h = refl
beyond (range a b f fs) m n e h =
    let l = leb-true b m (and_left (leb b m) (up_to fs m) e) in
    rw (false-second (leb a n) (leb n b) (lt-leb n b (omega arith))) (beyond fs m n (and_right (leb b m) (up_to fs m) e) h)

past_all : (o : ℕ) → 134 < o → Truth ≡ family_of o
unfolding family_of up_to
past_all o h = sym (beyond families 134 o refl h)

-- The family of the operator with the number n, if it is one's.
pub family-found : (n : ℕ) (o : Result Operator UnknownKind) → OperatorDecodes n o → (r : Family) → MatchResult o (λ k. r ≡ family_of (operator_number k)) (λ x. r ≡ Truth) → r ≡ family_of n
family-found n (Ok k) e r h = h ∙ ap family_of e
family-found n (Err x) e r h = h ∙ past_all n (omega (arith, e.1))
