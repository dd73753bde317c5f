-- The rule of a number that is no operator's.
use Rattle.std.specs.Prelude.{◌≡◌, ℕ, ◌<◌, ◌≤◌, Bool, true, false, ◌&&◌, cond, leb, refl}
use Rattle.std.proofs.Common.{arith, ap, ◌∙◌, leb-true}
use Rattle.std.proofs.lemmas.Bool.{lt-leb}
use Rattle.record.specs.Cases.{and_left, and_right, false-second}
use Rattle.check_operator.specs.Rule.{Unranked, Rules, none, range, rules_in, rules, rule_of}

-- Each range of the table ends by m.
unfoldable ends_by : Rules → ℕ → Bool
ends_by none m = true
ends_by (range a b r t) m = leb b m && ends_by t m

past-end : (t : Rules) (m n : ℕ) → ends_by t m ≡ true → m < n → rules_in t n ≡ Unranked
unfolding ends_by rules_in
past-end none m n e l = refl
past-end (range a b r t) m n e l =
    let h : b < n = omega (arith, leb-true b m (and_left (leb b m) (ends_by t m) e)) in
    ap (λ (c : Bool). cond c r (rules_in t n)) (ap (leb a n &&◌) (lt-leb n b h) ∙ false-second (leb a n) false refl)
    ∙ past-end t m n (and_right (leb b m) (ends_by t m) e) l

pub rule_past : (n : ℕ) → 135 ≤ n → rule_of n ≡ Unranked
unfolding rule_of rules ends_by
rule_past n l = past-end rules 134 n refl (omega arith)
