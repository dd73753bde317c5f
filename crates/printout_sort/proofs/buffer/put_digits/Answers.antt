-- All digits are left at first, and nothing is written.
-- Each turn writes the last of those that are left before the others.
use Rattle.std.proofs.Common.{arith, ap, ◌∙◌, ◌≡◌, ◌++◌, ◌-◌, ◌+◌, List, ℕ, drop, length, append-nil}
use Rattle.std.proofs.Math.Seq.{drop-length}
use Rattle.printout_sort.specs.DecimalLaws.{last_digits, all-digits, digit-put}
use Rattle.printout_sort.proofs.buffer.put_digits.Goals as goal

pub loop-i-init : goal.loop-i-init
loop-i-init c =
    let l = c.args.text.now in
    ap (λ (r : List ℕ). last_digits (length l) c.args.v ++ r) (drop-length l) ∙ append-nil _ ∙ all-digits (length l) c.args.v c.requires

pub loop-i-preserved : goal.loop-i-preserved
loop-i-preserved c =
    let l = c.loop-i in
    let e : l.i - 1 + 1 ≡ l.i = omega (arith, c.loop-i-test.true) in
    digit-put (l.i - 1) l.rest l.text (omega (arith, e, l.auto.i, l.auto.text)) ∙ ap (λ (k : ℕ). last_digits k l.rest ++ drop k l.text) e ∙ l.invariant
