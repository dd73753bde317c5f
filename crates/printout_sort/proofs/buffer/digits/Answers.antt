-- A number has one digit more than its logarithm to ten says, and five at most under 100,000.
use Rattle.std.proofs.Common.{arith}
use Rattle.printout_sort.specs.DecimalLaws.{ten, decimal-most, logarithm-length}
use Rattle.printout_sort.proofs.buffer.digits.Goals as goal

pub returns : goal.returns
unfolding ten
returns c =
    let l = c.checked_ilog10.ensures in
    let n = logarithm-length c.args.v _ l.none l.power_le l.next_power_gt in
    (omega (arith, c.unwrap_or.ensures, n), λ h. omega (arith, c.unwrap_or.ensures, n, decimal-most 4 c.args.v h))
