-- The bytes that are handed on are the part from the first of the list's bytes to the last.
use Rattle.std.proofs.Common.{◌≡◌, ◌+◌, ◌*◌, ◌-◌, arith}
use Rattle.record.specs.Numbers.{pairs-of-part}
use Rattle.record.proofs.span.Span.pairs.Goals as goal

pub returns : goal.returns
returns c =
    let e : c.args.self.at + 4 * c.args.self.count - c.args.self.at ≡ 4 * c.args.self.count = omega arith in
    rw e (pairs-of-part c.args.bytes.now c.args.self.at c.args.self.count c.requires)
