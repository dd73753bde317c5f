-- `!` and the number are written one after the other.
-- What was written first leaves room for the second.
use Rattle.std.proofs.Common.{arith}
use Rattle.printout_sort.specs.Wrote.{wrote-more, wrote-long}
use Rattle.printout.specs.LineLaws.{refusal-length}
use Rattle.printout.specs.Lines.{refusal_text}
use Rattle.printout.proofs.lines.put_refusal.Goals as goal

pub put_byte-requires : goal.put_byte-requires
put_byte-requires c = omega (arith, c.requires, refusal-length c.args.number)

pub put_decimal-requires : goal.put_decimal-requires
put_decimal-requires c = omega (arith, c.requires, refusal-length c.args.number, c.put_byte.ensures.put.next, wrote-long c.put_byte.ensures.put)

pub returns-clause-put : goal.returns-clause-put
unfolding refusal_text
returns-clause-put c = wrote-more c.put_byte.ensures.put c.put_decimal.ensures.put
