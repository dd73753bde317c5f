-- The mark, the number and a blank are written one after the other.
-- What was written first leaves room for the rest.
use Rattle.std.proofs.Common.{arith}
use Rattle.printout_sort.specs.Wrote.{wrote-more, wrote-long}
use Rattle.printout.specs.LineLaws.{label-length}
use Rattle.printout.specs.LineAsks.{label_text}
use Rattle.printout.proofs.lines.put_label.Goals as goal

pub put_byte-requires : goal.put_byte-requires
put_byte-requires c = omega (arith, c.requires, label-length c.args.mark c.args.v)

pub put_decimal-requires : goal.put_decimal-requires
put_decimal-requires c = omega (arith, c.requires, label-length c.args.mark c.args.v, c.put_byte.ensures.put.next, wrote-long c.put_byte.ensures.put)

pub put_byte-requires-2 : goal.put_byte-requires-2
put_byte-requires-2 c =
    omega (arith, c.requires, label-length c.args.mark c.args.v, c.put_byte.ensures.put.next, wrote-long c.put_byte.ensures.put, c.put_decimal.ensures.put.next, wrote-long c.put_decimal.ensures.put)

pub returns-clause-put : goal.returns-clause-put
unfolding label_text
returns-clause-put c = wrote-more (wrote-more c.put_byte.ensures.put c.put_decimal.ensures.put) c.put_byte-2.ensures.put
