-- The last argument, or none behind the first ones.
use Rattle.infer_operator.proofs.SingleLaws.{last-none, last-has}
use Rattle.infer_operator.proofs.single.last_of.Goals as goal

pub returns-then-args-least : goal.returns-then-args-least
returns-then-args-least c = let a = c.args.args.now in last-none a.bytes.now a.count c.args.least c.if-args-least.true

pub returns : goal.returns
returns c = let a = c.args.args.now in last-has a.bytes.now a.count c.args.least c.if-args-least.false c.number.ensures.value
