-- Whether two lists touch, for every store that has these bytes.
use Rattle.check_operator.proofs.SetFits.{touch-left, touch-right, touch-ends}
use Rattle.check_operator.proofs.sets.touch.Goals as goal
use Rattle.check_operator.proofs.sets.touch.Goals.{then-left-eq0-via-then-left-eq0, then-left-eq0-via-else-left-eq0+then-right-eq0}

pub returns-then-left-eq0 : goal.returns-then-left-eq0
returns-then-left-eq0 c =
    let b = c.args.records.now in
    elim c.then-left-eq0.branch [
      | then-left-eq0-via-then-left-eq0 w ↦ touch-left b c.args.left c.args.right w.if-left-eq0.true
      | then-left-eq0-via-else-left-eq0+then-right-eq0 w ↦ touch-right b c.args.left c.args.right w.if-right-eq0.true
    ]

pub returns : goal.returns
returns c =
    touch-ends c.args.records.now c.args.left c.args.right c.if-left-eq0.false c.if-right-eq0.false c.get.ensures.value c.get-2.ensures.value
