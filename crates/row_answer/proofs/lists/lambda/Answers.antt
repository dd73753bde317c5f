-- The answer to the Function of the bindings' sorts and the body's.
-- The array has the bindings' numbers, then the body's.
use Rattle.std.proofs.Common.{ap}
use Rattle.row_rules.specs.Verdict.{sort}
use Rattle.row_answer.specs.AnswerLaws.{judged-as}
use Rattle.row_answer.proofs.ListLaws.{lambda-listed, lambda-tree}
use Rattle.row_answer.proofs.lists.lambda.Goals as goal

pub listed-requires : goal.listed-requires
listed-requires c =
    let e = rw c.put_bindings.ensures.count at c.push.ensures.bytes in
    rw (c.push.ensures.count, c.put_bindings.ensures.count) (lambda-listed c.requires c.put_bindings.ensures.same.1 c.put_bindings.ensures.bindings e)

pub returns-clause-answer : goal.returns-clause-answer
returns-clause-answer c =
    let e = rw c.put_bindings.ensures.count at c.push.ensures.bytes in
    let made = rw (c.push.ensures.count, c.put_bindings.ensures.count) at c.listed.ensures.answer in
    judged-as (ap sort (lambda-tree c.requires c.put_bindings.ensures.same.1 c.put_bindings.ensures.bindings e)) made
