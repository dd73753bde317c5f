-- The answer to the sort of the record: found or added, 22 by its tree size, 23 by room.
-- A number near at hand is known; else `tree_size` decides the limit, `intern` the rest.
use Rattle.std.proofs.Common.{arith, rules, ap, sym}
use Rattle.row_rules.specs.Verdict.{sort}
use Rattle.row_answer.specs.AnswerLaws.{judged-as, answer-known}
use Rattle.row_answer.proofs.MakeLaws.{make-over, make-made, make-full}
use Rattle.row_answer.proofs.make.Goals as goal

pub returns-then-is_near-clause-answer : goal.returns-then-is_near-clause-answer
returns-then-is_near-clause-answer c =
    let s = c.args.store.now in
    let (l, e) = c.is_near.ensures c.if-is_near.true in
    judged-as (ap sort (sym e)) (answer-known s.records.now s.places.now s.index.now s.count s.used s.good c.args.near l)

pub returns-then-weight-gt-LARGEST_TREE-clause-answer : goal.returns-then-weight-gt-LARGEST_TREE-clause-answer
returns-then-weight-gt-LARGEST_TREE-clause-answer c =
    make-over c.requires c.tree_size-weight.result c.tree_size-weight.ensures (omega (arith, c.if-weight-gt-LARGEST_TREE.true))

pub returns-in_err-intern-clause-answer : goal.returns-in_err-intern-clause-answer
returns-in_err-intern-clause-answer c =
    make-full c.requires c.tree_size-weight.result c.tree_size-weight.ensures (omega (arith, c.if-weight-gt-LARGEST_TREE.false)) c.in_err-intern.ensures.interned (search rules)

pub returns-clause-answer : goal.returns-clause-answer
returns-clause-answer c =
    let t = c.intern.new.self in
    make-made c.requires c.tree_size-weight.result c.tree_size-weight.ensures t.records.now t.places.now t.index.now c.in_ok-intern.field-0 t.count t.used
    (omega (arith, c.if-weight-gt-LARGEST_TREE.false)) c.in_ok-intern.ensures.interned
