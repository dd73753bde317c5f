-- The answer to the sort of this kind: a number near at hand is known by its kind.
-- Its record is the map 1 and the kind.
use Rattle.std.proofs.Common.{rules, sym, ap}
use Rattle.row_rules.specs.Verdict.{sort}
use Rattle.row_answer.specs.AnswerLaws.{judged-as, answer-known}
use Rattle.row_answer.proofs.MakeLaws.{leaf-asks, leaf-answer}
use Rattle.row_answer.proofs.leaf.Goals as goal

pub returns-then-is_leaf-clause-answer : goal.returns-then-is_leaf-clause-answer
returns-then-is_leaf-clause-answer c =
    let s = c.args.store.now in
    let (l, e) = c.is_leaf.ensures c.if-is_leaf.true in
    judged-as (ap sort (sym e)) (answer-known s.records.now s.places.now s.index.now s.count s.used s.good c.args.near l)

pub make-requires : goal.make-requires
make-requires c = leaf-asks c.requires (search rules)

pub returns-clause-answer : goal.returns-clause-answer
returns-clause-answer c = leaf-answer c.requires (search rules) c.make.ensures.answer
