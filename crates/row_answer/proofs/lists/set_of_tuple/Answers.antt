-- The answer to the Set of the sort of the record.
-- A number near at hand is its by its part; else the limit is judged before anything is made, so that 22 comes before 23.
use Rattle.std.proofs.Common.{arith, rules, sym, ap, ◌∙◌}
use Rattle.record.specs.Sort.{Sort, set}
use Rattle.row_rules.specs.Verdict.{sort}
use Rattle.row_answer.specs.AnswerLaws.{judged-as, answer-known}
use Rattle.row_answer.proofs.MakeLaws.{set-large, set_full, made-from, set-made}
use Rattle.row_answer.proofs.lists.set_of_tuple.Goals as goal

pub returns-then-is_near-clause-answer : goal.returns-then-is_near-clause-answer
returns-then-is_near-clause-answer c =
    let s = c.args.store.now in
    let (l, e) = c.in-Some.ensures in
    let (k, i) = c.is_near.ensures c.if-is_near.true in
    judged-as (ap sort (sym (e ∙ ap (λ (t : Sort). set t) i))) (answer-known s.records.now s.places.now s.index.now s.count s.used s.good c.args.near l)

pub returns-then-weight-gt-LARGEST_PARTS-clause-answer : goal.returns-then-weight-gt-LARGEST_PARTS-clause-answer
returns-then-weight-gt-LARGEST_PARTS-clause-answer c =
    set-large c.requires c.tree_size-weight.result c.tree_size-weight.ensures (omega (arith, c.if-weight-gt-LARGEST_PARTS.true))

pub returns-in_err-inner-clause-answer : goal.returns-in_err-inner-clause-answer
returns-in_err-inner-clause-answer c =
    set_full c.requires c.tree_size-weight.result c.tree_size-weight.ensures (omega (arith, c.if-weight-gt-LARGEST_PARTS.false)) c.in_err-inner.ensures.interned (search rules)

pub returns-clause-answer : goal.returns-clause-answer
returns-clause-answer c =
    let s = c.args.store.now in
    let t = c.intern.new.self in
    let k = c.in_ok-inner.inner in
    let holds = c.in_ok-inner.ensures.interned in
    set-made c.requires t.records.now t.places.now t.index.now k t.count t.used holds
    (c.set_over.ensures.answer s.used s.records.now s.places.now s.index.now (made-from c.requires t.records.now t.places.now t.index.now k t.count t.used holds))
