-- The answer to what remains of the list.
-- One entry is a sort of the store; more are copied behind the place of a record's head.
use Rattle.std.proofs.Common.{ℕ, sym, ap, ◌∙◌, get_or}
use Rattle.record.specs.Record.{leaf}
use Rattle.record.specs.Decode.{store_of, sort_at}
use Rattle.row_rules.specs.Verdict.{sort}
use Rattle.row_answer.specs.AnswerLaws.{judged-as, answer-known}
use Rattle.row_answer.specs.Records.{remaining-one}
use Rattle.row_answer.proofs.ListLaws.{remaining-known, remaining-listed, remaining-tree}
use Rattle.row_answer.proofs.lists.remaining.Goals as goal

pub returns-then-left-eq1-clause-answer : goal.returns-then-left-eq1-clause-answer
unfolding sort_at
returns-then-left-eq1-clause-answer c =
    let s = c.args.store.now in
    let left = c.args.left in
    let k = c.number.result in
    let st = store_of s.records.now s.places.now s.count in
    judged-as (ap sort (remaining-one st s.records.now left.at left.count c.if-left-eq1.true ∙ ap (λ (i : ℕ). get_or st i leaf) (sym c.number.ensures.value)))
    (answer-known s.records.now s.places.now s.index.now s.count s.used c.requires.good k (remaining-known c.requires c.if-left-eq1.true c.number.ensures.value))

pub listed-requires : goal.listed-requires
listed-requires c =
    let copied = rw c.sorts-sorts.ensures.records at c.copy.ensures.bytes in
    rw c.copy.ensures.count (remaining-listed c.requires copied)

pub returns-clause-answer : goal.returns-clause-answer
returns-clause-answer c =
    let copied = rw c.sorts-sorts.ensures.records at c.copy.ensures.bytes in
    let listed = rw c.copy.ensures.count at c.listed.ensures.answer in
    judged-as (ap sort (remaining-tree c.requires copied c.if-left-eq1.false)) listed
