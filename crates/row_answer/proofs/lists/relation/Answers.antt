-- The answer to the Set of the Tuple of the columns: 22 over 64.
-- The array with its first three bytes written is the Tuple's record.
use Rattle.std.proofs.Common.{ap}
use Rattle.record.specs.Number.{numbers_at}
use Rattle.record.specs.Sort.{Sort, tuple}
use Rattle.record.specs.Sort.{set as set_of}
use Rattle.record.specs.Record.{sorts_of}
use Rattle.record.specs.Decode.{store_of}
use Rattle.row_rules.specs.Verdict.{sort}
use Rattle.row_answer.specs.AnswerLaws.{judged-as, made-limit}
use Rattle.row_answer.proofs.ListLaws.{relation-over, tuple-asks, listed-asks, listed-tree}
use Rattle.row_answer.proofs.lists.relation.Goals as goal

pub returns-then-list-gt-LONGEST_LIST-clause-answer : goal.returns-then-list-gt-LONGEST_LIST-clause-answer
returns-then-list-gt-LONGEST_LIST-clause-answer c =
    let s = c.args.store.now in
    let a = c.args.list.now in
    let st = store_of s.records.now s.places.now s.count in
    made-limit s.records.now s.places.now s.index.now s.count s.used c.requires.good (set_of (tuple (sorts_of st (numbers_at a.bytes.now 3 a.count))))
    (relation-over st a.bytes.now 3 a.count c.if-list-gt-LONGEST_LIST.true)

pub set_of_tuple-requires : goal.set_of_tuple-requires
set_of_tuple-requires c = listed-asks (tuple-asks c.requires) c.if-list-gt-LONGEST_LIST.false c.record.ensures.value c.record.ensures.bytes c.put_head.ensures.count c.put_head.ensures.bytes

pub returns-clause-answer : goal.returns-clause-answer
returns-clause-answer c =
    judged-as
    (ap (λ (t : Sort). sort (set_of t)) (listed-tree (tuple-asks c.requires) c.if-list-gt-LONGEST_LIST.false c.record.ensures.value c.record.ensures.bytes c.put_head.ensures.count c.put_head.ensures.bytes))
    c.set_of_tuple.ensures.answer
