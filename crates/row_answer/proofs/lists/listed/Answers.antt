-- The answer to the sort of a list: 22 over 64.
-- The array with its first three bytes written is the record, taken to its end.
use Rattle.std.proofs.Common.{ap}
use Rattle.record.specs.Number.{numbers_at}
use Rattle.record.specs.Kinds.{sort_number}
use Rattle.record.specs.Sort.{node}
use Rattle.record.specs.Record.{sorts_of}
use Rattle.record.specs.Decode.{store_of}
use Rattle.row_rules.specs.Verdict.{sort}
use Rattle.row_answer.specs.AnswerLaws.{judged-as, made-limit}
use Rattle.row_answer.proofs.ListLaws.{listed-over, listed-asks, listed-tree}
use Rattle.row_answer.proofs.lists.listed.Goals as goal

pub returns-then-list-gt-LONGEST_LIST-clause-answer : goal.returns-then-list-gt-LONGEST_LIST-clause-answer
returns-then-list-gt-LONGEST_LIST-clause-answer c =
    let s = c.args.store.now in
    let a = c.args.list.now in
    let st = store_of s.records.now s.places.now s.count in
    made-limit s.records.now s.places.now s.index.now s.count s.used c.requires.list.good (node (sort_number c.args.kind) 0 0 (sorts_of st (numbers_at a.bytes.now 3 a.count)))
    (listed-over st a.bytes.now 3 a.count c.if-list-gt-LONGEST_LIST.true (sort_number c.args.kind))

pub make-requires : goal.make-requires
make-requires c = listed-asks c.requires c.if-list-gt-LONGEST_LIST.false c.record.ensures.value c.record.ensures.bytes c.put_head.ensures.count c.put_head.ensures.bytes

pub returns-clause-answer : goal.returns-clause-answer
returns-clause-answer c =
    judged-as (ap sort (listed-tree c.requires c.if-list-gt-LONGEST_LIST.false c.record.ensures.value c.record.ensures.bytes c.put_head.ensures.count c.put_head.ensures.bytes)) c.make.ensures.answer
