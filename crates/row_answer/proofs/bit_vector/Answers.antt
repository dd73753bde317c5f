-- The answer to the vector: 22 over 65,535.
-- Its record is written out, the width in four bytes.
use Rattle.std.proofs.Common.{sym, ap, arith}
use Rattle.record.specs.Sort.{end, bitvec}
use Rattle.record.specs.Decode.{store_of}
use Rattle.row_rules.specs.Verdict.{sort}
use Rattle.row_answer.specs.Within.{over-width}
use Rattle.row_answer.specs.AnswerLaws.{judged-as, made-limit}
use Rattle.row_answer.specs.Records.{vector-fresh, vector-sort}
use Rattle.row_answer.proofs.MakeLaws.{two-bytes}
use Rattle.row_answer.proofs.bit_vector.Goals as goal

pub returns-then-width-gt-LARGEST_WIDTH-clause-answer : goal.returns-then-width-gt-LARGEST_WIDTH-clause-answer
returns-then-width-gt-LARGEST_WIDTH-clause-answer c =
    let s = c.args.store.now in
    made-limit s.records.now s.places.now s.index.now s.count s.used s.good (bitvec c.args.width) (over-width 9 0 c.args.width end c.if-width-gt-LARGEST_WIDTH.true)

pub make-requires : goal.make-requires
make-requires c =
    let e = two-bytes c.args.width (omega arith) c.to_le_bytes.ensures in
    rw (e.0, e.1) (record { good = c.args.store.now.good; fresh = vector-fresh c.args.width c.if-width-gt-LARGEST_WIDTH.false c.args.store.now.count })

pub returns-clause-answer : goal.returns-clause-answer
returns-clause-answer c =
    let s = c.args.store.now in
    let e = two-bytes c.args.width (omega arith) c.to_le_bytes.ensures in
    let made = rw (e.0, e.1) at c.make.ensures.answer in
    judged-as (ap sort (sym (vector-sort c.args.width c.if-width-gt-LARGEST_WIDTH.false (store_of s.records.now s.places.now s.count)))) made
