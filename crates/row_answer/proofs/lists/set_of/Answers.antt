-- The answer to the Set of a sort of the store.
-- A number near at hand is its by its part; else its record is written out.
use Rattle.std.proofs.Common.{ℕ, sym, ap, ◌∙◌, arith}
use Rattle.record.specs.Sort.{set}
use Rattle.record.specs.Decode.{store_of, sort_at}
use Rattle.row_rules.specs.Verdict.{sort}
use Rattle.store.specs.Words.{sort_in}
use Rattle.row_answer.specs.AnswerLaws.{judged-as, answer-known}
use Rattle.row_answer.specs.Records.{set-fresh, set-sort}
use Rattle.row_answer.proofs.MakeLaws.{two-bytes}
use Rattle.row_answer.proofs.lists.set_of.Goals as goal

pub returns-then-part-k-clause-answer : goal.returns-then-part-k-clause-answer
returns-then-part-k-clause-answer c =
    let s = c.args.store.now in
    let (l, e) = c.in-Some.ensures in
    judged-as (ap sort (sym (e ∙ ap (λ (i : ℕ). set (sort_in s i)) c.if-part-k.true)))
    (answer-known s.records.now s.places.now s.index.now s.count s.used s.good c.args.near l)

pub make-requires : goal.make-requires
make-requires c =
    let e = two-bytes c.args.k (omega (arith, c.args.store.now.good.indexed.count)) c.to_le_bytes.ensures in
    rw (e.0, e.1) (record { good = c.args.store.now.good; fresh = set-fresh c.args.k c.args.store.now.count c.requires })

pub returns-clause-answer : goal.returns-clause-answer
unfolding sort_at
returns-clause-answer c =
    let s = c.args.store.now in
    let e = two-bytes c.args.k (omega (arith, c.args.store.now.good.indexed.count)) c.to_le_bytes.ensures in
    let made = rw (e.0, e.1) at c.make.ensures.answer in
    judged-as (ap sort (sym (set-sort c.args.k (store_of s.records.now s.places.now s.count)))) made
