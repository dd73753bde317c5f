-- The answer to the Set, over the store before its part was made.
-- Accepted, it stands; refused, both are undone, and the buffers are those of the store before.
use Rattle.std.proofs.Common.{arith, sym, ◌∙◌}
use Rattle.record.specs.Sort.{set}
use Rattle.record.specs.Decode.{sort_at}
use Rattle.row_rules.specs.Verdict.{sort}
use Rattle.row_answer.specs.Answer.{answer}
use Rattle.row_answer.specs.AnswerLaws.{answer-more}
use Rattle.row_answer.proofs.MakeLaws.{over-accepted, over-undone, by-error, by-number}
use Rattle.row_answer.proofs.lists.set_over.Goals as goal

pub undo-requires : goal.undo-requires
undo-requires c =
    let s = c.args.store.now in
    let t = c.set_of-outer.new.store in
    let made = c.set_of-outer.ensures.answer in
    let more =
    answer-more s.records.now s.places.now s.count (sort (set (sort_at s.records.now s.places.now s.count c.args.k))) t.records.now t.places.now t.index.now (answer t c.set_of-outer.result) made in
    record { good = made.good; order = omega (arith, c.requires.order, more) }

pub returns-then-is_err-clause-answer : goal.returns-then-is_err-clause-answer
returns-then-is_err-clause-answer c = λ u b p ix from.
    by-error c.set_of-outer.result (sym c.is_err.ensures.value ∙ c.if-is_err.true)
    (λ w h. over-undone c.requires c.set_of-outer.ensures.answer from w h c.undo.ensures.undone.0 c.undo.ensures.undone.1)

pub returns-else-is_err-clause-answer : goal.returns-else-is_err-clause-answer
returns-else-is_err-clause-answer c = λ u b p ix from.
    by-number c.set_of-outer.result (sym c.is_err.ensures.value ∙ c.if-is_err.false)
    (λ i h. over-accepted c.requires c.set_of-outer.ensures.answer from i h)
