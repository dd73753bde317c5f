-- The record that stands there is read, and its question over the store is the sheet's.
use mathlib.Core.Path.{sym, ◌∙◌}
use Rattle.questions.specs.All.{question-asks, at-is}
use Rattle.questions.proofs.all.answer_at.Goals as goal

pub answer_question-requires : goal.answer_question-requires
answer_question-requires c =
    let s = c.args.store.now in
    let x = c.args.names.now in
    let d = c.args.sheet.now in
    question-asks s.records.now s.places.now s.index.now s.count s.used x.params.now x.images.now x.bound.now d.bytes.now d.table.now d.sorts c.args.at c.requires
    c.unwrap.result.0 c.unwrap.result.1 (sym c.question.ensures ∙ c.unwrap.ensures)

pub returns-clause-answer : goal.returns-clause-answer
returns-clause-answer c =
    let s = c.args.store.now in
    let x = c.args.names.now in
    let d = c.args.sheet.now in
    let t = c.answer_question.new.store in
    let y = c.answer_question.new.names in
    at-is s.records.now s.places.now s.index.now s.count s.used x.params.now x.images.now x.bound.now d.bytes.now d.table.now d.sorts c.args.at c.requires
    c.unwrap.result.0 c.unwrap.result.1 (sym c.question.ensures ∙ c.unwrap.ensures)
    t.records.now t.places.now t.index.now y.params.now y.images.now y.bound.now _ c.answer_question.ensures.answer
