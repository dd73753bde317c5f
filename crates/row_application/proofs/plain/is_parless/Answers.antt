-- A sort of tree size 1 by its size, any other by the walk and the law of its test.
use Rattle.std.proofs.Common.{rules}
use mathlib.Core.Path.{◌≡◌, ◌∙◌}
use mathlib.Core.List.{[]}
use borrow.Author.Tests.{eq-eqb}
use Rattle.record.specs.Decode.{sort_at}
use Rattle.substitution.specs.Premises.{parless}
use Rattle.matching_tables.specs.Notes.{NoteTable}
use Rattle.matching_each.specs.EveryLaws.{parless-tests, found-by}
use Rattle.row_application.specs.Contract.{ParlessAt}
use Rattle.row_application.proofs.ExactLaws.{leaf-parless}
use Rattle.row_application.proofs.plain.is_parless.Goals as goal
use Rattle.row_application.proofs.plain.is_parless.Goals.{After-each}

walked : (c : After-each)
    → (c.each.result ≡ parless (sort_at c.args.sorts.now.records.now c.args.sorts.now.places.now c.args.sorts.now.count c.args.k))
    × NoteTable (ParlessAt c.args.sorts.now.records.now c.args.sorts.now.places.now c.args.sorts.now.count) c.each.new.seen.slots
walked c = found-by (parless-tests [] []) (λ r k q one has says. search rules) c.requires.noted c.args.k c.each.ensures

pub returns-then-size-eq1-clause-answer : goal.returns-then-size-eq1-clause-answer
returns-then-size-eq1-clause-answer c =
    let s = c.args.sorts.now in
    let a = c.requires.asked in
    let is = rw (c.entries.ensures.records, c.entries.ensures.places) at c.size.ensures in
    eq-eqb c.size.result 1 c.if-size-eq1.true
    ∙ leaf-parless (sort_at s.records.now s.places.now s.count c.args.k) is c.if-size-eq1.true

pub returns-else-size-eq1-clause-answer : goal.returns-else-size-eq1-clause-answer
returns-else-size-eq1-clause-answer c = (walked c).0

pub returns-else-size-eq1-clause-noted : goal.returns-else-size-eq1-clause-noted
returns-else-size-eq1-clause-noted c = (walked c).1
