-- Whether no sort of the list is a Par.
-- Each number is one of an entry, whose kind decides.
use Rattle.std.proofs.Common.{true, false, rules}
use Rattle.std.proofs.lemmas.Iterator.{cases_from_all}
use Rattle.std.proofs.lemmas.Iterator.Adapters.{serves_from_places}
use Rattle.record.specs.Number.{numbers_at}
use Rattle.record.specs.Numbers.{numbers-yield}
use Rattle.row_answer.proofs.ItemLaws.{number-place}
use Rattle.row_answer.proofs.ValueLaws.{value-asks, values-by}
use Rattle.row_answer.specs.Values.{Valued}
use Rattle.row_answer.proofs.values.all_values.Goals as goal

pub all-requires-clause-callable : goal.all-requires-clause-callable
all-requires-clause-callable c =
    let a = c.args in
    serves_from_places (numbers-yield (numbers_at a.bytes.now a.list.at a.list.count) c.numbers.ensures) (λ x q k. search rules)
    (λ x k l e.
    let o = number-place a.bytes.now a.list.at a.list.count x k l e in
    let h = value-asks c.requires k o.0 o.1 in
    search rules)

pub returns : goal.returns
returns c =
    let a = c.args in
    let b = a.entries.records.now in
    let p = a.entries.places.now in
    values-by c.all.result
    (cases_from_all c.all.new.self _ c.all.result (Valued b p true) (Valued b p false) c.all.ensures.ran (numbers-yield (numbers_at a.bytes.now a.list.at a.list.count) c.numbers.ensures)
    (λ x q k. search rules)
    (λ x q k. search rules))
