-- Whether no row of the list is refused.
use Rattle.std.proofs.Common.{ℕ, ◌+◌, ◌*◌, ◌<◌, length, get_or, ltb, arith, rules, tests}
use Rattle.std.proofs.lemmas.Iterator.Search.{all_from_yields_List}
use Rattle.std.proofs.lemmas.Iterator.Adapters.{serves_from_places}
use Rattle.record.specs.Number.{numbers_at}
use Rattle.record.specs.Numbers.{numbers-yield}
use Rattle.row_answer.specs.Arguments.{column_number}
use Rattle.row_answer.proofs.ItemLaws.{number-place}
use Rattle.row_answer.proofs.JudgedLaws.{judged-by}
use Rattle.row_answer.proofs.arguments.all_judged.Goals as goal

pub all-requires-clause-callable : goal.all-requires-clause-callable
all-requires-clause-callable c =
    let a = c.args in
    let column = column_number a.column in
    serves_from_places (numbers-yield (numbers_at a.sheet.now a.list.at a.list.count) c.numbers.ensures) (λ x q k. search rules)
    (λ x k l e.
    let o = number-place a.sheet.now a.list.at a.list.count x k l e in
    let h : 2 * x + column < length a.rows.now = omega (arith, o.1, c.requires.row k o.0) in
    search rules)

pub returns : goal.returns
returns c =
    let a = c.args in
    let vs = numbers_at a.sheet.now a.list.at a.list.count in
    judged-by a.sheet.now a.list.at a.list.count a.rows.now (column_number a.column) c.all.result
    (all_from_yields_List (λ (t : ℕ). ltb (get_or a.rows.now (2 * t + column_number a.column) 0) 65536) c.all.new.self _ _ c.all.ensures.ran (numbers-yield vs c.numbers.ensures)
    (λ x b q k. search (rules, tests)))
