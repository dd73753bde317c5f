-- Each name is looked up, until one is listed.
use Rattle.std.proofs.Common.{rules, arith, ◌≡◌, get_or}
use borrow.Author.Tests.{tests}
use Rattle.std.proofs.lemmas.Iterator.{cases_from_all}
use Rattle.record.specs.Number.{numbers_at}
use Rattle.record.specs.Numbers.{numbers-yield}
use Rattle.matching_tables.proofs.NamesLaws.{span-small, asked-of-numbers, none-answer}
use Rattle.matching_tables.proofs.names.Names.none_listed.Goals as goal

pub all-requires-clause-callable : goal.all-requires-clause-callable
all-requires-clause-callable c = let a = c.args in
    asked-of-numbers (span-small c.numbers.result a.bytes.now a.span.at a.span.count c.numbers.ensures (λ i. omega (arith, c.type_inv.bytes i))) (λ x o q r. search rules) (λ x l. search rules)

pub returns : goal.returns
returns c = let prm = c.args.self.now.params.now in
    let us = numbers_at c.args.bytes.now c.args.span.at c.args.span.count in
    none-answer prm us c.all.result (cases_from_all c.all.new.self _ c.all.result (λ v. get_or prm v 0 ≡ 0) (λ v. get_or prm v 0 ≡ 0 → ⊥) c.all.ensures.ran (numbers-yield us c.numbers.ensures)
    (λ x q k. search (rules, tests)) (λ x q k. search (rules, tests)))
