-- The result is that of the definition's `read_terms`, whatever the sorts are, and each record stands at its place.
-- `read_each` reads them, and what it is given reads the term record at a cursor.
use Rattle.std.proofs.Common.{arith, rules, length}
use Rattle.sheet.proofs.PassLaws.{term-place, terms-read}
use Rattle.sheet.proofs.terms.read_terms.Goals as goal

pub read_each-requires-clause-fits : goal.read_each-requires-clause-fits
read_each-requires-clause-fits c = let a = c.args in
    λ x d i r h. omega (arith, term-place a.s.now a.sorts i x.at (λ j. omega (arith, c.type_inv.s j)) r d (search rules), c.requires.short)

pub returns : goal.returns
returns c = let a = c.args in
    terms-read a.s.now (λ j. omega (arith, c.type_inv.s j)) a.sorts (λ x i r h. search rules) c.requires.within c.read_each.new.places (length a.terms.now) c.read_each.result c.read_each.ensures
