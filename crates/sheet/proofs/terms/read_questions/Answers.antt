-- The result is that of the definition's `read_questions`, whatever the sorts are, and each record stands at its place.
-- `read_each` reads them, and what it is given reads the question record at a cursor.
use Rattle.std.proofs.Common.{arith, rules, length}
use Rattle.sheet.proofs.PassLaws.{question-place, questions-read}
use Rattle.sheet.proofs.terms.read_questions.Goals as goal

pub read_each-requires-clause-fits : goal.read_each-requires-clause-fits
read_each-requires-clause-fits c = let a = c.args in
    λ x d i r h. omega (arith, question-place a.s.now a.sorts x.at r d (search rules), c.requires.short)

pub returns : goal.returns
returns c = let a = c.args in
    questions-read a.s.now a.sorts (λ x i r h. search rules) c.requires.within c.read_each.new.places (length a.questions.now) c.read_each.result c.read_each.ensures
