-- A listed name is met; another variable is compared by number.
use Rattle.matching_tables.specs.Matched.{found}
use Rattle.matching_tables.specs.TableLaws.{look-some, look-none}
use Rattle.matching.proofs.PlainLaws.{var-listed, var-number}
use Rattle.matching.proofs.matches_var.Goals as goal

pub returns-then-is_listed-clause-answer : goal.returns-then-is_listed-clause-answer
returns-then-is_listed-clause-answer c =
    let a = c.args in
    let s = a.names.now in
    let z = c.meet.new.self in
    let h = look-some s.params.now a.name c.is_listed.ensures c.if-is_listed.true in
    var-listed s.params.now s.images.now s.bound.now s.many a.name a.p a.t h z.images.now z.bound.now (found z.many c.meet.result) c.meet.ensures.answer

pub returns-clause-answer : goal.returns-clause-answer
returns-clause-answer c =
    let a = c.args in
    let s = a.names.now in
    var-number s.params.now s.images.now s.bound.now s.many a.name a.p a.t (look-none s.params.now a.name c.is_listed.ensures c.if-is_listed.false)
