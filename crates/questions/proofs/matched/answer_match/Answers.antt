-- The names are listed in a table of zeros, and taken off again.
-- The three sorts are those of the question.
use Prim.Native.Nat.{ℕ}
use mathlib.Core.List.{List}
use mathlib.Core.Path.{subst}
use Rattle.record.specs.Number.{numbers_at}
use Rattle.matching_tables.specs.Tables.{Added}
use Rattle.questions.proofs.MatchLaws.{add-asks, match_is}
use Rattle.questions.proofs.matched.answer_match.Goals as goal

pub list-requires : goal.list-requires
list-requires c = add-asks c.requires

pub returns-clause-answer : goal.returns-clause-answer
returns-clause-answer c =
    let u = c.unlist.ensures in
    let l = c.list.ensures in
    let q = c.args.question.names in
    let w = c.match_listed-found.ensures.answer in
    let d = subst (λ (o : List ℕ). Added c.unlist.new.self.params.now (numbers_at c.args.sheet.now.bytes.now q.at q.count) o) w.1 u.unlisted in
    rw (u.map.0, u.map.1) (match_is c.requires l.listed c.sort_at-pattern.ensures c.sort_at-target.ensures c.sort_at-res.ensures (rw (l.map.0, l.map.1) at w.0) d)
