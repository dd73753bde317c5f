-- Each way through is one case of the definition, for every list of names that the table lists.
-- Both tables of the map are zeros again.
use mathlib.Core.Path.{ap, refl, ◌∙◌}
use mathlib.Core.Bool.{not}
use Rattle.matching_tables.specs.MapLaws.{found-fits, found-misfits}
use Rattle.questions.proofs.MatchLaws.{mapped-by, result-asks, listed-barred, listed-fits, listed-misfits}
use Rattle.questions.proofs.matched.match_listed.Goals as goal

pub returns-then-not-all_in_premise-clause-answer : goal.returns-then-not-all_in_premise-clause-answer
returns-then-not-all_in_premise-clause-answer c =
    let s = c.sorts-sorts.ensures in
    let q = rw (c.start.ensures, s.records, s.places, s.count) at c.all_in_premise.ensures in
    rw c.start.ensures (listed-barred c.requires q (ap not c.if-not-all_in_premise.true) refl, refl)

pub clear-requires : goal.clear-requires
clear-requires c =
    let s = c.sorts-sorts.ensures in
    let w = rw (c.give.ensures.params, c.start.ensures, s.records, s.places, s.count) at c.matches.ensures.answer in
    (mapped-by c.requires c.give.ensures.given w (found-misfits _ c.if-not-matches.true)).tabled

pub returns-then-not-matches-clause-answer : goal.returns-then-not-matches-clause-answer
returns-then-not-matches-clause-answer c =
    let s = c.sorts-sorts.ensures in
    let q = rw (c.start.ensures, s.records, s.places, s.count) at c.all_in_premise.ensures in
    let w = rw (c.give.ensures.params, c.start.ensures, s.records, s.places, s.count) at c.matches.ensures.answer in (
      listed-misfits c.requires c.give.ensures.given w q (ap not c.if-not-all_in_premise.false) c.clear.ensures.cleared
          (found-misfits _ c.if-not-matches.true) refl,
      c.clear.ensures.params ∙ c.matches.ensures.params ∙ (rw c.start.ensures at c.give.ensures.params),
    )

pub instance-made-requires : goal.instance-made-requires
instance-made-requires c =
    let s = c.sorts-sorts.ensures in
    let w = rw (c.give.ensures.params, c.start.ensures, s.records, s.places, s.count) at c.matches.ensures.answer in
    result-asks c.requires c.give.ensures.given w (found-fits _ c.if-not-matches.false)

pub clear-requires-2 : goal.clear-requires-2
clear-requires-2 c =
    let s = c.sorts-sorts.ensures in
    let w = rw (c.give.ensures.params, c.start.ensures, s.records, s.places, s.count) at c.matches.ensures.answer in
    (mapped-by c.requires c.give.ensures.given w (found-fits _ c.if-not-matches.false)).tabled

pub returns-clause-answer : goal.returns-clause-answer
returns-clause-answer c =
    let s = c.sorts-sorts.ensures in
    let t = c.instance-made.new.store in
    let q = rw (c.start.ensures, s.records, s.places, s.count) at c.all_in_premise.ensures in
    let w = rw (c.give.ensures.params, c.start.ensures, s.records, s.places, s.count) at c.matches.ensures.answer in (
      listed-fits c.requires c.give.ensures.given w q (ap not c.if-not-all_in_premise.false) c.clear-2.ensures.cleared
          (found-fits _ c.if-not-matches.false) t.records.now t.places.now t.index.now _ c.instance-made.ensures.answer,
      c.clear-2.ensures.params ∙ c.matches.ensures.params ∙ (rw c.start.ensures at c.give.ensures.params),
    )
