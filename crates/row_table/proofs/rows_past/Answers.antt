use Rattle.std.proofs.Common.{arith, refl, ◌∙◌}
use Rattle.row_table.proofs.TableLaws.{tabling-start, turn-asks, tabling-step, tabling-end}
use Rattle.row_table.proofs.rows_past.Goals as goal

pub loop-t-init : goal.loop-t-init
loop-t-init c = ((refl, refl, refl), (refl, refl, refl), tabling-start c.requires.asked, c.requires.past, (refl, refl), (refl, refl), refl)

pub term_rows-requires-clause-asked : goal.term_rows-requires-clause-asked
term_rows-requires-clause-asked c = turn-asks c.requires.asked c.loop-t.invariant.2 c.loop-t-test.true

pub term_rows-requires-clause-past : goal.term_rows-requires-clause-past
term_rows-requires-clause-past c = c.loop-t.invariant.3

pub loop-t-preserved : goal.loop-t-preserved
loop-t-preserved c =
    let i = c.loop-t.invariant in
    let w = c.term_rows.new in
    let e = c.term_rows.ensures in (
      (e.same.0 ∙ i.0.0, e.same.1 ∙ i.0.1, e.same.2 ∙ i.0.2),
      (e.names.0 ∙ i.1.0, e.names.1 ∙ i.1.1, e.names.2 ∙ i.1.2),
      tabling-step c.requires.asked i.2 c.loop-t-test.true w.store.records.now w.store.places.now w.store.index.now w.names.params.now w.names.images.now w.names.bound.now w.rows _ e.rows,
      e.past,
      (e.same_past.0 ∙ i.4.0, e.same_past.1 ∙ i.4.1),
      (e.args.0 ∙ i.5.0, e.args.1 ∙ i.5.1),
      e.guesses ∙ i.6,
    )

pub returns-clause-same : goal.returns-clause-same
returns-clause-same c = c.loop-t.invariant.0

pub returns-clause-names : goal.returns-clause-names
returns-clause-names c = c.loop-t.invariant.1

pub returns-clause-rows : goal.returns-clause-rows
returns-clause-rows c = tabling-end c.requires.asked c.loop-t.invariant.2 (omega (arith, c.loop-t.auto.t-end, c.loop-t-test.false))

pub term_rows-requires-clause-room : goal.term_rows-requires-clause-room
term_rows-requires-clause-room c = omega (arith, c.requires.room, c.loop-t.invariant.5.1)

pub returns-clause-args : goal.returns-clause-args
returns-clause-args c = c.loop-t.invariant.5

pub returns-clause-past : goal.returns-clause-past
returns-clause-past c = c.loop-t.invariant.3

pub returns-clause-same_past : goal.returns-clause-same_past
returns-clause-same_past c = c.loop-t.invariant.4

pub term_rows-requires-clause-guesses : goal.term_rows-requires-clause-guesses
term_rows-requires-clause-guesses c = c.loop-t.invariant.6 ∙ c.requires.guesses

pub returns-clause-guesses : goal.returns-clause-guesses
returns-clause-guesses c = c.loop-t.invariant.6
