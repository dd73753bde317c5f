-- The loop keeps: the store and the first answers are the definition's, and behind them stands what stood there.
-- A turn adds one answer more.
use Rattle.store.specs.Changes.{Same}
use Rattle.matching_tables.specs.Names.{SameNames}
use Rattle.questions.specs.All.{Answering}
use Rattle.questions.proofs.all.answer_all.Given as goal

abbrev pub invariant-loop-q : goal.invariant-loop-q
invariant-loop-q l =
    Same l.initial.store l.store × SameNames l.initial.names l.names
    × Answering l.initial.store.records.now l.initial.store.places.now l.initial.store.count l.initial.names.params.now l.initial.names.images.now l.initial.names.bound.now
    l.sheet.bytes.now l.sheet.table.now l.sheet.sorts l.asked l.initial.answers
    l.store.records.now l.store.places.now l.store.index.now l.names.params.now l.names.images.now l.names.bound.now l.answers l.store.count l.store.used l.q
