-- The loop keeps: the first terms have their rows, and what was noted of Apps is true.
-- A turn adds the rows of one term more.
use Rattle.std.specs.Prelude.{◌≡◌, length}
use Rattle.store.specs.Changes.{Same}
use Rattle.matching_tables.specs.Names.{SameNames}
use Rattle.row_slots.specs.Slots.{SamePast}
use Rattle.row_memo.specs.Words.{PastTrue}
use Rattle.row_answer.specs.Args.{SameArgs}
use Rattle.row_table.proofs.TableLaws.{Tabling}
use Rattle.row_table.proofs.rows_past.Given as goal

abbrev pub invariant-loop-t : goal.invariant-loop-t
invariant-loop-t l =
    Same l.initial.store l.store × SameNames l.initial.names l.names
    × Tabling l.initial.store.records.now l.initial.store.places.now l.initial.store.count l.initial.names.params.now l.initial.names.images.now l.initial.names.bound.now
    l.sheet.bytes.now l.sheet.table.now l.sheet.sorts l.sheet.starts.now l.initial.rows
    l.store.records.now l.store.places.now l.store.index.now l.names.params.now l.names.images.now l.names.bound.now l.rows l.store.count l.store.used l.t
    × PastTrue l.store l.past
    × SamePast l.initial.past l.past
    × SameArgs l.initial.args l.args
    × length l.guesses ≡ length l.initial.guesses
