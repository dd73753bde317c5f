-- A table without notes says the truth, whatever its length.
-- What is said of the rows is `rows_past`'s promise.
use Rattle.row_slots.specs.Slots.{table_size}
use Rattle.row_memo.specs.PastLaws.{past-none}
use Rattle.row_table.proofs.rows_all.Goals as goal

pub rows_past-requires-else-names-lt-NAMES-clause-past : goal.rows_past-requires-else-names-lt-NAMES-clause-past
rows_past-requires-else-names-lt-NAMES-clause-past c =
    let s = c.args.store.now in
    past-none s.records.now s.places.now s.count table_size
