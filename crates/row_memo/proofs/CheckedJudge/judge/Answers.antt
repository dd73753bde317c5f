-- An App by `checked_app`, any other record by `check`.
use Rattle.std.proofs.Common.{◌≡◌, rules}
use Rattle.record.specs.Kinds.{term_number}
use Rattle.row_memo.proofs.RowLaws.{by-checked, app-asks, app-row}
use Rattle.row_memo.proofs.CheckedJudge.judge.Goals as goal

pub lacks_room-crowded-requires : goal.lacks_room-crowded-requires
lacks_room-crowded-requires c = c.requires.lack

pub checked_app-requires-clause-asked : goal.checked_app-requires-clause-asked
checked_app-requires-clause-asked c = rw c.requires.count (app-asks c.requires.site)

pub checked_app-requires-clause-crowded : goal.checked_app-requires-clause-crowded
checked_app-requires-clause-crowded c = c.requires.crowded c.lacks_room-crowded.result c.lacks_room-crowded.ensures

pub returns-then-eq-clause-row : goal.returns-then-eq-clause-row
returns-then-eq-clause-row c =
    let k : term_number c.args.term.kind ≡ 6 = search rules in
    by-checked (app-row c.requires.site k (rw c.requires.count at c.checked_app.ensures.answer))

pub returns-clause-row : goal.returns-clause-row
returns-clause-row c = by-checked c.check.ensures.answer
