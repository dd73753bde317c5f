-- The integer constant that the sheet names, by the place of its record.
use Rattle.std.proofs.Common.{◌+◌, ◌*◌}
use Rattle.row_answer.proofs.IndexLaws.{index_is}
use Rattle.row_answer.proofs.arguments.index_at.Goals as goal

pub returns : goal.returns
returns c =
    let s = c.args.sheet.now in
    index_is s.bytes.now s.starts.now (c.args.list.at + 2 * c.args.i) c.get-t.ensures.value c.constant_at.result c.constant_at.ensures.is c.constant_at.ensures.small
