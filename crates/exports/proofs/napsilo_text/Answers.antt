-- The piece is that of `text`, and its end is returned.
-- The newlines written tell the next line.
use Rattle.exports.specs.ExportLaws.{end_is}
use Rattle.exports.proofs.napsilo_text.Goals as goal

pub returns : goal.returns
returns c = end_is c.args.sheet.now c.args.from c.args.out.now c.text.new.out c.text.result c.text.ensures
