-- The piece is that of `pages`, and its end is returned.
-- The newlines written tell the next line.
use Rattle.exports.specs.ExportLaws.{page-end-is}
use Rattle.exports.proofs.napsilo_page_text.Goals as goal

pub returns : goal.returns
returns c = page-end-is c.args.sheet.now c.args.from c.args.out.now c.pages.new.out c.pages.result c.pages.ensures
