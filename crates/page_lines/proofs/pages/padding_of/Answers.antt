-- The number is the one that the definition computes.
-- Nothing else is asked.
use Rattle.page_lines.specs.PageLaws.{padding-is}
use Rattle.page_lines.proofs.pages.padding_of.Goals as goal

pub returns : goal.returns
returns c =
    let a = c.args in
    padding-is a.lines
