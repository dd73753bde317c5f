-- The lines over what `judge` left are those of the judgement, and each piece goes on, since the longest line fits the buffer.
use Rattle.printout_text.specs.LeftLaws.{piece-goes}
use Rattle.printout_text.specs.TextLaws.{lines_left}
use Rattle.printout_write.proofs.SheetLinesLines.show.Goals as goal

pub returns-clause-lines : goal.returns-clause-lines
returns-clause-lines c =
    let q = c.requires in
    let f = q.left in
    let r = c.show_lines-piece.ensures f.many f.good in
    lines_left _ _ _ _ _ _ _ f _ _ _ _ r
    (λ long more. piece-goes _ _ _ _ _ _ _ f.many f.good f.one q.ranges.bytes q.ranges.rows q.ranges.answers _ _ _ _ r more long)
