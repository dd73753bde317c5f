use Rattle.page_lines.specs.HeightLaws.{above-none, above_more}
use Rattle.page_lines.proofs.heights.find_row.Goals as goal

pub loop-row-init : goal.loop-row-init
loop-row-init c = above-none _ _

pub loop-row-preserved : goal.loop-row-preserved
loop-row-preserved c =
    above_more c.args.page.now.sizes.now c.args.page.now.rows.now c.args.from c.loop-row.row c.loop-row.line c.row_height-high.result c.loop-row.invariant
    c.row_height-high.ensures c.if-line-high.false
