use Rattle.std.proofs.Common.{arith}
use Rattle.questions.specs.Fill.{filling-start, filling_step, filling-end}
use Rattle.questions.proofs.images.fill_images.Goals as goal

pub loop-i-init : goal.loop-i-init
loop-i-init c =
    let a = c.args in
    filling-start a.images.now a.sheet.now.bytes.now a.sheet.now.table.now a.names.at a.at a.names.count

pub loop-i-preserved : goal.loop-i-preserved
loop-i-preserved c =
    let a = c.args in
    let l = c.loop-i in
    filling_step a.images.now a.sheet.now.bytes.now a.sheet.now.table.now a.names.at a.at a.names.count l.images l.i c.get-name.result c.sort_at.result l.invariant c.loop-i-test.true c.get-name.ensures.value c.get-name.ensures.upper_bound c.sort_at.ensures

pub returns : goal.returns
returns c =
    let a = c.args in
    let l = c.loop-i in
    filling-end a.images.now a.sheet.now.bytes.now a.sheet.now.table.now a.names.at a.at a.names.count l.images l.i l.invariant (omega (arith, c.loop-i-test.false))
