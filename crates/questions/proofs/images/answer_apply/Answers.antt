-- The filled table stands for the definition's map, and the instance is the answer for every such map.
-- Emptied, the table is zeros again.
use Rattle.std.proofs.Common.{arith, refl}
use Rattle.questions.specs.Asked.{sort-known}
use Rattle.questions.proofs.ApplyLaws.{fill-asks, replace-asks, apply-is}
use Rattle.questions.proofs.images.answer_apply.Goals as goal

pub fill_images-requires : goal.fill_images-requires
fill_images-requires c = fill-asks c.requires

pub instance-made-requires : goal.instance-made-requires
instance-made-requires c =
    let a = c.args in
    let k = c.sort_at.result in
    let q = a.question in
    replace-asks c.requires c.fill_images.ensures k (sort-known a.store.now.count a.sheet.now.bytes.now a.sheet.now.table.now q c.requires.asked 0 q.list.at (omega (arith, c.requires.count)) (omega arith) k c.sort_at.ensures)

pub returns-clause-answer : goal.returns-clause-answer
returns-clause-answer c =
    let t = c.instance-made.new.store in
    (apply-is c.requires c.fill_images.ensures c.sort_at.ensures t.records.now t.places.now t.index.now _ c.instance-made.ensures.answer c.empty_images.ensures, refl, refl)
