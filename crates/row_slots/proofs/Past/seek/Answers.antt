-- What a slot recalls is said by the table.
-- Else the slot is opened.
use Rattle.row_answer.specs.Arguments.{column_number}
use Rattle.row_slots.specs.Slots.{slot_number}
use Rattle.row_slots.proofs.SlotLaws.{recalled-said, slot-column}
use Rattle.row_slots.proofs.Past.seek.Goals as goal

pub returns-in-Some-clause-sought : goal.returns-in-Some-clause-sought
returns-in-Some-clause-sought c =
    let past = c.args.self.now.bytes.now in
    let a = c.args.args.now.bytes.now in
    let n = c.args.args.now.count in
    let column = column_number c.args.column in
    let m = slot_number column a n in
    record {
      found = record { slot = m; side = slot-column column a n; says = recalled-said past a c.slot_of-at.result n c.recalled.result c.recalled.ensures c.in-Some.is m c.slot_of-at.ensures };
      less = λ slot key d x. x;
    }
