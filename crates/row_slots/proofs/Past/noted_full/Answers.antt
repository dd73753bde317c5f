-- What the slot of the inferred column recalls is said by the table.
-- It is the code of a row without room.
use Rattle.std.proofs.Common.{rules, tests}
use Rattle.row_slots.specs.Slots.{no_room, slot_number}
use Rattle.row_slots.proofs.SlotLaws.{recalled-said, recalled_as, slot-column}
use Rattle.row_slots.proofs.Past.noted_full.Goals as goal

pub returns : goal.returns
returns c =
    let past = c.args.self.now.bytes.now in
    let a = c.args.args.now.bytes.now in
    let n = c.args.args.now.count in
    let m = slot_number 0 a n in
    λ e.
    let z = recalled_as c.recalled.result c.is_some_and.result no_room c.is_some_and.ensures e (λ row k. search (rules, tests)) in
    record {
      slot = m;
      side = slot-column 0 a n;
      says = recalled-said past a c.slot_of-at.result n c.recalled.result c.recalled.ensures z m c.slot_of-at.ensures;
    }
