use Rattle.std.proofs.Common.{arith, length}
use Rattle.apply_walk.proofs.DraftLaws.{list-start, list-more, list-end, byte-room}
use Rattle.apply_walk.proofs.build.Draft.put_list.Goals as goal

pub loop-v-init : goal.loop-v-init
loop-v-init c = list-start c.in-Some.numbers.now c.put_byte.new.self

pub put_word-requires-clause-room : goal.put_word-requires-clause-room
put_word-requires-clause-room c =
    omega (arith, rw c.in-Some.is at c.requires.few, c.loop-v.invariant.room, byte-room c.args.self.now (length c.in-Some.numbers.now) c.put_byte.ensures)

pub loop-v-preserved : goal.loop-v-preserved
loop-v-preserved c = list-more c.loop-v.invariant c.loop-v-test.true c.from.ensures c.put_word.ensures

pub returns : goal.returns
returns c = rw c.in-Some.is (list-end c.args.self.now c.loop-v.invariant (omega arith) c.put_byte.ensures)
