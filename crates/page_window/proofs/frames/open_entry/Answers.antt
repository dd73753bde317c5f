-- The word and what stands behind it are the head of the text, and the frame has the rest.
-- The head has at most 455 bytes, so it fits.
use Rattle.std.proofs.Common.{arith}
use Rattle.record.specs.Codec.{Bytes}
use Rattle.printout_sort.specs.TreeLaws.{inner-asks}
use Rattle.printout_sort.specs.Wrote.{wrote_as}
use Rattle.page_window.specs.FrameLaws.{word_fits, inner-fits, open_is}
use Rattle.page_window.proofs.frames.open_entry.Goals as goal

pub put-requires : goal.put-requires
put-requires c =
    let bytes : Bytes c.args.records.now = λ i. omega (arith, c.type_inv.records i) in
    let e = c.requires.entry _ c.requires.asks.asks.stored (omega arith) in
    rw c.word.ensures (word_fits c.requires.asks.asks e c.form_of-form.ensures bytes c.args.out.now.bytes.now c.args.out.now.end c.requires.asks)

pub put_inner-requires-clause-asks : goal.put_inner-requires-clause-asks
put_inner-requires-clause-asks c = inner-asks c.requires.asks.asks (c.requires.entry _ c.requires.asks.asks.stored (omega arith)) c.form_of-form.ensures

pub put_inner-requires-clause-room : goal.put_inner-requires-clause-room
put_inner-requires-clause-room c =
    let bytes : Bytes c.args.records.now = λ i. omega (arith, c.type_inv.records i) in
    let e = c.requires.entry _ c.requires.asks.asks.stored (omega arith) in
    inner-fits c.requires.asks.asks e c.form_of-form.ensures bytes c.requires.asks (wrote_as c.word.ensures c.put.ensures.put)

pub returns-clause-open : goal.returns-clause-open
returns-clause-open c =
    let bytes : Bytes c.args.records.now = λ i. omega (arith, c.type_inv.records i) in
    let e = c.requires.entry _ c.requires.asks.asks.stored (omega arith) in
    open_is c.requires.asks.asks e c.form_of-form.ensures bytes _ (wrote_as c.word.ensures c.put.ensures.put) c.put_inner.ensures.put c.new.ensures
