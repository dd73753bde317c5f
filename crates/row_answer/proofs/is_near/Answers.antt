-- Whether a number is that of a record's sort: its record has the same fields.
use Rattle.std.proofs.Common.{ap, ◌∙◌}
use Rattle.record.specs.Record.{sort_of}
use Rattle.record.specs.StoreLaws.{sort-node}
use Rattle.store.specs.Words.{store_in}
use Rattle.row_answer.proofs.is_near.Goals as goal

pub returns-then-near-store : goal.returns-then-near-store
returns-then-near-store c =
    let s = c.args.store.now in
    let l = c.if-near-store.true in
    let only = rw (c.entries.ensures.records, c.entries.ensures.places) at c.record_is.ensures.only in
    λ e. (l, sort-node s.records.now s.places.now s.count c.args.near c.requires.good.stored l ∙ ap (sort_of (store_in s)) (only e))
