-- Whether a number is that of a kind without fields: then its kind tells.
use Rattle.std.proofs.Common.{sym, ◌∙◌}
use Rattle.matching_tables.specs.KindTests.{kind-is}
use Rattle.record.specs.Kinds.{sort_number}
use Rattle.row_answer.specs.StoredKinds.{kind-plain}
use Rattle.row_answer.proofs.is_leaf.Goals as goal

pub returns-then-near-store : goal.returns-then-near-store
returns-then-near-store c e =
    let s = c.args.store.now in
    let l = c.if-near-store.true in (
      l,
      kind-plain s.records.now s.places.now s.count c.args.near s.good.stored l (sort_number c.args.kind) c.requires.map
          (sym (c.kind.ensures s.count s.good.stored l) ∙ kind-is c.kind.result c.args.kind c.eq.ensures e),
    )
