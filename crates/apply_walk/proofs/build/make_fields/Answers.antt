-- The record is the one of these fields, and interning it interns their sort.
use Rattle.std.proofs.Common.{◌∙◌}
use Rattle.apply_walk.proofs.MakeLaws.{make-fit, rec-fresh, make-intern, make-made}
use Rattle.apply_walk.proofs.build.make_fields.Goals as goal

pub put_fields-requires-clause-fit : goal.put_fields-requires-clause-fit
put_fields-requires-clause-fit c = make-fit c.requires

pub tree_size-weight-requires : goal.tree_size-weight-requires
tree_size-weight-requires c = rec-fresh c.requires (c.as_slice-record.ensures.value ∙ c.put_fields.ensures)

pub intern-requires : goal.intern-requires
intern-requires c = make-intern c.requires (c.as_slice-record.ensures.value ∙ c.put_fields.ensures) c.tree_size-weight.result c.tree_size-weight.ensures

pub returns-clause-made : goal.returns-clause-made
returns-clause-made c = let d = c.intern.new.self in
    make-made c.requires (c.as_slice-record.ensures.value ∙ c.put_fields.ensures) d.records.now d.places.now d.index.now d.count d.used c.intern.result c.intern.ensures.interned
