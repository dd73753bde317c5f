-- The body of a Par without names left is there, and so is a sort whose parts and names stay; any other is made over the
-- parts.
use Rattle.std.proofs.Common.{List, ℕ, ◌∙◌, sym, ap, subst}
use Rattle.record.specs.Number.{numbers_at}
use Rattle.apply_walk.specs.Lists.{NamesKeptAsk, SameAsks}
use Rattle.apply_walk.proofs.RebuildLaws.{rebuild-names-ask, rebuild-some, rebuild-gone, rebuild-same-asks, rebuild-same, rebuild-asks, rebuild-made}
use Rattle.apply_walk.proofs.rebuild.Goals as goal

pub names_left-requires-clause-asks : goal.names_left-requires-clause-asks
names_left-requires-clause-asks c =
    subst (λ (bs : List ℕ). NamesKeptAsk bs c.entry-e.result.names.at c.entry-e.result.names.count c.args.images.now) (sym c.entries.ensures.records) (rebuild-names-ask c.requires c.entry-e.ensures)

pub bounds-parts-0 : goal.bounds-parts-0
bounds-parts-0 c =
    rebuild-some c.requires c.entry-e.ensures c.entries.ensures.records c.new-left.ensures c.names_left.ensures c.as_slice-names.ensures.value (sym c.wrapper_goes.ensures ∙ c.if-wrapper_goes.true)

pub returns-then-wrapper_goes-clause-made : goal.returns-then-wrapper_goes-clause-made
returns-then-wrapper_goes-clause-made c =
    rebuild-gone c.requires c.entry-e.ensures c.entries.ensures.records c.new-left.ensures c.names_left.ensures c.as_slice-names.ensures.value (sym c.wrapper_goes.ensures ∙ c.if-wrapper_goes.true) c.from.ensures

pub same_numbers-requires : goal.same_numbers-requires
same_numbers-requires c =
    subst (λ (bs : List ℕ). SameAsks bs c.entry-e.result.parts.at c.entry-e.result.parts.count c.args.parts.now) (sym c.entries.ensures.records) (rebuild-same-asks c.requires c.entry-e.ensures)

pub returns-then-same_numbers-clause-made : goal.returns-then-same_numbers-clause-made
returns-then-same_numbers-clause-made c =
    rebuild-same c.requires c.entry-e.ensures c.entries.ensures.records c.new-left.ensures c.names_left.ensures c.as_slice-names.ensures.value (sym c.wrapper_goes.ensures ∙ c.if-wrapper_goes.false) c.if-kept-e.true (c.same_numbers.ensures.only c.if-same_numbers.true ∙ ap (λ (bs : List ℕ). numbers_at bs c.entry-e.result.parts.at c.entry-e.result.parts.count) c.entries.ensures.records)

pub make_fields-requires : goal.make_fields-requires
make_fields-requires c =
    rebuild-asks c.requires c.entry-e.ensures c.entries.ensures.records c.new-left.ensures c.names_left.ensures c.as_slice-names.ensures.value (sym c.wrapper_goes.ensures ∙ c.if-wrapper_goes.false)

pub returns-clause-made : goal.returns-clause-made
returns-clause-made c =
    let d = c.make_fields.new.store in
    rebuild-made c.requires c.entry-e.ensures c.entries.ensures.records c.new-left.ensures c.names_left.ensures c.as_slice-names.ensures.value (sym c.wrapper_goes.ensures ∙ c.if-wrapper_goes.false) d.records.now d.places.now d.index.now d.count d.used c.make_fields.result c.make_fields.ensures.made
