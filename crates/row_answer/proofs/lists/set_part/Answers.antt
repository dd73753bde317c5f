-- The part of a near Set: a Set has one part, and is the Set of its sort.
use Rattle.std.proofs.Common.{ℕ, refl, sym, ap, ◌∙◌}
use Rattle.record.specs.Sort.{set}
use Rattle.record.specs.declared.kinds.SortKind.TheVariants.{Set}
use Rattle.store.specs.Words.{sort_in}
use Rattle.matching_tables.specs.KindTests.{kinds-same}
use Rattle.row_answer.specs.SetParts.{part-place, part-sort}
use Rattle.row_answer.proofs.lists.set_part.Goals as goal

pub number-requires : goal.number-requires
number-requires c =
    let r = c.entry-outer.result in
    part-place r c.entry-outer.ensures (kinds-same r.kind Set c.if-ne.ensures refl) c.args.store.now.good.stored c.if-store-near.false

pub returns : goal.returns
returns c =
    let r = c.entry-outer.result in
    let s = c.args.store.now in (
      c.if-store-near.false,
      part-sort r c.entry-outer.ensures (kinds-same r.kind Set c.if-ne.ensures refl) s.good.stored c.if-store-near.false
          ∙ ap (λ (i : ℕ). set (sort_in s i)) (sym c.number.ensures.value),
    )
