-- The columns of the sort, or none, for every count of the store: a Set has one part, and the columns are the list of the Tuple there.
use Rattle.std.proofs.Common.{◌≡◌, refl, arith}
use Rattle.record.specs.Kinds.{sort_number}
use Rattle.record.specs.declared.kinds.SortKind.TheVariants.{Set}
use Rattle.matching_tables.specs.KindTests.{kinds-same}
use Rattle.infer_operator.proofs.RelationLaws.{inner-place, inner-entry, columns-by}
use Rattle.infer_operator.proofs.relations.columns_of.Goals as goal
use Rattle.infer_operator.proofs.relations.columns_of.Goals.{Else-ne}

is-set : (c : Else-ne) → sort_number c.entry-set.result.kind ≡ 14
is-set c = kinds-same c.entry-set.result.kind Set c.if-ne.ensures refl

pub get-requires : goal.get-requires
get-requires c = omega (arith, inner-place c.entry-set.result c.entry-set.ensures (is-set (goal.at.get-requires c).Else-ne) c.requires)

pub entry-inner-requires : goal.entry-inner-requires
entry-inner-requires c = inner-entry c.entry-set.result c.entry-set.ensures (is-set (goal.at.entry-inner-requires c).Else-ne) c.get.ensures.value c.requires

pub returns : goal.returns
returns c =
    let set = is-set (goal.at.returns c).Else-ne in
    rw c.then_some.ensures (columns-by c.entry-set.result c.entry-set.ensures set c.get.ensures.value c.entry-inner.result c.entry-inner.ensures c.eq.result c.eq.ensures)
