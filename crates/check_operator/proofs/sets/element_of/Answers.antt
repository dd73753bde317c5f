-- The element of a Set, or none: a Set has one part.
use Rattle.std.proofs.Common.{refl, ◌≡◌, arith}
use Rattle.record.specs.Kinds.{sort_number}
use Rattle.record.specs.declared.kinds.SortKind.TheVariants.{Set}
use Rattle.matching_tables.specs.KindTests.{kinds-same, kinds-differ}
use Rattle.check_operator.proofs.SetEntries.{element-none, element-some}
use Rattle.row_answer.specs.SetParts.{part-place}
use Rattle.check_operator.proofs.sets.element_of.Goals as goal
use Rattle.check_operator.proofs.sets.element_of.Goals.{Else-ne}

is-set : (c : Else-ne) → sort_number c.entry-set.result.kind ≡ 14
is-set c = kinds-same c.entry-set.result.kind Set c.if-ne.ensures refl

pub returns-then-ne : goal.returns-then-ne
returns-then-ne c = element-none c.entry-set.result c.entry-set.ensures (kinds-differ c.entry-set.result.kind Set c.if-ne.ensures refl)

pub get-requires : goal.get-requires
get-requires c =
    let (n, h) = c.requires in
    omega (arith, part-place c.entry-set.result c.entry-set.ensures (is-set (goal.at.get-requires c).Else-ne) h.stored h.known)

pub returns : goal.returns
returns c = element-some c.entry-set.result c.entry-set.ensures (is-set (goal.at.returns c).Else-ne) c.get.ensures.value
