-- The fit of an array, for every count of the store.
use Rattle.std.proofs.Common.{arith, refl}
use Rattle.check_operator.proofs.OperatedLaws.{array-over, array-rest, array-other, array_place, array-differs, array-selects, array-stores}
use Rattle.check_operator.proofs.op.fit_array.Goals as goal

pub returns-then-not-is_kind : goal.returns-then-not-is_kind
returns-then-not-is_kind c =
    λ n o. let f = array-over c.requires o in
    array-other f c.number-array.ensures.value c.is_kind.ensures c.if-not-is_kind.true

pub get-index-requires : goal.get-index-requires
get-index-requires c =
    let o = c.requires.args.over in
    let f = array-over c.requires o in
    omega (
      arith,
      array_place f c.number-array.ensures.value c.is_kind.ensures c.if-not-is_kind.false c.entry.result c.entry.ensures,
    )

pub get-element-requires : goal.get-element-requires
get-element-requires c =
    let o = c.requires.args.over in
    let f = array-over c.requires o in
    omega (
      arith,
      array_place f c.number-array.ensures.value c.is_kind.ensures c.if-not-is_kind.false c.entry.result c.entry.ensures,
    )

pub returns-then-number-index : goal.returns-then-number-index
returns-then-number-index c =
    λ n o. let f = array-over c.requires o in
    array-differs f c.number-array.ensures.value c.is_kind.ensures c.if-not-is_kind.false c.entry.result c.entry.ensures
    c.get-index.ensures.value c.get-element.ensures.value c.number.ensures.value c.if-number-index.true

pub returns-then-args-eq2 : goal.returns-then-args-eq2
returns-then-args-eq2 c =
    λ n o. let f = array-over c.requires o in
    array-selects f c.number-array.ensures.value c.is_kind.ensures c.if-not-is_kind.false c.entry.result c.entry.ensures
    c.get-index.ensures.value c.get-element.ensures.value c.number.ensures.value c.if-number-index.false c.if-args-eq2.true

pub returns : goal.returns
returns c =
    λ n o. let f = array-over c.requires o in
    array-stores f c.number-array.ensures.value c.is_kind.ensures c.if-not-is_kind.false c.entry.result c.entry.ensures
    c.get-index.ensures.value c.get-element.ensures.value c.number.ensures.value c.if-number-index.false (array-rest f c.if-args-eq2.false)
    c.number-2.ensures.value _ refl c.then_some.result c.then_some.ensures
