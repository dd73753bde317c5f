use Rattle.std.proofs.Common.{arith}
use Rattle.matching_each.proofs.EachLaws.{each-go, each-so, each-asks, go-rest, go-parts, each-less, each-down, each-turn, emptied, parts-list, so-end, so-fails, so-alone, so-last, so-stop, so-more, so-noted}
use Rattle.matching_each.proofs.each.+all_each.Goals as goal
use Rattle.matching_each.proofs.each.+all_each.Goals.{then-a-eq0-via-then-a-eq0, then-a-eq0-via-else-a-eq0+then-is_noted}

pub loop-k-init : goal.loop-k-init
loop-k-init g t c = (each-go c.requires.list c.numbers-left.ensures, each-so _ _ c.numbers-left.ensures)

pub passes-requires : goal.passes-requires
passes-requires g t c =
    let one = each-asks c.loop-k.invariant.0 c.in-Some.ensures.steps in
    c.requires.asked c.entry-a.result c.in-Some.k one c.entry-a.ensures

pub returns-then-not-passes : goal.returns-then-not-passes
returns-then-not-passes g t c =
    let v = c.loop-k.invariant in
    let e = c.in-Some.ensures.steps in
    so-fails v.1 e (each-asks v.0 e) c.entry-a.ensures c.passes.ensures c.if-not-passes.true

pub is_noted-requires : goal.is_noted-requires
is_noted-requires g t c =
    let one = each-asks c.loop-k.invariant.0 c.in-Some.ensures.steps in
    omega (arith, one.known, one.usable.count)

pub loop-k-smaller-then-a-eq0 : goal.loop-k-smaller-then-a-eq0
loop-k-smaller-then-a-eq0 g t c = each-less c.loop-k.invariant.0 c.in-Some.ensures.steps c.entry-a.ensures

pub loop-k-preserved-then-a-eq0 : goal.loop-k-preserved-then-a-eq0
loop-k-preserved-then-a-eq0 g t c =
    let v = c.loop-k.invariant in
    let e = c.in-Some.ensures.steps in
    let one = each-asks v.0 e in (
      go-rest v.0 e,
      elim c.then-a-eq0.branch [
        | then-a-eq0-via-then-a-eq0 w ↦ so-alone v.1 e one c.entry-a.ensures c.passes.ensures c.if-not-passes.false w.if-a-eq0.true
        | then-a-eq0-via-else-a-eq0+then-is_noted w ↦ so-noted v.1 e _ (w.is_noted.ensures w.if-is_noted.true)
      ],
    )

pub loop-k-smaller-then-is_empty : goal.loop-k-smaller-then-is_empty
loop-k-smaller-then-is_empty g t c =
    each-turn c.loop-k.invariant.0 c.in-Some.ensures.steps c.entry-a.ensures c.numbers-left-then-is_empty.ensures

pub loop-k-preserved-then-is_empty : goal.loop-k-preserved-then-is_empty
loop-k-preserved-then-is_empty g t c =
    let v = c.loop-k.invariant in
    let e = c.in-Some.ensures.steps in (
      go-parts v.0 e c.entry-a.ensures c.numbers-left-then-is_empty.ensures,
      so-last v.1 e (each-asks v.0 e) c.entry-a.ensures c.passes.ensures c.if-not-passes.false (emptied c.next.new.self c.is_empty.ensures c.if-is_empty.true) c.numbers-left-then-is_empty.ensures,
    )

pub all_each-requires : goal.all_each-requires
all_each-requires g t c κs l =
    let v = c.loop-k.invariant.0 in
    let e = c.in-Some.ensures.steps in
    let h = each-down v e c.entry-a.ensures in
    (omega (arith, h, v.less), (l, record { list = parts-list v e c.entry-a.ensures; asked = c.requires.asked }))

pub returns-then-not-all_each : goal.returns-then-not-all_each
returns-then-not-all_each g t c =
    let v = c.loop-k.invariant in
    let e = c.in-Some.ensures.steps in
    so-stop v.1 e (each-asks v.0 e) c.entry-a.ensures c.passes.ensures c.if-not-passes.false c.all_each.ensures c.if-not-all_each.true

pub note-requires : goal.note-requires
note-requires g t c =
    let one = each-asks c.loop-k.invariant.0 c.in-Some.ensures.steps in
    omega (arith, one.known, one.usable.count)

pub loop-k-smaller : goal.loop-k-smaller
loop-k-smaller g t c = each-less c.loop-k.invariant.0 c.in-Some.ensures.steps c.entry-a.ensures

pub loop-k-preserved : goal.loop-k-preserved
loop-k-preserved g t c =
    let v = c.loop-k.invariant in
    let e = c.in-Some.ensures.steps in
    (go-rest v.0 e, so-more v.1 e (each-asks v.0 e) c.entry-a.ensures c.passes.ensures c.if-not-passes.false c.all_each.ensures c.if-not-all_each.false c.note.ensures)

pub returns : goal.returns
returns g t c = so-end c.loop-k.invariant.1 c.in_default.ensures.steps.0
