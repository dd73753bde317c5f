-- The arms of match_with by the entry of the target.
use Rattle.std.proofs.Common.{arith, sym, ◌∙◌}
use Rattle.record.specs.declared.kinds.SortKind.TheVariants.{Par as SortPar}
use Rattle.matching_tables.specs.KindTests.{kind-is, kind-not, kinds-differ, kinds-same}
use Rattle.matching_tables.specs.Entered.{entry-names, entry-one, entry-refs}
use Rattle.matching_with.proofs.CompatibleLaws.{at-start}
use Rattle.matching_with.proofs.TurnLaws.{turn-shut, turn-through, turn-param, turn-kinds, turn-other, turn-both}
use Rattle.matching_with.proofs.node_turn.Goals as goal

pub all_listed-requires : goal.all_listed-requires
all_listed-requires c =
    let s = c.args.sorts.now in
    let u = c.requires.turn.pair in
    record { table = c.requires.turn.table; within = entry-names s.records.now s.places.now s.count c.args.t u.usable u.right c.entry-c.result c.entry-c.ensures }

pub get-requires : goal.get-requires
get-requires c =
    let s = c.args.sorts.now in
    let u = c.requires.turn.pair in
    let q = c.entry-c.result in
    omega (arith, (entry-refs s.records.now s.places.now s.count c.args.t u.usable u.right q c.entry-c.ensures).within, entry-one s.records.now s.places.now s.count c.args.t u.usable u.right q c.entry-c.ensures (kind-is q.kind SortPar c.eq.ensures c.if-eq.true))

pub returns-then-all_listed : goal.returns-then-all_listed
returns-then-all_listed c =
    let q = c.entry-c.result in
    turn-through c.requires c.entry-c.ensures (kind-is q.kind SortPar c.eq.ensures c.if-eq.true) c.all_listed.ensures c.if-all_listed.true (at-start c.args.sorts.now.records.now q.parts.at c.get.ensures.value)

pub returns-then-eq : goal.returns-then-eq
returns-then-eq c =
    let q = c.entry-c.result in
    turn-shut c.requires c.entry-c.ensures (kind-is q.kind SortPar c.eq.ensures c.if-eq.true) c.all_listed.ensures c.if-all_listed.false

pub returns-then-param_eq : goal.returns-then-param_eq
returns-then-param_eq c =
    let q = c.entry-c.result in
    turn-param c.requires c.entry-c.ensures (kind-not q.kind SortPar c.eq.ensures c.if-eq.false) (kinds-differ c.args.a.kind q.kind c.ne.ensures c.if-ne.true) c.param_eq.ensures c.if-param_eq.true

pub returns-then-ne : goal.returns-then-ne
returns-then-ne c =
    let q = c.entry-c.result in
    turn-kinds c.requires c.entry-c.ensures (kind-not q.kind SortPar c.eq.ensures c.if-eq.false) (kinds-differ c.args.a.kind q.kind c.ne.ensures c.if-ne.true) c.param_eq.ensures c.if-param_eq.false

pub returns-then-same_head : goal.returns-then-same_head
returns-then-same_head c =
    let q = c.entry-c.result in
    turn-both c.requires c.entry-c.ensures (kinds-same c.args.a.kind q.kind c.ne.ensures c.if-ne.false) (sym c.same_head.ensures ∙ c.if-same_head.true)

pub returns : goal.returns
returns c =
    let q = c.entry-c.result in
    turn-other c.requires c.entry-c.ensures (kinds-same c.args.a.kind q.kind c.ne.ensures c.if-ne.false) (sym c.same_head.ensures ∙ c.if-same_head.false)
