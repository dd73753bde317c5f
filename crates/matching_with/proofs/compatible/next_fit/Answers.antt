-- Each return is a case of the definition: by the entries of the two sorts, or by a pair that was noted.
use Rattle.std.proofs.Common.{arith, sym, ◌∙◌}
use Rattle.record.specs.declared.kinds.SortKind.TheVariants.{Var as SortVar, Par as SortPar}
use Rattle.matching_tables.specs.KindTests.{kind-is, kind-not}
use Rattle.matching_tables.specs.Words.{pair-in}
use Rattle.matching_tables.specs.Entered.{entry-one, entry-refs}
use Rattle.matching_with.proofs.CompatibleLaws.{BothNodes, fit-var, fit-par, fit-to-var, fit-to-par, fit-param, fit-other, fit-bare, fit-both, at-start}
use Rattle.matching_with.proofs.compatible.next_fit.Goals as goal
use Rattle.matching_with.proofs.compatible.next_fit.Goals.{Else-eq-4}

nodes : (c : Else-eq-4) → let s = c.args.sorts.now in BothNodes s.records.now s.places.now s.count c.args.p c.args.t c.entry-a.result c.entry-b.result
nodes c =
    record {
      pair = pair-in c.args.sorts.now c.requires.0 c.requires.1;
      left = c.entry-a.ensures;
      right = c.entry-b.ensures;
      left_var = kind-not c.entry-a.result.kind SortVar c.eq.ensures c.if-eq.false;
      left_par = kind-not c.entry-a.result.kind SortPar c.eq-2.ensures c.if-eq-2.false;
      right_var = kind-not c.entry-b.result.kind SortVar c.eq-3.ensures c.if-eq-3.false;
      right_par = kind-not c.entry-b.result.kind SortPar c.eq-4.ensures c.if-eq-4.false;
    }

pub returns-then-eq : goal.returns-then-eq
returns-then-eq c =
    fit-var (pair-in c.args.sorts.now c.requires.0 c.requires.1) c.entry-a.ensures (kind-is c.entry-a.result.kind SortVar c.eq.ensures c.if-eq.true)

pub get-requires : goal.get-requires
get-requires c =
    let s = c.args.sorts.now in
    let r = c.entry-a.result in
    let h = kind-is r.kind SortPar c.eq-2.ensures c.if-eq-2.true in
    omega (arith, entry-one s.records.now s.places.now s.count c.args.p s.usable c.requires.0 r c.entry-a.ensures h, (entry-refs s.records.now s.places.now s.count c.args.p s.usable c.requires.0 r c.entry-a.ensures).within)

pub returns-then-eq-2 : goal.returns-then-eq-2
returns-then-eq-2 c =
    let r = c.entry-a.result in
    fit-par (pair-in c.args.sorts.now c.requires.0 c.requires.1) c.entry-a.ensures (kind-is r.kind SortPar c.eq-2.ensures c.if-eq-2.true) (at-start c.args.sorts.now.records.now r.parts.at c.get.ensures.value)

pub is_met-requires : goal.is_met-requires
is_met-requires c = let u = c.args.sorts.now.usable.count in record { small = omega (arith, c.requires.0); target = omega (arith, c.requires.1) }

pub returns-then-eq-3 : goal.returns-then-eq-3
returns-then-eq-3 c =
    let q = c.entry-b.result in
    fit-to-var (pair-in c.args.sorts.now c.requires.0 c.requires.1) c.entry-a.ensures c.entry-b.ensures (kind-is q.kind SortVar c.eq-3.ensures c.if-eq-3.true)

pub get-requires-then-eq-4 : goal.get-requires-then-eq-4
get-requires-then-eq-4 c =
    let s = c.args.sorts.now in
    let q = c.entry-b.result in
    let h = kind-is q.kind SortPar c.eq-4.ensures c.if-eq-4.true in
    omega (arith, entry-one s.records.now s.places.now s.count c.args.t s.usable c.requires.1 q c.entry-b.ensures h, (entry-refs s.records.now s.places.now s.count c.args.t s.usable c.requires.1 q c.entry-b.ensures).within)

pub returns-then-eq-4 : goal.returns-then-eq-4
returns-then-eq-4 c =
    let q = c.entry-b.result in
    fit-to-par (pair-in c.args.sorts.now c.requires.0 c.requires.1) c.entry-a.ensures c.entry-b.ensures (kind-is q.kind SortPar c.eq-4.ensures c.if-eq-4.true) (at-start c.args.sorts.now.records.now q.parts.at c.get-then-eq-4.ensures.value)

pub returns-then-param_eq : goal.returns-then-param_eq
returns-then-param_eq c = fit-param (nodes (goal.at.returns-then-param_eq c).Else-eq-4) c.param_eq.ensures c.if-param_eq.true

pub returns-then-not-same_head : goal.returns-then-not-same_head
returns-then-not-same_head c =
    fit-other (nodes (goal.at.returns-then-not-same_head c).Else-eq-4) c.param_eq.ensures c.if-param_eq.false (sym c.same_head.ensures ∙ c.if-not-same_head.true)

pub returns-then-a-eq0 : goal.returns-then-a-eq0
returns-then-a-eq0 c =
    fit-bare (nodes (goal.at.returns-then-a-eq0 c).Else-eq-4) c.param_eq.ensures c.if-param_eq.false (sym c.same_head.ensures ∙ c.if-not-same_head.false) c.if-a-eq0.true

pub returns : goal.returns
returns c =
    fit-both (nodes (goal.at.returns c).Else-eq-4) c.param_eq.ensures c.if-param_eq.false (sym c.same_head.ensures ∙ c.if-not-same_head.false) c.if-a-eq0.false
