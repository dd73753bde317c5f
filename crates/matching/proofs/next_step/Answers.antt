-- Each return is a case of the definition: by the entries of the two sorts, or by a pair that was noted.
use Rattle.std.proofs.Common.{arith, sym, ◌∙◌}
use Rattle.record.specs.declared.kinds.SortKind.TheVariants.{Var as SortVar, Par as SortPar}
use Rattle.matching_tables.specs.KindTests.{kind-is, kind-not}
use Rattle.matching_tables.specs.Words.{pair-in}
use Rattle.matching.proofs.PlainLaws.{step-var, step-par, step-self, step_other, step-parts, step-head}
use Rattle.matching.proofs.next_step.Goals as goal

pub returns-then-eq : goal.returns-then-eq
returns-then-eq c = step-var (pair-in c.args.sorts.now c.requires.0 c.requires.1) c.entry-a.ensures (kind-is c.entry-a.result.kind SortVar c.eq.ensures c.if-eq.true)

pub returns-then-eq-2 : goal.returns-then-eq-2
returns-then-eq-2 c = step-par (pair-in c.args.sorts.now c.requires.0 c.requires.1) c.entry-a.ensures (kind-is c.entry-a.result.kind SortPar c.eq-2.ensures c.if-eq-2.true)

pub returns-then-p-t : goal.returns-then-p-t
returns-then-p-t c =
    λ prm θ noted. step-self (pair-in c.args.sorts.now c.requires.0 c.requires.1) c.entry-a.ensures (kind-not c.entry-a.result.kind SortVar c.eq.ensures c.if-eq.false) (kind-not c.entry-a.result.kind SortPar c.eq-2.ensures c.if-eq-2.false) c.if-a-eq0.true c.if-p-t.true prm θ

pub returns-else-p-t : goal.returns-else-p-t
returns-else-p-t c = step_other (pair-in c.args.sorts.now c.requires.0 c.requires.1) c.entry-a.ensures (kind-not c.entry-a.result.kind SortVar c.eq.ensures c.if-eq.false) (kind-not c.entry-a.result.kind SortPar c.eq-2.ensures c.if-eq-2.false) c.if-a-eq0.true c.if-p-t.false

pub is_met-requires : goal.is_met-requires
is_met-requires c = let u = c.args.sorts.now.usable.count in record { small = omega (arith, c.requires.0); target = omega (arith, c.requires.1) }

pub returns-then-same_head : goal.returns-then-same_head
returns-then-same_head c =
    step-parts (pair-in c.args.sorts.now c.requires.0 c.requires.1) c.entry-a.ensures c.entry-c.ensures (kind-not c.entry-a.result.kind SortVar c.eq.ensures c.if-eq.false) (kind-not c.entry-a.result.kind SortPar c.eq-2.ensures c.if-eq-2.false) c.args.met.now.slots c.if-a-eq0.false (sym c.same_head.ensures ∙ c.if-same_head.true)

pub returns : goal.returns
returns c =
    step-head (pair-in c.args.sorts.now c.requires.0 c.requires.1) c.entry-a.ensures c.entry-c.ensures (kind-not c.entry-a.result.kind SortVar c.eq.ensures c.if-eq.false) (kind-not c.entry-a.result.kind SortPar c.eq-2.ensures c.if-eq-2.false) (sym c.same_head.ensures ∙ c.if-same_head.false)
