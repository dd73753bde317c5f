-- The fit of numbers, for every count of the store: each turn has one argument more.
use Rattle.std.proofs.Common.{ap, ◌∙◌}
use Rattle.record.specs.KindLaws.{sort_number-same}
use Rattle.record.specs.Numbers.{numbers_left}
use Rattle.record.specs.declared.kinds.SortKind.TheVariants.{Int as SortInt, Real as SortReal}
use Rattle.check_operator.proofs.NumberLaws.{sum-start, sum-asks, sum-int, sum-real, sum-other, sum-end}
use Rattle.check_operator.proofs.op.fit_numbers.Goals as goal

pub loop-k-init : goal.loop-k-init
loop-k-init c = sum-start (ap numbers_left c.into_iter-k-iterator.ensures.into_iter_gives ∙ c.numbers-k-items.ensures)

pub kind-requires : goal.kind-requires
kind-requires c = sum-asks c.loop-k.invariant c.in-Some.ensures.steps c.requires.args.many c.requires.args.over

pub loop-k-preserved-in-Int : goal.loop-k-preserved-in-Int
loop-k-preserved-in-Int c = sum-int c.loop-k.invariant c.in-Some.ensures.steps c.in-Int.ensures

pub loop-k-preserved : goal.loop-k-preserved
loop-k-preserved c = sum-real c.loop-k.invariant c.in-Some.ensures.steps c.in-Real.ensures

pub returns-in_default : goal.returns-in_default
returns-in_default c =
    sum-other c.loop-k.invariant c.in-Some.ensures.steps c.kind.ensures
    (λ e. c.in_default.not-Int (sort_number-same c.kind.result SortInt e)) (λ e. c.in_default.not-Real (sort_number-same c.kind.result SortReal e))

pub returns : goal.returns
returns c = sum-end c.args.res c.requires c.loop-k.invariant c.in-None.ensures.steps.0 c.unwrap_or.ensures
