use Rattle.std.proofs.Common.{List, ℕ, ◌+◌, arith, ap, ◌∙◌}
use Rattle.record.specs.Sort.{sizes}
use Rattle.record.specs.Record.{sorts_of}
use Rattle.record.specs.Decode.{sort_at}
use Rattle.record.specs.Numbers.{numbers_left}
use Rattle.store.specs.Words.{store_in}
use Rattle.store.proofs.EntryLaws.{fresh-place, fresh-known, tree-is, sum-start, sum-known, sum_step, sum-end}
use Rattle.store.proofs.Store.tree_size.Goals as goal

pub record_at-requires-clause-placed : goal.record_at-requires-clause-placed
record_at-requires-clause-placed c = fresh-place c.requires

pub record_at-requires-clause-known : goal.record_at-requires-clause-known
record_at-requires-clause-known c = fresh-known c.requires

pub loop-k-init : goal.loop-k-init
loop-k-init c =
    sum-start (store_in c.args.self.now) c.requires c.record_at.ensures
    (ap numbers_left c.into_iter-k-iterator.ensures.into_iter_gives ∙ c.numbers-k-items.ensures)

pub size-sum-requires : goal.size-sum-requires
size-sum-requires c = sum-known c.loop-k.invariant c.in-Some.ensures.steps

pub overflow_add-sum : goal.overflow_add-sum
overflow_add-sum c =
    omega (
      arith,
      c.loop-k.invariant.small,
      c.size-sum.ensures,
      c.args.self.now.good.sized.small c.in-Some.k (sum-known c.loop-k.invariant c.in-Some.ensures.steps),
    )

pub loop-k-preserved : goal.loop-k-preserved
unfolding sort_at
loop-k-preserved c =
    sum_step c.loop-k.invariant c.in-Some.ensures.steps c.size-sum.ensures
    (omega (
      arith,
      c.size-sum.ensures,
      c.args.self.now.good.sized.small c.in-Some.k (sum-known c.loop-k.invariant c.in-Some.ensures.steps),
    ))

pub returns : goal.returns
returns c =
    let st = store_in c.args.self.now in
    tree-is c.requires st c.record_at.ensures
    (sum-end c.loop-k.invariant c.in-None.ensures.steps.0
    ∙ ap (λ (l : List ℕ). 1 + sizes (sorts_of st l)) (ap numbers_left c.into_iter-k-iterator.ensures.into_iter_gives ∙ c.numbers-k-items.ensures))
