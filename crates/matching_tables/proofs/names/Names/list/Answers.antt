use Rattle.std.proofs.Common.{arith, ◌∙◌, ap}
use Rattle.record.specs.Numbers.{numbers_left, numbers-small}
use Rattle.matching_tables.proofs.NamesLaws.{adding-start, adding-low, adding-small, adding-step, adding-end}
use Rattle.matching_tables.proofs.names.Names.list.Goals as goal

pub loop-v-init : goal.loop-v-init
loop-v-init c = let a = c.args in (
  tt,
  tt,
  adding-start (ap numbers_left c.into_iter-v-iterator.ensures.into_iter_gives ∙ c.numbers-v-items.ensures)
      (numbers-small a.bytes.now a.span.at a.span.count (λ i. omega (arith, c.type_inv.bytes i))),
)

pub offset_bounds-params-v : goal.offset_bounds-params-v
offset_bounds-params-v c = let h = adding-low c.loop-v.invariant.2 c.in-Some.ensures.steps c.requires.names.table in
    omega (arith, h, c.loop-v.invariant.2.long, c.requires.names.table)

pub bounds-params-v : goal.bounds-params-v
bounds-params-v c = adding-low c.loop-v.invariant.2 c.in-Some.ensures.steps c.requires.names.table

pub overflow_add-params : goal.overflow_add-params
overflow_add-params c = let h = adding-small c.loop-v.invariant.2 c.in-Some.ensures.steps c.requires.room in omega (arith, h)

pub bounds-params-v-in-loop-v : goal.bounds-params-v-in-loop-v
bounds-params-v-in-loop-v c = adding-low c.loop-v.invariant.2 c.in-Some.ensures.steps c.requires.names.table

pub loop-v-preserved : goal.loop-v-preserved
loop-v-preserved c = let v = c.loop-v.invariant.2 in
    let e = c.in-Some.ensures.steps in
    (tt, tt, adding-step v e (adding-low v e c.requires.names.table))

pub returns-clause-listed : goal.returns-clause-listed
returns-clause-listed c = adding-end c.loop-v.invariant.2 c.in-None.ensures.steps.0
