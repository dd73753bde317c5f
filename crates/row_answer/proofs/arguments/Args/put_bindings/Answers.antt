-- Each turn has the sort of one pair more.
use Rattle.std.proofs.Common.{◌≡◌, ℕ, ◌+◌, ◌*◌, ◌<◌, List, length, get_or, arith, rules, sym, ap, subst, ◌∙◌}
use Rattle.std.proofs.lemmas.List.{length_push}
use Rattle.record.specs.Number.{u16_at}
use Rattle.record.specs.Numbers.{pairs_left}
use Rattle.row_answer.specs.Arguments.{binding_at, bindings-are, Filled, filled_more}
use Rattle.row_answer.proofs.ItemLaws.{pair-turn, pair-end}
use Rattle.row_answer.proofs.arguments.Args.put_bindings.Goals as goal
use Rattle.row_answer.proofs.arguments.Args.put_bindings.Goals.{In-Some, In-None}

-- The pair of this turn, and how many there were after the last.
turn : (c : In-Some) → (length c.loop-sort.yielded < c.args.pairs.count) × (c.in-Some.sort ≡ u16_at c.args.sheet.now.bytes.now (c.args.pairs.at + 4 * length c.loop-sort.yielded + 2))
turn c =
    let a = c.args in
    let l = c.loop-sort in
    let start = ap pairs_left c.into_iter-sort-iterator.ensures.into_iter_gives ∙ c.pairs-sort-items.ensures in
    pair-turn a.sheet.now.bytes.now a.pairs.at a.pairs.count c.into_iter-sort-iterator.result start l.yielded l.sort-iterator l.yielded_by c.next.new.self c.in-Some.is c.next.ensures.steps

done : (c : In-None) → length c.loop-sort.yielded ≡ c.args.pairs.count
done c =
    let a = c.args in
    let l = c.loop-sort in
    let start = ap pairs_left c.into_iter-sort-iterator.ensures.into_iter_gives ∙ c.pairs-sort-items.ensures in
    pair-end a.sheet.now.bytes.now a.pairs.at a.pairs.count c.into_iter-sort-iterator.result start l.yielded l.sort-iterator l.yielded_by c.next.new.self c.in-None.is c.next.ensures.steps

pub offset_bounds-sheet-sort : goal.offset_bounds-sheet-sort
offset_bounds-sheet-sort c =
    let t = turn (goal.at.offset_bounds-sheet-sort c).In-Some in
    let h : c.in-Some.sort < length c.args.sheet.now.table.now = omega (arith, t.1, c.requires.each (length c.loop-sort.yielded) t.0) in
    search rules

pub bounds-sheet-sort : goal.bounds-sheet-sort
bounds-sheet-sort c =
    let l = c.loop-sort in
    let t = turn (goal.at.bounds-sheet-sort c).In-Some in
    omega (arith, t.1, c.requires.each (length l.yielded) t.0)

pub push-requires : goal.push-requires
push-requires c =
    let l = c.loop-sort in
    let t = turn (goal.at.push-requires c).In-Some in
    record { within = omega (arith, t.0, l.invariant.count, l.invariant.same.1, c.requires.room); small = omega arith }

pub loop-sort-preserved : goal.loop-sort-preserved
loop-sort-preserved c =
    let a = c.args in
    let s = a.sheet.now in
    let l = c.loop-sort in
    let t = turn (goal.at.loop-sort-preserved c).In-Some in
    let sort = binding_at s.bytes.now a.pairs.at s.table.now in
    let i = length l.yielded in
    let is : get_or s.table.now c.in-Some.sort 0 ≡ sort i = ap (λ (k : ℕ). get_or s.table.now k 0) t.1 in
    let more = length_push l.yielded (c.in-Some.field-0-0, c.in-Some.sort) in
    record {
      same = (c.push.ensures.same.0 ∙ l.invariant.same.0, c.push.ensures.same.1 ∙ l.invariant.same.1);
      count = omega (arith, c.push.ensures.count, l.invariant.count, more);
      filled =
          subst (λ (n : ℕ). Filled c.push.new.self.bytes.now sort n) (sym more)
          (subst (λ (y : List ℕ). Filled y sort (i + 1)) (sym (rw l.invariant.count at c.push.ensures.bytes))
          (filled_more l.self.bytes.now sort i (get_or s.table.now c.in-Some.sort 0) (omega (arith, t.0, l.invariant.same.1, c.requires.room)) is l.invariant.filled));
    }

pub returns-clause-count : goal.returns-clause-count
returns-clause-count c =
    let l = c.loop-sort in
    let e = done (goal.at.returns-clause-count c).In-None in
    l.invariant.count ∙ e

pub returns-clause-bindings : goal.returns-clause-bindings
returns-clause-bindings c =
    let a = c.args in
    let s = a.sheet.now in
    let l = c.loop-sort in
    let e = done (goal.at.returns-clause-bindings c).In-None in
    bindings-are s.bytes.now a.pairs.at a.pairs.count s.table.now l.self.bytes.now (subst (Filled l.self.bytes.now (binding_at s.bytes.now a.pairs.at s.table.now)) e l.invariant.filled)
