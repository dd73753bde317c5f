-- Each turn has the row of one term more: it is refused, or its number is put into the array.
use Rattle.std.proofs.Common.{◌≡◌, ℕ, ◌+◌, ◌*◌, ◌<◌, List, length, get_or, arith, sym, ap, subst, ◌∙◌}
use Rattle.std.proofs.lemmas.List.{length_push}
use Rattle.record.specs.Number.{u16_at}
use Rattle.record.specs.Numbers.{numbers_left}
use Rattle.row_answer.specs.Arguments.{column_number, row_at, Filled, filled_more, gathered-clear, gathered-hit}
use Rattle.row_answer.proofs.ListLaws.{rows_more}
use Rattle.row_answer.proofs.ItemLaws.{number-turn, number-end}
use Rattle.row_answer.proofs.arguments.Args.gather.Goals as goal
use Rattle.row_answer.proofs.arguments.Args.gather.Goals.{In-Some, In-None}

-- The term of this turn, and how many there were after the last.
turn : (c : In-Some) → (length c.loop-t.yielded < c.args.list.count) × (c.in-Some.t ≡ u16_at c.args.sheet.now (c.args.list.at + 2 * length c.loop-t.yielded))
turn c =
    let a = c.args in
    let l = c.loop-t in
    let start = ap numbers_left c.into_iter-t-iterator.ensures.into_iter_gives ∙ c.numbers-t-items.ensures in
    number-turn a.sheet.now a.list.at a.list.count c.into_iter-t-iterator.result start l.yielded l.t-iterator l.yielded_by c.next.new.self c.in-Some.is c.next.ensures.steps

done : (c : In-None) → length c.loop-t.yielded ≡ c.args.list.count
done c =
    let a = c.args in
    let l = c.loop-t in
    let start = ap numbers_left c.into_iter-t-iterator.ensures.into_iter_gives ∙ c.numbers-t-items.ensures in
    number-end a.sheet.now a.list.at a.list.count c.into_iter-t-iterator.result start l.yielded l.t-iterator l.yielded_by c.next.new.self c.in-None.is c.next.ensures.steps

pub row_of-k-requires : goal.row_of-k-requires
row_of-k-requires c =
    let l = c.loop-t in
    let t = turn (goal.at.row_of-k-requires c).In-Some in
    omega (arith, t.1, c.requires.judged.row (length l.yielded) t.0)

pub returns-then-k-ge-REFUSED-clause-gathered : goal.returns-then-k-ge-REFUSED-clause-gathered
returns-then-k-ge-REFUSED-clause-gathered c =
    let a = c.args in
    let l = c.loop-t in
    let column = column_number a.column in
    let t = turn (goal.at.returns-then-k-ge-REFUSED-clause-gathered c).In-Some in
    let e = ap (λ (t : ℕ). get_or a.rows.now (2 * t + column) 0) t.1 in
    gathered-hit a.sheet.now a.list.at a.list.count a.rows.now column l.self.bytes.now (length l.yielded) t.0 (omega (arith, e, c.row_of-k.ensures, c.if-k-ge-REFUSED.true))

pub push-requires : goal.push-requires
push-requires c =
    let l = c.loop-t in
    let t = turn (goal.at.push-requires c).In-Some in
    record { within = omega (arith, t.0, l.invariant.count, l.invariant.same.1, c.requires.room); small = c.if-k-ge-REFUSED.false }

pub loop-t-preserved : goal.loop-t-preserved
loop-t-preserved c =
    let a = c.args in
    let l = c.loop-t in
    let column = column_number a.column in
    let row = row_at a.sheet.now a.list.at a.rows.now column in
    let i = length l.yielded in
    let t = turn (goal.at.loop-t-preserved c).In-Some in
    let is : c.row_of-k.result ≡ row i = c.row_of-k.ensures ∙ ap (λ (t : ℕ). get_or a.rows.now (2 * t + column) 0) t.1 in
    let more = length_push l.yielded c.in-Some.t in
    record {
      same = (c.push.ensures.same.0 ∙ l.invariant.same.0, c.push.ensures.same.1 ∙ l.invariant.same.1);
      count = omega (arith, c.push.ensures.count, l.invariant.count, more);
      below =
          subst (λ (n : ℕ). (j : ℕ) → j < n → row j < 65536) (sym more)
          (rows_more a.sheet.now a.list.at a.rows.now column i (omega (arith, is, c.if-k-ge-REFUSED.false)) l.invariant.below);
      filled =
          subst (λ (n : ℕ). Filled c.push.new.self.bytes.now row n) (sym more)
          (subst (λ (y : List ℕ). Filled y row (i + 1)) (sym (rw l.invariant.count at c.push.ensures.bytes))
          (filled_more l.self.bytes.now row i c.row_of-k.result (omega (arith, t.0, l.invariant.same.1, c.requires.room)) is l.invariant.filled));
    }

pub returns-clause-count : goal.returns-clause-count
returns-clause-count c =
    let l = c.loop-t in
    l.invariant.count
    ∙ done (goal.at.returns-clause-count c).In-None

pub returns-clause-gathered : goal.returns-clause-gathered
returns-clause-gathered c =
    let a = c.args in
    let l = c.loop-t in
    let column = column_number a.column in
    let row = row_at a.sheet.now a.list.at a.rows.now column in
    let e = done (goal.at.returns-clause-gathered c).In-None in
    gathered-clear a.sheet.now a.list.at a.list.count a.rows.now column l.self.bytes.now (subst (λ (n : ℕ). (j : ℕ) → j < n → row j < 65536) e l.invariant.below)
    (subst (Filled l.self.bytes.now row) e l.invariant.filled)
