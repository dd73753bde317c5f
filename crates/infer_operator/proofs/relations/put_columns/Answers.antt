-- Each turn puts one number more.
use Rattle.std.proofs.Common.{◌≡◌, ◌<◌, ◌+◌, ◌*◌, ◌≤◌, ℕ, length, sym, ap, subst, ◌∙◌, arith}
use Rattle.std.proofs.lemmas.List.{length_push}
use Rattle.record.specs.Number.{u16_at}
use Rattle.record.specs.Numbers.{numbers_left}
use Rattle.row_answer.specs.Arguments.{put_at}
use Rattle.row_answer.proofs.ItemLaws.{number-turn, number-end}
use Rattle.infer_operator.specs.Relations.{PutHas}
use Rattle.infer_operator.proofs.RelationLaws.{put-more}
use Rattle.infer_operator.proofs.relations.put_columns.Goals as goal
use Rattle.infer_operator.proofs.relations.put_columns.Goals.{In-Some, In-None}

-- The number of this turn, and how many there were after the last.
turn : (c : In-Some) → (length c.loop-k.yielded < c.args.columns.count) × (c.in-Some.k ≡ u16_at c.args.records.now (c.args.columns.at + 2 * length c.loop-k.yielded))
turn c =
    let l = c.loop-k in
    let start = ap numbers_left c.into_iter-k-iterator.ensures.into_iter_gives ∙ c.numbers-k-items.ensures in
    number-turn c.args.records.now c.args.columns.at c.args.columns.count c.into_iter-k-iterator.result start l.yielded l.k-iterator l.yielded_by c.next.new.self c.in-Some.is c.next.ensures.steps

done : (c : In-None) → length c.loop-k.yielded ≡ c.args.columns.count
done c =
    let l = c.loop-k in
    let start = ap numbers_left c.into_iter-k-iterator.ensures.into_iter_gives ∙ c.numbers-k-items.ensures in
    number-end c.args.records.now c.args.columns.at c.args.columns.count c.into_iter-k-iterator.result start l.yielded l.k-iterator l.yielded_by c.next.new.self c.in-None.is c.next.ensures.steps

pub push-requires : goal.push-requires
unfolding u16_at
push-requires c =
    let l = c.loop-k in
    let t = turn (goal.at.push-requires c).In-Some in
    let i = c.args.columns.at + 2 * length l.yielded in
    record { within = omega (arith, t.0, l.invariant.count, l.invariant.long, c.requires.room); small = omega (arith, t.1, c.type_inv.records i, c.type_inv.records (i + 1)) }

pub loop-k-preserved : goal.loop-k-preserved
loop-k-preserved c =
    let a = c.args.args.now in
    let b = c.args.records.now in
    let x = c.args.columns.at in
    let l = c.loop-k in
    let w = l.invariant in
    let t = turn (goal.at.loop-k-preserved c).In-Some in
    let more = length_push l.yielded c.in-Some.k in
    let room : 3 + 2 * (a.count + length l.yielded) + 2 ≤ length l.args.bytes.now = omega (arith, c.requires.room, t.0, w.long) in
    let put = put-more b x (length l.yielded) a.bytes.now a.count l.args.bytes.now room t.1 w.put in
    record {
      name = c.push.ensures.same.0 ∙ w.name;
      long = c.push.ensures.same.1 ∙ w.long;
      count = omega (arith, c.push.ensures.count, w.count, more);
      put = subst (λ (j : ℕ). PutHas b x j a.bytes.now a.count c.push.new.self.bytes.now) (sym more)
          (subst (PutHas b x (length l.yielded + 1) a.bytes.now a.count) (sym (c.push.ensures.bytes ∙ ap (λ (n : ℕ). put_at l.args.bytes.now (3 + 2 * n) c.in-Some.k) w.count)) put);
    }

pub returns-clause-count : goal.returns-clause-count
returns-clause-count c = let e = done (goal.at.returns-clause-count c).In-None in omega (arith, e, c.loop-k.invariant.count)

pub returns-clause-put : goal.returns-clause-put
returns-clause-put c =
    let a = c.args.args.now in
    let l = c.loop-k in
    let e = done (goal.at.returns-clause-put c).In-None in
    subst (λ (j : ℕ). PutHas c.args.records.now c.args.columns.at j a.bytes.now a.count l.args.bytes.now) e l.invariant.put
