use Rattle.std.proofs.Common.{◌≡◌, ◌+◌, ◌-◌, ◌*◌, ◌≤◌, ℕ, List, length, sym, ap, subst, ◌∙◌, arith}
use Rattle.record.specs.Number.{u16_at}
use Rattle.row_answer.specs.Arguments.{Filled, filled_more}
use Rattle.infer_operator.specs.Relations.{back_at}
use Rattle.infer_operator.proofs.relations.put_backwards.Goals as goal

pub loop-i-preserved : goal.loop-i-preserved
loop-i-preserved c =
    let b = c.args.records.now in
    let x = c.args.columns.at in
    let m = c.args.columns.count in
    let l = c.loop-i in
    let w = l.invariant in
    let room : 3 + 2 * l.args.count + 2 ≤ length l.args.bytes.now =
    omega (arith, c.requires.room, c.loop-i-test.true, w.count, w.long, ap (λ (s : List ℕ). length s) c.clear.ensures.bytes) in
    let place : x + 2 * (l.i - 1) ≡ x + 2 * (m - 1 - l.args.count) = omega (arith, w.count, c.loop-i-test.true) in
    let put = filled_more l.args.bytes.now (back_at b x m) l.args.count c.get.result room (c.get.ensures.value ∙ ap (u16_at b) place) w.put in
    record {
      name = c.push.ensures.same.0 ∙ w.name;
      long = c.push.ensures.same.1 ∙ w.long;
      count = omega (arith, c.push.ensures.count, w.count, c.loop-i-test.true);
      put = subst (λ (s : List ℕ). Filled s (back_at b x m) c.push.new.self.count) (sym c.push.ensures.bytes)
          (subst (Filled _ (back_at b x m)) (sym c.push.ensures.count) put);
    }
