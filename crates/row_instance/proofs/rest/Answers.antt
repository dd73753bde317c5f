-- One left is that sort replaced.
-- Any other number is the Function of the sorts replaced, for every map that the table stands for.
use Rattle.std.proofs.Common.{◌≡◌, rules, arith, ap}
use Rattle.row_answer.specs.Answer.{answer}
use Rattle.row_answer.specs.AnswerLaws.{answered-as}
use Rattle.row_instance.specs.Instance.{instance_row}
use Rattle.row_instance.specs.Rest.{one-is, rest_of}
use Rattle.row_instance.proofs.rest.Goals as goal

pub returns-then-span-eq1-clause-answer : goal.returns-then-span-eq1-clause-answer
returns-then-span-eq1-clause-answer c =
    let s = c.args.store.now in
    let d = c.instance.new.store in
    one-is s.records.now s.places.now s.index.now s.count s.used c.args.images.now c.args.span.at c.args.span.count c.requires c.if-span-eq1.true c.number-k.result c.number-k.ensures.value d.records.now d.places.now d.index.now (answer d c.instance.result) c.instance.ensures.answer

pub returns-clause-answer : goal.returns-clause-answer
returns-clause-answer c =
    let s = c.args.store.now in
    let d = c.apply_function.new.store in
    let row : c.map_err.result ≡ instance_row c.apply_function.result = search rules in
    let h = rest_of s.records.now s.places.now s.index.now s.count s.used c.args.images.now c.args.span.at c.args.span.count c.requires (λ e. absurd (omega arith)) d.records.now d.places.now d.index.now d.count d.used c.apply_function.result c.apply_function.ensures.applied in
    λ θ m. answered-as (ap (answer d) row) (h θ m)
