-- What substitution gives is the answer, for every map that the table stands for.
-- Its cases are those of `AppliedIs`.
use Rattle.std.proofs.Common.{◌≡◌, rules, ap}
use Rattle.row_answer.specs.Answer.{answer}
use Rattle.row_answer.specs.AnswerLaws.{answered-as}
use Rattle.row_instance.specs.Instance.{instance_row, instance-of}
use Rattle.row_instance.proofs.instance.Goals as goal

pub returns-clause-answer : goal.returns-clause-answer
returns-clause-answer c =
    let s = c.args.store.now in
    let d = c.apply.new.store in
    let row : c.map_err.result ≡ instance_row c.apply.result = search rules in
    let h = instance-of s.records.now s.places.now s.index.now s.count s.used c.args.k c.args.images.now c.requires d.records.now d.places.now d.index.now d.count d.used c.apply.result c.apply.ensures.applied in
    λ θ m. answered-as (ap (answer d) row) (h θ m)
