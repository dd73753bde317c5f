-- The walk, by the law of its test, for every test of names and every map that the tables stand for.
use Rattle.std.proofs.Common.{◌∙◌, rules}
use Rattle.matching_tables.specs.Usable.{sorts_at}
use Rattle.matching_each.specs.Every.{Settled, passing}
use Rattle.matching_each.specs.EveryLaws.{every_all-is}
use Rattle.row_application.proofs.SettledLaws.{settled-tests}
use Rattle.row_application.proofs.settled.all_settled.Goals as goal

pub returns : goal.returns
returns c =
    let s = c.args.sorts.now in
    let x = c.args.names.now in
    let e = c.all_each.ensures (passing Settled x.params.now x.images.now) (λ r k q one has says. search rules) c.requires.noted in
    record {
      found = λ f t θ i. e.answer ∙ every_all-is (settled-tests x.params.now t i) (sorts_at s.records.now s.places.now s.count s.records.now c.args.list.at c.args.list.count);
      noted = e.noted;
    }
