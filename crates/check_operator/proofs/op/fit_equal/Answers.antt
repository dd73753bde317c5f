-- The fit of arguments of one sort, for every count of the store.
use Rattle.check_operator.proofs.FitLaws.{equal-fits}
use Rattle.check_operator.proofs.op.fit_equal.Goals as goal

pub returns : goal.returns
returns c =
    let z = c.args.entries in
    let a = c.args.args.now in
    equal-fits z.records.now z.places.now a.bytes.now a.count c.all_same.result (c.all_same.ensures z.records.now z.places.now) c.then_some.ensures
