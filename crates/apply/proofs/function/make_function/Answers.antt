-- The Function is made over its list, which stands in the store by then: it interns its list first.
-- Where room runs out on the way, there is none for the whole.
use Rattle.apply.specs.Contract.{function_at}
use Rattle.apply.proofs.FunctionLaws.{function-parts, function-stuck, function-make, function-is-made, function-stopped}
use Rattle.apply.proofs.function.make_function.Goals as goal

pub make_answers-requires : goal.make_answers-requires
make_answers-requires c = function-parts c.requires c.read_numbers.ensures c.entries.ensures.records

pub returns-in_err-make_answers-clause-made : goal.returns-in_err-make_answers-clause-made
returns-in_err-make_answers-clause-made c =
    let s = c.args.store.now in
    let d = c.make_answers.new.store in
    function-stopped (function_at s.records.now s.places.now s.count c.args.images.now c.args.span.at c.args.span.count) d.records.now d.places.now d.index.now d.count d.used c.from_residual.result c.from_residual.ensures.0
    (function-stuck c.requires c.read_numbers.ensures c.entries.ensures.records c.in_err-make_answers.ensures.made)

pub make_fields-requires : goal.make_fields-requires
make_fields-requires c = function-make c.requires c.read_numbers.ensures c.entries.ensures.records c.in_ok-make_answers.ensures.made

pub returns-clause-made : goal.returns-clause-made
returns-clause-made c =
    let d = c.make_fields.new.store in
    function-is-made c.requires c.read_numbers.ensures c.entries.ensures.records c.in_ok-make_answers.ensures.made d.records.now d.places.now d.index.now d.count d.used c.make_fields.result c.make_fields.ensures.made
