-- The argument that `nth` found.
use Rattle.std.proofs.Common.{ℕ, List, refl, sym, ap, ◌∙◌, ◌≡◌, Option, slice_get}
use Rattle.std.proofs.lemmas.Iterator.Adapters.{option_map_id}
use Rattle.std.proofs.lemmas.Iterator.Consumers.{nth_from_yields_List}
use Rattle.record.specs.Numbers.{numbers_left, numbers-yield}
use Rattle.infer_operator.specs.Single.{argument_of}
use Rattle.infer_operator.proofs.SingleLaws.{argument-has}
use Rattle.std.specs.Prelude.{ok_or}
use Rattle.row_rules.specs.declared.Cause.TheVariants.{Panics}
use Rattle.infer_operator.proofs.single.argument.Goals as goal

pub returns : goal.returns
returns c =
    let a = c.args.args.now in
    let taken = nth_from_yields_List c.nth.result c.nth.new.self c.args.i c.nth.ensures.ran (numbers-yield {n = c.numbers.result} (numbers_left c.numbers.result) refl) in
    let value : c.ok_or.result ≡ argument_of a c.args.i =
    c.ok_or.ensures.value ∙ ap (λ (o : Option ℕ). ok_or o Panics) (sym (option_map_id c.nth.result) ∙ taken ∙ ap (λ (ks : List ℕ). slice_get ks c.args.i) c.numbers.ensures) in
    record { value = value; answer = argument-has a.bytes.now a.count c.args.i value }
