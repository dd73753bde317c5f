use Rattle.std.proofs.Common.{eqb, rules, tests, ◌∙◌, refl}
use Rattle.std.proofs.lemmas.Iterator.Search.{any_from_yields_List}
use Rattle.record.specs.Numbers.{numbers_left, numbers-yield}
use Rattle.record.specs.NameLaws.{member-any}
use Rattle.reader.proofs.scans.contains.Goals as goal

pub returns : goal.returns
returns c =
    any_from_yields_List (λ w. eqb w c.args.v) c.any.new.self _ _ c.any.ensures.ran (numbers-yield (numbers_left c.args.numbers) refl) (λ x b q k. search (rules, tests))
    ∙ member-any c.args.v (numbers_left c.args.numbers)
