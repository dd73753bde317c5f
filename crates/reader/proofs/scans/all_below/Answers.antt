use Rattle.std.proofs.Common.{ltb, rules, tests, ◌∙◌, refl}
use Rattle.std.proofs.lemmas.Iterator.Search.{all_from_yields_List}
use Rattle.record.specs.Numbers.{numbers_left, numbers-yield}
use Rattle.reader.specs.Scans.{below-all}
use Rattle.reader.proofs.scans.all_below.Goals as goal

pub returns : goal.returns
returns c =
    let vs = numbers_left c.args.numbers in
    all_from_yields_List (λ w. ltb w c.args.limit) c.all.new.self _ _ c.all.ensures.ran (numbers-yield vs refl) (λ x b q k. search (rules, tests))
    ∙ below-all c.args.limit vs
