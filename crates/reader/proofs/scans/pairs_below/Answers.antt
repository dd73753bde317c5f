use Rattle.std.proofs.Common.{ℕ, ltb, rules, tests, ◌∙◌, refl}
use Rattle.std.proofs.lemmas.Iterator.Search.{all_from_yields_List}
use Rattle.record.specs.Numbers.{pairs_left, pairs-yield}
use Rattle.reader.specs.Scans.{pairs-below-all}
use Rattle.reader.proofs.scans.pairs_below.Goals as goal

pub returns : goal.returns
returns c =
    let ps = pairs_left c.args.pairs in
    all_from_yields_List (λ (p : ℕ × ℕ). ltb p.1 c.args.limit) c.all.new.self _ _ c.all.ensures.ran (pairs-yield ps refl) (λ x b q k. search (rules, tests))
    ∙ pairs-below-all c.args.limit ps
