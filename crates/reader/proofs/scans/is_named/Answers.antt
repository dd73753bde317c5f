use Rattle.std.proofs.Common.{ℕ, eqb, rules, tests, ◌∙◌, refl}
use Rattle.std.proofs.lemmas.Iterator.Search.{any_from_yields_List}
use Rattle.record.specs.Numbers.{pairs_left, pairs-yield}
use Rattle.reader.specs.Scans.{names-any}
use Rattle.reader.proofs.scans.is_named.Goals as goal

pub returns : goal.returns
returns c =
    let ps = pairs_left c.args.pairs in
    any_from_yields_List (λ (p : ℕ × ℕ). eqb p.0 c.args.v) c.any.new.self _ _ c.any.ensures.ran (pairs-yield ps refl) (λ x b q k. search (rules, tests))
    ∙ names-any c.args.v ps
