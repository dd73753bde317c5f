-- The numbers are compared in pairs.
use Rattle.std.proofs.Common.{◌≡◌, ℕ, eqb, rules, tests, sym, ◌∙◌}
use Rattle.std.specs.List.{list_all, zip}
use Rattle.std.proofs.lemmas.Iterator.{YieldsList-from_slice, YieldsList-from_zip}
use Rattle.std.proofs.lemmas.Iterator.Consumers.{YieldsList-at}
use Rattle.std.proofs.lemmas.Iterator.Search.{all_from_yields_List}
use Rattle.record.specs.Number.{numbers_at}
use Rattle.record.specs.Numbers.{numbers-yield}
use Rattle.record.specs.Codec.{length-numbers_at}
use Rattle.apply_walk.proofs.ListLaws.{same-pairs, pairs-same}
use Rattle.apply_walk.proofs.lists.same_numbers.Goals as goal

pub returns : goal.returns
returns c =
    let a = c.args in
    let vs = numbers_at a.bytes.now a.span.at a.span.count in
    let pairs : c.all.result ≡ list_all (λ (p : ℕ × ℕ). eqb p.0 p.1) (zip vs a.numbers.now) =
    all_from_yields_List (λ (p : ℕ × ℕ). eqb p.0 p.1) c.all.new.self _ _ c.all.ensures.ran
    (YieldsList-from_zip (YieldsList-at c.zip.ensures.first (numbers-yield vs c.numbers.ensures)) (YieldsList-from_slice a.numbers.now (cc)))
    (λ x b q k. search (rules, tests)) in
    record {
      only = λ e. same-pairs vs a.numbers.now (c.requires.long ∙ sym (length-numbers_at a.bytes.now a.span.at a.span.count)) (sym pairs ∙ e);
      all = λ e. pairs ∙ pairs-same vs a.numbers.now e;
    }
