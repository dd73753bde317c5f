use Rattle.std.proofs.Common.{◌∙◌, arith}
use Rattle.apply_walk.proofs.ListLaws.{numbers-each}
use Rattle.apply_walk.proofs.lists.read_numbers.Goals as goal

pub returns : goal.returns
returns c = let a = c.args in
    numbers-each a.bytes.now a.span.at a.span.count c.loop-i.out (c.loop-i.auto.out ∙ c.requires.1) (λ k h. c.loop-i.invariant k (omega arith))
