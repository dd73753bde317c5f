-- Each turn counts the next of the names that are left, of at most 7 bytes with its blank.
-- So at the end all are counted.
use Rattle.std.proofs.Common.{arith, ap, ◌∙◌}
use Rattle.printout_sort.specs.NameLaws.{numbers-small, names-step, size-start, size-end}
use Rattle.record.specs.Numbers.{numbers_left}
use Rattle.record.specs.Codec.{length-numbers_at}
use Rattle.printout_sort.proofs.buffer.names_size.Goals as goal

pub loop-name-init : goal.loop-name-init
loop-name-init c =
    let b = c.args.records.now in
    let q = ap numbers_left c.into_iter-name-iterator.ensures.into_iter_gives ∙ c.numbers-name-items.ensures in
    rw q (size-start c.args.names.count (numbers-small b (λ i. omega (arith, c.type_inv.records i)) _ _) (length-numbers_at b c.args.names.at c.args.names.count) c.requires.1)

pub loop-name-preserved : goal.loop-name-preserved
loop-name-preserved c = names-step c.loop-name.invariant c.in-Some.ensures.steps c.name_size.ensures.0 c.name_size.ensures.1

pub returns : goal.returns
returns c = size-end c.loop-name.invariant c.in-None.ensures.steps.0
