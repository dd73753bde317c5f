-- The vector of a new width, by the kind of the argument.
use Rattle.std.proofs.Common.{◌≡◌, Bool, eqb, false, ap, rules, refl}
use Rattle.record.specs.Kinds.{sort_number}
use Rattle.record.specs.Sort.{bitvec}
use Rattle.row_rules.specs.declared.Cause.TheVariants.{Misfit}
use Rattle.row_rules.specs.Verdict.{sort, need}
use Rattle.check_operator.proofs.RowLaws.{refused_row}
use Rattle.check_row.proofs.indexed.widened.Goals as goal

pub returns-then-ne-clause-answer : goal.returns-then-ne-clause-answer
returns-then-ne-clause-answer c =
    let e : eqb (sort_number c.args.kind) (sort_number c.args.wanted) ≡ false = search rules in
    refused_row c.args.store.now Misfit (ap (λ (t : Bool). need t Misfit (sort (bitvec c.args.width))) e) refl
