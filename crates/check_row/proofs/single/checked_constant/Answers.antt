-- The answer to a constant.
use Rattle.std.proofs.Common.{refl}
use Rattle.record.specs.Kinds.{term_number}
use Rattle.row_rules.specs.declared.Cause.TheVariants.{Barred}
use Rattle.check_operator.proofs.RowLaws.{refused_row}
use Rattle.check_row.proofs.SingleLaws.{kind_high, constant-zero}
use Rattle.check_row.proofs.single.checked_constant.Goals as goal

pub returns-in_default : goal.returns-in_default
returns-in_default c =
    let d = c.in_default in
    record {
      same = (refl, refl, refl);
      answer = refused_row c.args.store.now Barred
          (constant-zero (term_number c.args.kind) (kind_high c.args.kind d.not-Integer d.not-Real d.not-String d.not-RegLan) c.if-number-eq0.true) refl;
    }
