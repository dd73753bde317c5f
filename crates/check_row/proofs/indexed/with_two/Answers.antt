-- The answer of an operator with two indices.
use Rattle.std.proofs.Common.{ap, refl}
use Rattle.record.specs.Decode.{sort_at}
use Rattle.record.specs.Kinds.{param_number}
use Rattle.record.specs.KindLaws.{param_number-same}
use Rattle.record.specs.declared.kinds.ParamOp.TheVariants.{Extract, ReLoop}
use Rattle.row_rules.specs.declared.Cause.TheVariants.{Count}
use Rattle.check_operator.proofs.RowLaws.{refused_row}
use Rattle.check_row.proofs.IndexedLaws.{known-of, loop-is, two-other, kept_row}
use Rattle.check_row.proofs.indexed.with_two.Goals as goal

pub returns-in-ReLoop-clause-answer : goal.returns-in-ReLoop-clause-answer
returns-in-ReLoop-clause-answer c =
    kept_row c.kept.ensures (loop-is (known-of c.args.store.now c.requires) c.entry.result c.entry.ensures c.args.i c.args.j (ap param_number c.in-ReLoop.is))

pub returns-in_default : goal.returns-in_default
returns-in_default c =
    let s = c.args.store.now in
    let d = c.in_default in
    record {
      same = (refl, refl, refl);
      answer = refused_row s Count
          (two-other (param_number c.args.op) c.args.i c.args.j (sort_at s.records.now s.places.now s.count c.args.a)
          (λ e. d.not-Extract (param_number-same c.args.op Extract e)) (λ e. d.not-ReLoop (param_number-same c.args.op ReLoop e))) refl;
    }
