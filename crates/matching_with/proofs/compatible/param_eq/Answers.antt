-- Equal sorts have one number; the kinds tell vectors.
use Rattle.std.proofs.Common.{ap, ◌∙◌}
use Rattle.record.specs.Kinds.{sort_number}
use Rattle.record.specs.declared.kinds.SortKind.TheVariants.{BitVec as SortBitVec, ParamBitVec as SortParamBitVec}
use Rattle.matching_tables.specs.KindTests.{kind-is, kind-not, kind-other, same-kinds}
use Rattle.matching_tables.specs.Words.{pair-in}
use Rattle.matching_with.proofs.ParamLaws.{param-same, param-vector, param-both, param-bits, param-plain}
use Rattle.matching_with.proofs.compatible.param_eq.Goals as goal

pub returns-then-p-t : goal.returns-then-p-t
returns-then-p-t c = param-same (pair-in c.args.sorts.now c.requires.0 c.requires.1) c.if-p-t.true

pub returns-then-eq : goal.returns-then-eq
returns-then-eq c =
    let l = c.kind-other.result in
    c.if-eq.true ∙ param-vector (pair-in c.args.sorts.now c.requires.0 c.requires.1) c.if-p-t.false c.kind.ensures c.kind-other.ensures (ap sort_number c.in-ParamBitVec.is) (kind-is l SortBitVec c.eq.ensures c.if-eq.true)

pub returns-else-eq : goal.returns-else-eq
returns-else-eq c =
    let l = c.kind-other.result in
    c.eq-else-eq.ensures ∙ same-kinds l SortParamBitVec ∙ param-both (pair-in c.args.sorts.now c.requires.0 c.requires.1) c.if-p-t.false c.kind.ensures c.kind-other.ensures (ap sort_number c.in-ParamBitVec.is) (kind-not l SortBitVec c.eq.ensures c.if-eq.false)

pub returns-in-BitVec : goal.returns-in-BitVec
returns-in-BitVec c =
    let l = c.kind-other.result in
    c.eq-in-BitVec.ensures ∙ same-kinds l SortParamBitVec ∙ param-bits (pair-in c.args.sorts.now c.requires.0 c.requires.1) c.if-p-t.false c.kind.ensures c.kind-other.ensures (ap sort_number c.in-BitVec.is)

pub returns-in_default : goal.returns-in_default
returns-in_default c =
    param-plain (pair-in c.args.sorts.now c.requires.0 c.requires.1) c.if-p-t.false c.kind.ensures c.kind-other.ensures (kind-other c.kind.result SortParamBitVec c.in_default.not-ParamBitVec) (kind-other c.kind.result SortBitVec c.in_default.not-BitVec)
