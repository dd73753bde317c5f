-- The kinds that are left have a sort of their own.
use Rattle.std.proofs.Common.{◌≤◌, get_or, arith}
use Rattle.std.proofs.lemmas.Grind.{common_steps}
use Rattle.record.specs.Kinds.{term_number}
use Rattle.infer_operator.proofs.AnswerWays.{answer-sort}
use Rattle.infer_row.proofs.TermLaws.{plain-own, plain-is}
use Rattle.infer_row.proofs.inferred_plain.Goals as goal

pub returns-in_default-clause-answer : goal.returns-in_default-clause-answer
returns-in_default-clause-answer c =
    let t = c.args.sheet.now.table.now in
    let d = c.in_default in
    let l : 5 ≤ term_number c.args.term.kind = grind (arith, common_steps, d.not-Integer, d.not-Real, d.not-String, d.not-RegLan, d.not-BitVector) in
    λ y v w. answer-sort c.args.store.now (get_or t c.args.term.sort 0) (plain-own l c.requires).known (plain-is l c.requires y v w)
