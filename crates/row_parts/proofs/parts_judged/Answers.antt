-- Each way through the parts of a record is one case of its verdict.
-- What the two callees promise is passed on by one law a case.
use Rattle.std.proofs.Common.{◌≡◌, true, false, is_ok, rules}
use Rattle.record.specs.Kinds.{term_number}
use Rattle.row_parts.proofs.PartsLaws.{parts-lacking, parts-plain, parts-indexed}
use Rattle.row_parts.proofs.parts_judged.Goals as goal
use Rattle.row_parts.proofs.parts_judged.Goals.{else-eq-via-then-eq+else-not-all_judged, else-eq-via-else-eq}

pub returns-in_err-gather-clause-parts : goal.returns-in_err-gather-clause-parts
returns-in_err-gather-clause-parts c =
    let e : is_ok c.from_residual.result ≡ false = search rules in
    rw e (parts-lacking c.args.sheet.now c.args.rows.now _ c.args.term _ c.in_err-gather.ensures.gathered)

pub returns-then-not-all_judged-clause-parts : goal.returns-then-not-all_judged-clause-parts
returns-then-not-all_judged-clause-parts c =
    let a = c.args in
    let it : term_number a.term.kind ≡ 11 = search rules in
    parts-indexed a.sheet.now a.rows.now _ a.term _ c.in_ok-gather.ensures.gathered c.requires.list.judged.side it false (rw c.if-not-all_judged.true at c.all_judged.ensures)

pub returns-clause-parts : goal.returns-clause-parts
returns-clause-parts c =
    let a = c.args in
    let g = c.in_ok-gather.ensures.gathered in
    elim c.else-eq.branch [
      | else-eq-via-then-eq+else-not-all_judged w ↦
          let it : term_number a.term.kind ≡ 11 = search rules in
          parts-indexed a.sheet.now a.rows.now _ a.term _ g c.requires.list.judged.side it true (rw w.if-not-all_judged.false at w.all_judged.ensures)
      | else-eq-via-else-eq w ↦
          let other : term_number a.term.kind ≡ 11 → ⊥ = search rules in
          parts-plain a.sheet.now a.rows.now _ a.term _ g c.requires.list.judged.side other
    ]
