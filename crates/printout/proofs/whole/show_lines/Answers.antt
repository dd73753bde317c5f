-- The buffer that is lent is the one that was written.
-- It was empty before.
use Rattle.std.proofs.Common.{rules, ℕ, List, subst}
use Rattle.printout.specs.Whole.{PieceHas}
use Rattle.printout.proofs.whole.show_lines.Goals as goal

pub returns : goal.returns
returns c =
    let s = c.args.sheet.now in
    subst (λ (o : List ℕ). PieceHas s.entries.records.now s.entries.places.now s.rows.now s.kinds.now s.answers.now s.totals.terms s.totals.questions c.args.from c.args.out.now o (record { next = c.put_lines-next.result; end = c.put_lines-next.new.out.end })) (search rules)
    c.put_lines-next.ensures.lines
