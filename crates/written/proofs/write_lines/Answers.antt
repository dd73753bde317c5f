-- A piece that goes on is the next lines of the sheet that the lines are of, and the output holds them too. One that does not go on says
-- that the whole text is there.
use Rattle.std.proofs.Common.{◌∙◌, arith, rules, sym, subst}
use Rattle.std.specs.Io.KnownBytes.{Appends}
use Rattle.written.specs.WrittenLaws.{next-lines, none-left, handed-text, held-none, held-more}
use Rattle.written.proofs.write_lines.Goals as goal

pub loop-done-init : goal.loop-done-init
loop-done-init g c = record {
  good = search rules;
  next = search rules;
  most = search rules;
  same = search rules;
  can = search rules;
  held = held-none _ _ _ c.nothing_written-done.ensures;
}

pub hand_lines-done-requires : goal.hand_lines-done-requires
hand_lines-done-requires g c =
    let l = c.loop-done in
    rw c.show-piece.ensures.same
    (next-lines c.show-piece.ensures.lines (λ e. c.if-piece-done.false (e ∙ l.invariant.next)) l.done l.invariant.good l.invariant.next)

pub loop-done-preserved : goal.loop-done-preserved
loop-done-preserved g c =
    let l = c.loop-done in
    let e = c.hand_lines-done.ensures in
    let n = rw l.invariant.same at (next-lines c.show-piece.ensures.lines (λ e. c.if-piece-done.false (e ∙ l.invariant.next)) l.done l.invariant.good l.invariant.next) in
    record {
      good = search rules;
      next = search rules;
      most = search rules;
      same = search rules;
      can = search rules;
      held = held-more _ _ _ n e.lines c.if-done.false l.invariant.held e.bytes;
    }

pub returns-then-piece-done-clause-bytes : goal.returns-then-piece-done-clause-bytes
returns-then-piece-done-clause-bytes g c =
    let l = c.loop-done in
    let none = rw l.invariant.same at (none-left c.show-piece.ensures.lines (omega (arith, l.auto.out, c.requires.room)) (c.if-piece-done.true ∙ sym l.invariant.next)) in
    λ _. subst (Appends _ _) (handed-text g.L.Lines.layout (g.L.Lines.sheet c.args.lines.now) l.done (omega (arith, none, l.invariant.next, l.invariant.most))) l.invariant.held
