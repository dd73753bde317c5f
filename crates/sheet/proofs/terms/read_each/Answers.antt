use Rattle.std.proofs.Common.{arith, refl, ◌∙◌}
use Rattle.std.proofs.lemmas.Result.{err_from_is_err_and}
use lib.ListN.{get_or, length-set}
use Rattle.sheet.proofs.PassLaws.{each-read-none, each-read-kept, each-read-more}
use Rattle.sheet.proofs.terms.read_each.Goals as goal

pub loop-i-init : goal.loop-i-init
loop-i-init g c = (refl, each-read-none (goal.F-post g c.args.read) c.args.start c.args.places.now)

pub returns-in_err-after : goal.returns-in_err-after
returns-in_err-after g c =
    let l = c.loop-i in
    let p = err_from_is_err_and c.from_residual.result c.from_residual.ensures.1 in
    rw (p.1, p.2) (l.i, l.cursor, omega (arith, l.invariant.0, c.loop-i-test.true), each-read-kept (goal.F-post g c.args.read) c.args.start l.places l.i (get_or l.places l.i 0) l.i l.cursor (omega arith) l.invariant.1, c.in_err-after.ensures)

pub overflow_cast-place : goal.overflow_cast-place
overflow_cast-place g c = omega (arith, c.requires.fits c.loop-i.cursor c.in_ok-after.after c.loop-i.i c.in_ok-after.field-0-0 c.in_ok-after.ensures)

-- The record that was read starts at its place.
pub loop-i-preserved : goal.loop-i-preserved
loop-i-preserved g c =
    let l = c.loop-i in (
      length-set l.places l.i l.cursor.at ∙ l.invariant.0,
      each-read-more (goal.F-post g c.args.read) c.args.start l.places l.i l.cursor c.in_ok-after.after c.in_ok-after.field-0-0 l.invariant.1 (omega (arith, c.loop-i-test.true)) c.in_ok-after.ensures,
    )
