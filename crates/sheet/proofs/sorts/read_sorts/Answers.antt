use Rattle.std.proofs.Common.{rules}
use Rattle.std.proofs.lemmas.Result.{err_from_is_err_and}
use mathlib.Core.Path.{refl}
use Rattle.sheet.proofs.SortLaws.{loading-start, loading-stop, loading_step}
use Rattle.sheet.proofs.sorts.read_sorts.Goals as goal

pub loop-i-init : goal.loop-i-init
loop-i-init c = ((refl, refl, refl), loading-start c.requires)

pub returns-in_err-cursor-clause-read : goal.returns-in_err-cursor-clause-read
returns-in_err-cursor-clause-read c = let p = err_from_is_err_and c.from_residual.result c.from_residual.ensures.1 in
    rw (p.1, p.2) (loading-stop c.loop-i.invariant.1 c.loop-i-test.true c.in_err-cursor.field-0.0 c.in_err-cursor.ensures.next)

pub loop-i-preserved : goal.loop-i-preserved
loop-i-preserved c = (search rules, loading_step c.loop-i.invariant.1 c.loop-i-test.true c.in_ok-cursor.ensures.next)
