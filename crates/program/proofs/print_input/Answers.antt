-- A sheet that is longer than any sheet is refused, and its text is the line of that refusal. Where a read failed, the output was not
-- touched.
use Rattle.program.specs.InputLaws.{printed-longer, kept-failed}
use Rattle.program.proofs.print_input.Goals as goal

pub returns-in-None-clause-printed : goal.returns-in-None-clause-printed
returns-in-None-clause-printed g c =
    let h = rw c.in-None.is at c.in_ok-length.ensures in
    printed-longer g.P.Printer.layout (g.R.Read.remaining c.args.input.now) _ _ h c.print_refusal.ensures.lines c.print_refusal.ensures.bytes

pub returns-in_err-length-clause-kept : goal.returns-in_err-length-clause-kept
returns-in_err-length-clause-kept g c = kept-failed _ (g.W.Write.contents c.args.output.now)
