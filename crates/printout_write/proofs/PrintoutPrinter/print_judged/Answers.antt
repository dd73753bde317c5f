-- The text of a sheet that was refused is the line of its refusal.
use Rattle.std.proofs.Common.{◌∙◌, sym, subst}
use Rattle.std.specs.Io.KnownBytes.{Appends}
use Rattle.written.specs.Written.{in_lines}
use Rattle.written.specs.WrittenLaws.{text-refused}
use Rattle.printout_write.proofs.PrintoutPrinter.print_judged.Goals as goal

pub returns-in-Err-clause-bytes : goal.returns-in-Err-clause-bytes
returns-in-Err-clause-bytes g c =
    λ e. subst (Appends _ _) (text-refused in_lines c.in-Err.e _ (sym c.in-Err.is ∙ c.requires.outcome)) (c.print_refusal.ensures.bytes e)
