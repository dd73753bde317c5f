-- The text of a sheet that was refused is the line of its refusal.
use Rattle.std.proofs.Common.{◌∙◌, sym, subst}
use Rattle.std.specs.Io.KnownBytes.{Appends}
use Rattle.written.specs.Written.{on_pages}
use Rattle.written.specs.WrittenLaws.{text-refused}
use Rattle.page_write.proofs.PagesPrinter.print_judged.Goals as goal

pub returns-in-Err-clause-bytes : goal.returns-in-Err-clause-bytes
returns-in-Err-clause-bytes g c =
    λ e. subst (Appends _ _) (text-refused on_pages c.in-Err.e _ (sym c.in-Err.is ∙ c.requires.left.outcome)) (c.print_refusal.ensures.bytes e)
