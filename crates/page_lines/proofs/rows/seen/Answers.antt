-- The part of the bytes is there where the window does not end before its lead; else nothing is.
-- So it is what stands in the window.
use Rattle.std.proofs.Common.{refl, ap, ◌∙◌, ℕ, List}
use Rattle.std.specs.Borrow.{Bor}
use Rattle.page_lines.specs.RowLaws.{part_seen}
use Rattle.page_lines.proofs.rows.seen.Goals as goal

pub returns : goal.returns
returns c = ap (λ (x : Bor (List ℕ)). x.now) c.unwrap_or.ensures ∙ part_seen c.args.bytes.now c.args.window c.requires _ _ refl c.get.ensures.lookup
