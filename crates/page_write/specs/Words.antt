-- The words of Paging.antt over the rows of a judged sheet. Definitions only.
use Rattle.std.specs.Prelude.{ℕ, List}
use Rattle.page_lines.specs.declared.paged.PagedRows.{PagedRows}
use Rattle.page_write.specs.Paging.{PageLinesAsk}

abbrev pub PageLinesAsked : List ℕ → PagedRows → Type 0
PageLinesAsked bytes p = PageLinesAsk bytes p.entries.records.now p.entries.places.now p.sizes.now p.rows.now p.terms
