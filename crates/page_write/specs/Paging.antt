-- What writing the pages of a judged sheet piece by piece asks.
use Rattle.std.specs.Prelude.{ℕ, List}
use Rattle.page_lines.specs.Rows.{PageAsks}
use Rattle.page_text.specs.PageText.{PageStore}

-- The buffers are what `judge` left of the accepted sheet s of t terms, with what showing its pages asks for.
pub record PageLinesAsk (s b p z rows : List ℕ) (t : ℕ) : Type 0 where
  pub page : PageAsks b p z rows t
  pub store : PageStore s b p rows t
