-- The sorts of the rows so far are known, and no more than any store needs that has them.
-- With each row this stays.
use Rattle.page_text.specs.PageText.{KnownIs}
use Rattle.page_text.proofs.known_sorts.Given as goal

abbrev pub invariant-loop-code : goal.invariant-loop-code
invariant-loop-code l = KnownIs l.rows l.code-index l.most
