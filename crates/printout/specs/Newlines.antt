-- The newlines of a text.
use Rattle.std.specs.Prelude.{ℕ, suc, cond, List, [], ◌∷◌, eqb}

-- How many bytes of a text are a newline.
unfoldable pub newlines : List ℕ → ℕ
newlines [] = 0
newlines (x ∷ l) = cond (eqb x 10) (suc (newlines l)) (newlines l)
