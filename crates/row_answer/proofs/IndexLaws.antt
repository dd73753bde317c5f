-- The integer constant that the sheet names at a place: its record lies in the sheet, and its number has four bytes.
use Prim.Native.Nat.{ℕ, ◌<◌}
use mathlib.Core.Path.{◌≡◌, ap, subst, ◌∙◌}
use mathlib.Core.List.{List}
use Rattle.std.specs.Prelude.{Option as Found, IfSome}
use lib.ListN.{get_or}
use Rattle.record.specs.Number.{u16_at}
use Rattle.row_answer.specs.Arguments.{integer_of, integer_at, IndexIs}

-- The term t that the sheet names at x, and the number found at its start.
module _ (s xs : List ℕ) (x : ℕ) {t : ℕ} (e : t ≡ u16_at s x) where
  pub index_is : (o : Found ℕ) → integer_of o ≡ integer_at s (get_or xs t 0) → IfSome o (λ v. v < 4294967296) → IndexIs s xs x o
  index_is o q h =
      record {
        is = q ∙ ap (λ (i : ℕ). integer_at s (get_or xs i 0)) e;
        small = λ v z. subst (λ (c : Found ℕ). IfSome c (λ v. v < 4294967296)) z h;
      }
