-- The two routes (document 01): replacing the sort variables of a term, and when that is asked for.
use Rattle.std.specs.Prelude.{Bool, true, ◌&&◌, List, [], ◌∷◌}
use Rattle.sheet.specs.Sheet.{Binding}
use Rattle.substitution.specs.Substitution.{Map, apply}
use Rattle.substitution.specs.Premises.{clear}
use Rattle.row_rules.specs.Term.{Term, Terms, term, stop, ◌also◌}

-- A binding with its sort replaced; its name stays.
unfoldable pub replace_bindings : Map → List Binding → List Binding
unfolding apply
replace_bindings σ [] = []
replace_bindings σ (b ∷ bs) = record { name = b.name; sort = apply σ b.sort } ∷ replace_bindings σ bs

-- "Replacing through a term puts each sort that its record, or one below it, holds through Substitution; nothing else changes but
-- reference numbers."
unfoldable mutual
  unfolding apply replace_bindings

  pub replace : Map → Term → Term
  replace σ (term k a n o ts bs ns is) = term k a n (apply σ o) (replace_all σ ts) (replace_bindings σ bs) ns (replace_all σ is)

  pub replace_all : Map → Terms → Terms
  replace_all σ stop = stop
  replace_all σ (t also ts) = replace σ t also replace_all σ ts

-- "the parameters that count are those of each Par in the sorts that the term's record, or one below it, holds": no replaced name,
-- and no name inside an image, is one of them.
unfoldable pub clear_bindings : Map → List Binding → Bool
unfolding clear
clear_bindings σ [] = true
clear_bindings σ (b ∷ bs) = clear σ b.sort && clear_bindings σ bs

unfoldable mutual
  unfolding clear clear_bindings

  pub clear_term : Map → Term → Bool
  clear_term σ (term k a n o ts bs ns is) = clear σ o && (clear_bindings σ bs && (clear_terms σ ts && clear_terms σ is))

  pub clear_terms : Map → Terms → Bool
  clear_terms σ stop = true
  clear_terms σ (t also ts) = clear_term σ t && clear_terms σ ts
