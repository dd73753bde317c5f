-- A TEST THAT SAYS WHETHER A TERM ABSTRACTS ANOTHER, that can be run, on trees; its parts serve the test on records too (SheetTest).
use Rattle.std.specs.Prelude.{ℕ, Bool, true, false, not, ◌&&◌, ◌||◌, List, [], ◌∷◌, eqb}
use Rattle.std.proofs.Math.Option.{Option, none, some}
use Rattle.record.specs.Sort.{Sort, same_names, same}
use Rattle.sheet.specs.Sheet.{Binding}
use Rattle.row_rules.specs.Verdict.{Verdict, sort, refused}
use Rattle.row_rules.specs.Term.{Site, Term, Terms, term, stop, ◌also◌, constants_of, verdict_of}
use Rattle.abstraction.specs.Abstraction.{reads_arguments, reads_indices}

---------------------------------------------------------------- fields
unfoldable pub same_bindings : List Binding → List Binding → Bool
unfolding same
same_bindings [] [] = true
same_bindings [] (c ∷ cs) = false
same_bindings (b ∷ bs) [] = false
same_bindings (b ∷ bs) (c ∷ cs) = eqb b.name c.name && (same b.sort c.sort && same_bindings bs cs)

-- Two records have the same kind, name, number, sort, bindings and names.
unfoldable pub same_fields : ℕ → ℕ → ℕ → Sort → List Binding → List ℕ → ℕ → ℕ → ℕ → Sort → List Binding → List ℕ → Bool
unfolding same same_bindings same_names
same_fields k a n o bs ns l b m p cs ms = eqb k l && (eqb a b && (eqb n m && (same o p && (same_bindings bs cs && same_names ns ms))))

abbrev pub same_constant : Option ℕ → Option ℕ → Bool
same_constant none none = true
same_constant none (some j) = false
same_constant (some i) none = false
same_constant (some i) (some j) = eqb i j

unfoldable pub same_constants : List (Option ℕ) → List (Option ℕ) → Bool
same_constants [] [] = true
same_constants [] (y ∷ ys) = false
same_constants (x ∷ xs) [] = false
same_constants (x ∷ xs) (y ∷ ys) = same_constant x y && same_constants xs ys

-- Where a verdict looks at the constants of a list, they are the same.
unfoldable pub keeps_constants : Bool → List (Option ℕ) → List (Option ℕ) → Bool
unfolding same_constants
keeps_constants reads xs ys = not reads || same_constants xs ys

---------------------------------------------------------------- terms
abbrev pub no_terms : Terms → Bool
no_terms stop = true
no_terms (t also ts) = false

abbrev pub no_bindings : List Binding → Bool
no_bindings [] = true
no_bindings (b ∷ bs) = false

abbrev pub no_numbers : List ℕ → Bool
no_numbers [] = true
no_numbers (n ∷ ns) = false

-- The term is a Var of the sort of the verdict.
unfoldable pub stands_in : Verdict → Term → Bool
unfolding same
stands_in (refused c) u = false
stands_in (sort s) (term k a n o ts bs ns is) = eqb k 5 && (eqb n 0 && (same o s && (no_terms ts && (no_bindings bs && (no_numbers ns && no_terms is)))))

-- THE TEST: u is a Var of the sort that t has, or the same record over parts that pass it, with the constants that a verdict looks at.
unfoldable mutual
  unfolding verdict_of constants_of stands_in same_fields keeps_constants

  pub abstracted : (Site → Verdict) → ℕ → Term → Term → Bool
  abstracted J column (term k a n o ts bs ns is) (term l b m p us cs ms js) =
      stands_in (verdict_of J (term k a n o ts bs ns is)) (term l b m p us cs ms js)
      || (same_fields k a n o bs ns l b m p cs ms
      && (abstracted_each J column ts us && (abstracted_each J column is js
      && (keeps_constants (reads_arguments column k n) (constants_of ts) (constants_of us) && keeps_constants (reads_indices k) (constants_of is) (constants_of js)))))

  pub abstracted_each : (Site → Verdict) → ℕ → Terms → Terms → Bool
  abstracted_each J column stop stop = true
  abstracted_each J column stop (u also us) = false
  abstracted_each J column (t also ts) stop = false
  abstracted_each J column (t also ts) (u also us) = abstracted J column t u && abstracted_each J column ts us
